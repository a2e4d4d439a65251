use Rattle.std.proofs.Common.{◌≡◌, ◌∙◌, length, map, sym, ap, subst}
use Rattle.std.specs.Prelude.{IsTrue}
use Rattle.scad_ast.specs.ProgramView.{program_of}
use Rattle.scad_definitions.specs.Blocks.{entities_of_program, block_table, BlockTable, StandsInOrder}
use Rattle.scad_definitions.specs.Numbered.{are_entries_below}
use Rattle.scad_definitions.specs.TextView.{function_of, module_of, names_of_function, names_of_module}
use Rattle.scad_definitions.specs.Walk.{table_so_far}
use Rattle.scad_definitions.proofs.Held.{mapped_length}
use Rattle.scad_definitions.proofs.lemmas.Numbered.{program_below}
use Rattle.scad_definitions.proofs.Order.{program_order}
use Rattle.scad_definitions.proofs.Walks.{whole_text}
use Rattle.scad_definitions.proofs.blocks.Blocks.of.Goals as goal

pub invariant_of-result : goal.invariant_of-result
invariant_of-result c =
    let w = c.in_ok-walk.walk in
    let e : table_so_far w ≡ block_table (program_of c.args.program.now) =
    c.in_ok-walk.ensures ∙ whole_text (entities_of_program (program_of c.args.program.now)) in
    let below = subst (λ (t : BlockTable). IsTrue (are_entries_below (length t.functions) (length t.modules) t.entries)) (sym e)
    (program_below (program_of c.args.program.now)) in
    record {
      numbered = subst (λ t. IsTrue t)
          (ap (λ n. are_entries_below n (length (table_so_far w).modules) (table_so_far w).entries) (mapped_length function_of w.functions.items)
          ∙ ap (λ n. are_entries_below (length w.functions.items) n (table_so_far w).entries) (mapped_length module_of w.modules.items)) below;
      functions_named = c.in_ok-function_names.ensures ∙ ap (map names_of_function) c.deref.ensures.value;
      modules_named = c.in_ok-module_names.ensures ∙ ap (map names_of_module) c.deref-2.ensures.value;
    }

pub returns-clause-text : goal.returns-clause-text
returns-clause-text c = c.in_ok-walk.ensures ∙ whole_text (entities_of_program (program_of c.args.program.now))

pub returns-clause-order : goal.returns-clause-order
returns-clause-order c = subst (λ (t : BlockTable). StandsInOrder t)
    (sym (c.in_ok-walk.ensures ∙ whole_text (entities_of_program (program_of c.args.program.now))))
    (program_order (program_of c.args.program.now))

pub returns-clause-functions : goal.returns-clause-functions
returns-clause-functions c = ap (λ (t : BlockTable). length t.functions)
    (c.in_ok-walk.ensures ∙ whole_text (entities_of_program (program_of c.args.program.now)))

pub returns-clause-modules : goal.returns-clause-modules
returns-clause-modules c = ap (λ (t : BlockTable). length t.modules)
    (c.in_ok-walk.ensures ∙ whole_text (entities_of_program (program_of c.args.program.now)))
