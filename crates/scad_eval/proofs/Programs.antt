-- The design of a program, from the members of its block.
use Rattle.std.proofs.Common.{◌≡◌, ℕ, ◌-◌, false, List, [], ◌∷◌, map, None, option_map, Result, Ok, Err, refl, sym, ap, subst, ◌∙◌}
use Rattle.std.specs.Prelude.{IfOk, IfErr}
use Rattle.text_place.specs.declared.fault.Stop.{Stop}
use Rattle.text_place.specs.declared.fault.Stop.TheVariants.{Fault, NoMemory}
use Rattle.plane_predicate.specs.declared.unit.Unit.{Unit as LengthUnit}
use Rattle.csg_tree.specs.declared.tree.CsgTree.{CsgTree}
use Rattle.csg_tree.specs.HalfSpaceTrees.{Tree}
use Rattle.csg_tree.specs.ProperTrees.{IsProper}
use Rattle.csg_tree.specs.Trees.{plain_tree_of}
use Rattle.scad_ast.specs.Terms.{StatementTerm, StatementTerms, statements_from}
use Rattle.scad_value.specs.Values.{Val}
use Rattle.scad_scope.specs.Names.{Pairs, ScopeRow, env_of, first_row, first_bindings}
use Rattle.scad_scope.specs.Table.{rows_of, bindings_of}
use Rattle.scad_definitions.specs.Blocks.{BlockTable, block_table}
use Rattle.scad_func.specs.Limits.{most_calls, most_evaluations}
use Rattle.scad_func.specs.Meaning.{Outcome, Gives, then_with, Env, InnerScope, NoScope, no_activation, entered_scope}
use Rattle.scad_func.specs.View.{env_seen, table_in}
use Rattle.scad_func.specs.Definitions.{statements_at, block_scope, IsWholeTable}
use Rattle.scad_func.specs.Evaluations.{OneScopeMore, env_here}
use Rattle.scad_func.specs.declared.source.Source.{Source}
use Rattle.scad_func.specs.declared.evaluation.Evaluation.{Evaluation}
use Rattle.scad_design.specs.Designs.{DesignTree}
use Rattle.scad_design.specs.Trees.{IsPlacedAs, IsStopOf}
use Rattle.scad_design.specs.View.{plain_of}
use Rattle.scad_design.specs.declared.design.Design.{Design}
use Rattle.scad_instance_rules.specs.declared.position.Position.{Position}
use Rattle.scad_instance_rules.specs.declared.position.MemberResults.{MemberResults}
use Rattle.scad_eval.specs.declared.evaluator.InstanceEvaluator.{InstanceEvaluator}
use Rattle.scad_meaning.specs.Verdicts.{Judge, IsRightJudge}
use Rattle.scad_meaning.specs.Meaning.{Context, evaluator_with, each_in_scope, program_context, root_or_union, design_of, block_members}
use Rattle.scad_instance_rules.specs.Seen.{HasOutcome, member_designs_of}
use Rattle.scad_eval.specs.Keeping.{context_at, EvaluatesKeeping}
use Rattle.scad_meaning.specs.Sources.{a_tree, a_fault, IsMeaning, IsMeaningOfDesign, IsMeaningStop, HoldsFault}
use Rattle.scad_meaning.proofs.lemmas.ProgramPlaces.{stop_held}
use Rattle.scad_eval.specs.Programs.{MeetsDesign}
use Rattle.scad_eval.proofs.Evaluating.{tree_meant, placing_stops}
use Rattle.scad_eval.proofs.Outcomes.{along, stop_outcome}

-- the scope outside all others
first_env : (source : Source) (rows : List ScopeRow) → rows ≡ first_row ∷ [] → env_seen source rows 0 ≡ InnerScope [] [] [] no_activation NoScope
unfolding env_of
first_env source rows e = ap (λ l. env_seen source l 0) e

-- the scope of a program's block
program_scope : (source : Source) (rows : List ScopeRow) (program : List StatementTerm) (env : Env) → IsWholeTable (table_in source)
    → table_in source ≡ block_table program → rows ≡ first_row ∷ []
    → env ≡ block_scope (table_in source) 0 no_activation (env_seen source rows 0)
    → env ≡ entered_scope (statements_from program) no_activation (InnerScope [] [] [] no_activation NoScope)
program_scope source rows program env whole table first is =
    is ∙ whole.scopes 0 no_activation (env_seen source rows 0)
    ∙ ap (λ (t : BlockTable). entered_scope (statements_at t 0) no_activation (env_seen source rows 0)) table
    ∙ ap (λ (outer : Env). entered_scope (statements_from program) no_activation outer) (first_env source rows first)

abbrev pub context_of : ℕ → Env → Pairs Val → Context
context_of calls env bindings = record { calls_left = most_calls - calls; env = env; bindings = bindings; inside = None; under_root = false }

pub program_begins : {old new : Evaluation} {before : ℕ} → OneScopeMore old new before → (program : List StatementTerm)
    → IsWholeTable (table_in old.source.now) → table_in old.source.now ≡ block_table program → rows_of old.scopes.now ≡ first_row ∷ []
    → bindings_of old.scopes.now ≡ first_bindings → old.calls ≡ 0
    → env_here new ≡ block_scope (table_in old.source.now) 0 no_activation (env_seen old.source.now (rows_of old.scopes.now) 0)
    → context_of new.calls (env_here new) (bindings_of new.scopes.now) ≡ program_context first_bindings (statements_from program)
program_begins {old = old} {new = new} e program whole table rows bindings none is =
    ap (λ n. context_of n (env_here new) (bindings_of new.scopes.now)) (e.calls ∙ none)
    ∙ ap (λ (x : Env). context_of 0 x (bindings_of new.scopes.now))
    (program_scope old.source.now (rows_of old.scopes.now) program (env_here new) whole table rows is)
    ∙ ap (λ (c : Pairs Val). context_of 0 (entered_scope (statements_from program) no_activation (InnerScope [] [] [] no_activation NoScope)) c) (e.bindings ∙ bindings)

-- the members of the block
pub program_members : {old new : InstanceEvaluator} {position : Position} {r : Result MemberResults Stop} {Kept : Type 0} (statements : StatementTerms)
    → EvaluatesKeeping member_designs_of old new position r Kept (λ evaluator. block_members evaluator None statements)
    → (program : List StatementTerm) → context_at old position ≡ program_context first_bindings (statements_from program)
    → statements ≡ statements_from program → old.evaluation.depth ≡ 0 → old.evaluation.turns ≡ 0 → old.leaves ≡ 0
    → (judge : Judge) → IsRightJudge judge → HasOutcome member_designs_of r new.evaluation.turns new.leaves
    (each_in_scope (evaluator_with old.unit judge most_evaluations) (program_context first_bindings (statements_from program)) (statements_from program) 0 0)
program_members {old = old} {position = position} statements h program here same depth turns leaves judge right =
    along (sym (
    ap (λ d. block_members (evaluator_with old.unit judge (most_evaluations - d)) None statements (context_at old position) old.evaluation.turns old.leaves) depth
    ∙ ap (λ x. block_members (evaluator_with old.unit judge most_evaluations) None statements x old.evaluation.turns old.leaves) here
    ∙ ap (λ st. block_members (evaluator_with old.unit judge most_evaluations) None st (program_context first_bindings (statements_from program)) old.evaluation.turns old.leaves) same
    ∙ ap (λ n. block_members (evaluator_with old.unit judge most_evaluations) None (statements_from program) (program_context first_bindings (statements_from program)) n old.leaves) turns
    ∙ ap (λ n. block_members (evaluator_with old.unit judge most_evaluations) None (statements_from program) (program_context first_bindings (statements_from program)) 0 n) leaves))
    (h.equation judge right)

pub program_statements : (old new : Source) (program : List StatementTerm) → new ≡ old → table_in old ≡ block_table program
    → statements_at (table_in new) 0 ≡ statements_from program
program_statements old new program same e = ap (λ (x : Source). statements_at (table_in x) 0) same ∙ ap (λ (t : BlockTable). statements_at t 0) e

-- the design
module _ (unit : LengthUnit) (judge : Judge) (bindings : Pairs Val) (statements : StatementTerms) where
  pub design_outcome : (ms : MemberResults) (design : Design) (m l : ℕ)
      → HasOutcome member_designs_of (Ok ms) m l (each_in_scope (evaluator_with unit judge most_evaluations) (program_context bindings statements) statements 0 0)
      → plain_of design ≡ root_or_union (option_map plain_of ms.root) (map plain_of ms.designs.items)
      → HasOutcome (λ leaves. plain_of) (Ok design) m 0 (design_of unit judge bindings statements)
  unfolding design_of
  design_outcome ms design m l t e = record {
    is = ap (λ o. then_with o (λ turns ms. Gives turns (root_or_union ms.root ms.designs))) t.is ∙ ap (λ d. Gives m d) (sym e);
  }

  pub design_stops : (stop : Stop) (m l n : ℕ)
      → HasOutcome member_designs_of (Err stop) m l (each_in_scope (evaluator_with unit judge most_evaluations) (program_context bindings statements) statements 0 0)
      → HasOutcome (λ leaves. plain_of) (Err stop) n 0 (design_of unit judge bindings statements)
  unfolding design_of
  design_stops stop m l n t = stop_outcome (λ turns ms. Gives turns (root_or_union ms.root ms.designs)) t

-- the tree of a design
module _ (unit : LengthUnit) (program : List StatementTerm) (design : Design) (told : MeetsDesign unit program (Ok design)) where
  pub placed_tree : (r : Result CsgTree Stop) → IfOk r (λ tree. IsPlacedAs (plain_of design) (plain_tree_of tree))
      → IfOk r (λ tree. IsMeaning unit program (a_tree (plain_tree_of tree)))
  placed_tree (Ok tree) h = tree_meant unit program design (plain_tree_of tree) told h
  placed_tree (Err stop) h = tt

  pub placing_stop : (r : Result CsgTree Stop) → IfErr r (IsStopOf (plain_of design) []) → IfErr r (IsMeaningStop unit program)
  placing_stop (Ok tree) h = tt
  placing_stop (Err stop) h = placing_stops unit program design stop told h

  pub proper_tree : ((tree : Tree) → IsMeaning unit program (a_tree tree) → IsProper tree)
      → (r : Result CsgTree Stop) → IfOk r (λ tree. IsPlacedAs (plain_of design) (plain_tree_of tree))
      → IfOk r (λ tree. IsProper (plain_tree_of tree))
  proper_tree proper (Ok tree) h = proper (plain_tree_of tree) (tree_meant unit program design (plain_tree_of tree) told h)
  proper_tree proper (Err stop) h = tt

-- the fault of a program stands at one of its places
pub design_stop_held : (unit : LengthUnit) (program : List StatementTerm) (stop : Stop) → MeetsDesign unit program (Err stop) → HoldsFault program stop
design_stop_held unit program (Fault fault) told = stop_held unit program (Fault fault) (λ judge right.
    subst (λ (out : Outcome DesignTree). IsMeaningOfDesign out (a_fault fault.kind fault.place)) (sym (told judge right).1.is) refl)
design_stop_held unit program NoMemory told = tt
