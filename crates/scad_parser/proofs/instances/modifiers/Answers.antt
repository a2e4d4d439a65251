use Rattle.std.proofs.Common.{Ok, ◌∙◌, sym, ap}
use Rattle.std.proofs.lemmas.List.{map-append}
use Rattle.scad_lexer.specs.declared.token.Token.{Token}
use Rattle.scad_ast.specs.StatementView.{modifier_of, modifiers_of}
use Rattle.scad_grammar.specs.declared.SyntaxFault.{SyntaxFault}
use Rattle.scad_grammar.specs.Classes.{has_class_in}
use Rattle.scad_grammar.specs.Grammar.{modifier_term}
use Rattle.scad_grammar.specs.Reading.{Read, then_read}
use Rattle.scad_grammar.specs.StatementReads.{modifier_signs}
use Rattle.scad_grammar.proofs.lemmas.Readers.{loop_more, loop_end}
use Rattle.scad_expressions.proofs.lemmas.Lengths.{mark_strict}
use Rattle.scad_expressions.proofs.lemmas.Loops.{many_more, many_end}
use Rattle.scad_expressions.proofs.lemmas.Stops.{memory_ran_out}
use Rattle.scad_parser.proofs.instances.modifiers.Goals as goal

pub modifiers-preserved : goal.modifiers-preserved
modifiers-preserved c =
    let some = c.in-Some.ensures.some in
    let read = ap (λ (q : Read Token SyntaxFault Token). then_read q (λ t us. Ok (modifier_term t, us))) some.1 ∙ ap (λ m. Ok (m, c.in-Some.after.now)) (sym c.placed.ensures) in
    rw (c.in_ok-push.ensures.items, map-append) (loop_more _ _ _ _ _ c.modifiers.invariant (many_more (has_class_in modifier_signs) _ mark_strict c.modifiers.rest.now (modifier_of c.placed.result) c.in-Some.after.now some.0 read))

pub modifiers-smaller : goal.modifiers-smaller
modifiers-smaller c =
    let read = ap (λ (q : Read Token SyntaxFault Token). then_read q (λ t us. Ok (modifier_term t, us))) c.in-Some.ensures.some.1 in
    mark_strict c.modifiers.rest.now (modifier_term c.in-Some.token.now) c.in-Some.after.now read

pub returns : goal.returns
returns c = record { value = loop_end _ _ _ _ c.modifiers.invariant (many_end (has_class_in modifier_signs) _ mark_strict c.modifiers.rest.now c.in_default.ensures.none) }

pub returns-in_err-push : goal.returns-in_err-push
returns-in_err-push c = record { value = memory_ran_out modifiers_of c.from_residual.result _ c.from_residual.ensures.1 }
