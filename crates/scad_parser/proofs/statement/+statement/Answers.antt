use Rattle.std.proofs.Common.{◌≡◌, false, [], ◌∷◌, rules, ◌∙◌, sym}
use Rattle.std.proofs.lemmas.List.{map-append}
use Rattle.std.proofs.lemmas.Result.{err_from_is_err_and}
use Rattle.scad_ast.specs.StatementView.{statement_of, statements_of, core_of, body_of}
use Rattle.scad_grammar.specs.Classes.{name_class, special_class, semicolon_sign, open_brace_sign, close_brace_sign, has_class_in, has_class}
use Rattle.scad_grammar.specs.Grammar.{assignment_term}
use Rattle.scad_grammar.specs.Reading.{next_is}
use Rattle.scad_grammar.specs.Reads.{expr_read}
use Rattle.scad_grammar.specs.StatementReads.{firsts_of_statement, param_in, body_read, instance_in, ended_read, definition_read}
use Rattle.scad_grammar.proofs.lemmas.Readers.{loop_more, loop_end, loop_fault}
use Rattle.scad_expressions.proofs.lemmas.Depths.{statement_none, statement_deeper, body_none, body_deeper}
use Rattle.scad_expressions.proofs.lemmas.Given.{assigned_ahead, none_ahead}
use Rattle.scad_expressions.proofs.lemmas.Lengths.{statement_strict}
use Rattle.scad_expressions.proofs.lemmas.Loops.{many_more, many_end, many_stop}
use Rattle.scad_expressions.proofs.lemmas.Stops.{same_read, statement_goes, memory_ran_out, boxed_gives, closed_gives}
use Rattle.scad_expressions.proofs.lemmas.Trees.{statements_roll}
use Rattle.scad_parser.proofs.statement.+statement.Goals as goal

pub statement-returns-then-depth-eq0 : goal.statement-returns-then-depth-eq0
statement-returns-then-depth-eq0 t c = record { value = rw (statement_none c.args.depth c.args.tokens.now c.if-depth-eq0.true) (search rules) }

pub statement-returns : goal.statement-returns
statement-returns t c = record { value = rw (statement_deeper c.args.depth c.args.tokens.now c.if-depth-eq0.false) c.statement_over.ensures.value }

pub body-returns-then-depth-eq0 : goal.body-returns-then-depth-eq0
body-returns-then-depth-eq0 t c = record { value = rw (body_none c.args.depth c.args.tokens.now c.if-depth-eq0.true) (search rules) }

pub body-returns : goal.body-returns
body-returns t c = record { value = rw (body_deeper c.args.depth c.args.tokens.now c.if-depth-eq0.false) c.body_over.ensures.value }

pub statements-returns-in_err-item : goal.statements-returns-in_err-item
statements-returns-in_err-item t c = record {
  value =
      let p = err_from_is_err_and c.from_residual.result c.from_residual.ensures.1 in
      rw (p.1, p.2) (statement_goes c.in_err-item.field-0.0 _ _ (λ x e. loop_fault _ _ _ _ c.statements.invariant (many_stop (has_class_in firsts_of_statement) _ (statement_strict c.args.depth) c.statements.rest.now x (sym c.begins.ensures ∙ c.statements-test.true) e)) c.in_err-item.ensures.value);
}

pub statements-statements-preserved : goal.statements-statements-preserved
statements-statements-preserved t c = rw (c.in_ok-push.ensures.items, map-append) (loop_more _ _ _ _ _ c.statements.invariant (many_more (has_class_in firsts_of_statement) _ (statement_strict c.args.depth) c.statements.rest.now (statement_of c.in_ok-item.item) c.in_ok-item.after.now (sym c.begins.ensures ∙ c.statements-test.true) c.in_ok-item.ensures.value))

pub statements-statements-smaller : goal.statements-statements-smaller
statements-statements-smaller t c = statement_strict c.args.depth c.statements.rest.now (statement_of c.in_ok-item.item) c.in_ok-item.after.now c.in_ok-item.ensures.value

pub statements-returns : goal.statements-returns
statements-returns t c = record { value = rw (statements_roll (record { items = c.statements.items })) (loop_end _ _ _ _ c.statements.invariant (many_end (has_class_in firsts_of_statement) _ (statement_strict c.args.depth) c.statements.rest.now (sym c.begins.ensures ∙ c.statements-test.false))) }

pub statements-returns-in_err-push : goal.statements-returns-in_err-push
statements-returns-in_err-push t c = record { value = memory_ran_out statements_of c.from_residual-in_err-push.result _ c.from_residual-in_err-push.ensures.1 }

pub module-returns-in_err-bytes : goal.module-returns-in_err-bytes
module-returns-in_err-bytes t c = record { value = memory_ran_out statement_of c.from_residual-in_err-bytes.result _ c.from_residual-in_err-bytes.ensures.1 }

pub call-returns-in_err-bytes : goal.call-returns-in_err-bytes
call-returns-in_err-bytes t c = record { value = memory_ran_out core_of c.from_residual-in_err-bytes.result _ c.from_residual-in_err-bytes.ensures.1 }

pub boxed_body-returns : goal.boxed_body-returns
boxed_body-returns t c = record { value = boxed_gives body_of c.body.result c.boxed.result _ c.body.ensures.value c.boxed.ensures }

pub braces-returns : goal.braces-returns
braces-returns t c = record { value = closed_gives statements_of (has_class close_brace_sign) c.statements.result c.closed.result _ c.statements.ensures.value c.closed.ensures }

pub statement_over-returns-in-Some-assigned : goal.statement_over-returns-in-Some-assigned
statement_over-returns-in-Some-assigned t c = record {
  value =
      let inner = c.args.inner in
      let other = definition_read (expr_read c.args.depth) (param_in inner (expr_read inner)) (body_read inner) (instance_in inner (body_read inner)) in
      let first : next_is (has_class semicolon_sign) c.args.tokens.now ≡ false = search rules in
      let second : next_is (has_class open_brace_sign) c.args.tokens.now ≡ false = search rules in
      let third : next_is (has_class special_class) c.args.tokens.now ≡ false = search rules in
      same_read statement_of c.assignment.result _ _
      (rw (first, second, third) (assigned_ahead assignment_term (name_class ∷ []) (ended_read (expr_read c.args.depth)) other c.args.tokens.now c.in-Some-assigned.name.now c.in-Some-assigned.rest.now c.in-Some-assigned.ensures.some))
      c.assignment.ensures.value;
}

pub statement_over-returns-in_default-assigned : goal.statement_over-returns-in_default-assigned
statement_over-returns-in_default-assigned t c = record {
  value =
      let inner = c.args.inner in
      let other = definition_read (expr_read c.args.depth) (param_in inner (expr_read inner)) (body_read inner) (instance_in inner (body_read inner)) in
      let first : next_is (has_class semicolon_sign) c.args.tokens.now ≡ false = search rules in
      let second : next_is (has_class open_brace_sign) c.args.tokens.now ≡ false = search rules in
      let third : next_is (has_class special_class) c.args.tokens.now ≡ false = search rules in
      same_read statement_of c.definition.result _ _
      (rw (first, second, third) (none_ahead assignment_term (name_class ∷ []) (ended_read (expr_read c.args.depth)) other c.args.tokens.now c.in_default-assigned.ensures.none))
      c.definition.ensures.value;
}
