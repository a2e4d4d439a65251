use Rattle.std.proofs.Common.{◌∙◌, sym, ap, arith}
use Rattle.std.proofs.lemmas.List.{map-append}
use Rattle.std.proofs.lemmas.Result.{err_from_is_err_and}
use Rattle.scad_ast.specs.StatementView.{binder_of, binders_of}
use Rattle.scad_grammar.specs.Classes.{name_class, has_class}
use Rattle.scad_grammar.specs.Reads.{expr_read}
use Rattle.scad_grammar.specs.StatementReads.{binder_in}
use Rattle.scad_grammar.proofs.lemmas.Readers.{loop_more, loop_end, loop_fault}
use Rattle.scad_expressions.specs.Views.{past_comma}
use Rattle.scad_expressions.proofs.lemmas.Lengths.{binder_shorter}
use Rattle.scad_expressions.proofs.lemmas.Loops.{trailing_more, trailing_end, trailing_stop, past_shorter}
use Rattle.scad_expressions.proofs.lemmas.Stops.{binder_goes, memory_ran_out}
use Rattle.scad_parser.proofs.loop_variables.more_binders.Goals as goal

pub returns-in_err-item : goal.returns-in_err-item
returns-in_err-item c = record {
  value =
      let p = err_from_is_err_and c.from_residual.result c.from_residual.ensures.1 in
      rw (p.1, p.2) (binder_goes c.in_err-item.field-0.0 _ _ (λ x e. loop_fault _ _ _ _ c.commas.invariant (trailing_stop (has_class name_class) _ (binder_shorter c.args.depth) c.commas.rest.now x (sym c.is_comma_and_name.ensures ∙ c.commas-test.true) (ap (binder_in c.args.depth (expr_read c.args.depth)) (sym c.behind_comma.ensures.rest) ∙ e))) c.in_err-item.ensures.value);
}

pub commas-preserved : goal.commas-preserved
commas-preserved c = rw (c.in_ok-push.ensures.items, map-append) (loop_more _ _ _ _ _ c.commas.invariant (trailing_more (has_class name_class) _ (binder_shorter c.args.depth) c.commas.rest.now (binder_of c.in_ok-item.item) c.in_ok-item.after.now (sym c.is_comma_and_name.ensures ∙ c.commas-test.true) (ap (binder_in c.args.depth (expr_read c.args.depth)) (sym c.behind_comma.ensures.rest) ∙ c.in_ok-item.ensures.value)))

pub commas-smaller : goal.commas-smaller
commas-smaller c =
    let left = binder_shorter c.args.depth (past_comma c.commas.rest.now) (binder_of c.in_ok-item.item) c.in_ok-item.after.now (ap (binder_in c.args.depth (expr_read c.args.depth)) (sym c.behind_comma.ensures.rest) ∙ c.in_ok-item.ensures.value) in
    omega (arith, left, past_shorter (has_class name_class) c.commas.rest.now (sym c.is_comma_and_name.ensures ∙ c.commas-test.true))

pub returns : goal.returns
returns c = record { value = rw c.behind_comma-2.ensures.rest (loop_end _ _ _ _ c.commas.invariant (trailing_end (has_class name_class) _ (binder_shorter c.args.depth) c.commas.rest.now (sym c.is_comma_and_name.ensures ∙ c.commas-test.false))) }

pub returns-in_err-push : goal.returns-in_err-push
returns-in_err-push c = record { value = memory_ran_out binders_of c.from_residual-in_err-push.result _ c.from_residual-in_err-push.ensures.1 }
