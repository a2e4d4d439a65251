use Rattle.std.proofs.Common.{◌≡◌, Some, None, subst}
use Rattle.std.proofs.lemmas.Result.{err_from_is_err_and, IfErr-at_err, IfOk-at_ok}
use Rattle.text_place.specs.declared.fault.Stop.{Stop}
use Rattle.text_place.specs.declared.fault.FaultKind.TheVariants.{BadArgument}
use Rattle.scad_ast.specs.ExprView.{term_of, arg_of}
use Rattle.scad_value.specs.declared.bounded_value.BoundedValue.{BoundedValue}
use Rattle.scad_definitions.specs.Arguments.{destination_of, argument_place}
use Rattle.scad_definitions.specs.ArgumentsView.{names_in, call_arguments_of, destination_term, IsFaultAt, IsOneMoreGiven}
use Rattle.scad_definitions.specs.SoFarView.{only_arguments}
use Rattle.scad_definitions.specs.declared.parameters.Destination.{Destination}
use Rattle.scad_definitions.specs.declared.so_far.ArgumentsSoFar.{ArgumentsSoFar}
use Rattle.scad_func.specs.Evaluations.{expression_context_here}
use Rattle.scad_func.proofs.lemmas.Kept.{keeps_same}
use Rattle.scad_instance_rules.proofs.Said.{special_form, taken, refused}
use Rattle.scad_instance_rules.proofs.arguments.echo_argument.Goals as goal

pub returns-in_err-held-in-Special : goal.returns-in_err-held-in-Special
returns-in_err-held-in-Special c =
    let p = err_from_is_err_and c.from_residual.result c.from_residual.ensures.1 in
    let so_far = c.args.so_far in
    let a = arg_of c.args.arg.now in
    let x = c.in-Special in
    let h = IfErr-at_err (λ (s : Stop). (destination_of (names_in so_far.names) 0 (call_arguments_of so_far.given) a ≡ None) × IsFaultAt s BadArgument (argument_place a))
    c.in_err-held-in-Special.ensures.err c.destination_for-free.ensures.none in
    record {
      value = rw (p.1, p.2) (refused (expression_context_here c.args.evaluation.now) a x.field-0 x.field-1 (term_of x.value)
          (special_form c.args.arg.now x.field-0 x.field-1 x.value x.is) (names_in so_far.names) so_far.given c.args.evaluation.now.turns
          c.in_err-held-in-Special.field-0.0 c.args.evaluation.now.turns h.0 h.1);
      kept = keeps_same _;
    }

pub returns-in_ok-held-in-Special : goal.returns-in_ok-held-in-Special
returns-in_ok-held-in-Special c =
    let so_far = c.args.so_far in
    let a = arg_of c.args.arg.now in
    let x = c.in-Special in
    let d = c.in_ok-held-in-Special.destination in
    let w = c.in_ok-held-in-Special.ensures.ok in
    record {
      value = taken (expression_context_here c.args.evaluation.now) a x.field-0 x.field-1 (term_of x.value)
          (special_form c.args.arg.now x.field-0 x.field-1 x.value x.is) (names_in so_far.names) so_far.given c.args.evaluation.now.turns
          d c.evaluate-next.new.evaluation.turns c.evaluate-next.result (only_arguments c.with_next.result)
          (IfOk-at_ok (λ (d : Destination). destination_of (names_in so_far.names) 0 (call_arguments_of so_far.given) a ≡ Some (destination_term d)) w.1 c.destination_for-free.ensures.free)
          c.evaluate-next.ensures.value
          (subst (λ (v : ArgumentsSoFar BoundedValue). IsOneMoreGiven v.given d c.evaluate-next.result (only_arguments c.with_next.result)) w.0 c.with_next.ensures.given);
      kept = c.evaluate-next.ensures.kept;
    }
