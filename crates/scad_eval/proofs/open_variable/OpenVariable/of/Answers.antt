use Rattle.std.proofs.Common.{Option, refl, sym, ap, ◌∙◌}
use Rattle.text_place.specs.declared.fault.FaultKind.TheVariants.{TypeMismatch}
use Rattle.scad_value.specs.Values.{Vals}
use Rattle.scad_value.specs.BoundedView.{bounded_val}
use Rattle.scad_func.specs.Meaning.{Gives, then_with, or_fault}
use Rattle.scad_meaning.specs.Loops.{iterated_values}
use Rattle.scad_instance_rules.specs.Items.{remaining_in}
use Rattle.scad_eval.proofs.Bounds.{few_values}
use Rattle.scad_eval.proofs.open_variable.OpenVariable.of.Goals as goal

pub returns-in-Some : goal.returns-in-Some
returns-in-Some c =
    let n = c.evaluate.new.evaluation.turns in
    let value = c.in_ok-value.value in
    record {
      values = record {
        value = ap (λ o. then_with o (λ turns value. or_fault (iterated_values value) TypeMismatch c.args.place (Gives turns))) c.in_ok-value.ensures.value
            ∙ ap (λ (o : Option Vals). or_fault o TypeMismatch c.args.place (Gives n)) (sym c.in-Some.ensures);
        kept = c.evaluate.ensures.kept;
      };
      begun = record {
        binder = refl;
        rest = refl;
        members = c.no_members.ensures;
        outside = c.evaluate.ensures.kept.stands;
        few = few_values (bounded_val value) (remaining_in c.in-Some.items.remaining) c.in-Some.ensures value.bounded;
      };
    }
