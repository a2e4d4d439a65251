use Rattle.std.proofs.Common.{rules, ◌≡◌, arith, get_or, pos, sym, ap, to_z-of_z, FitsSigned, w64, ◌∙◌, subst, refl}
use Rattle.plane_predicate.specs.Space.{point_at}
use Rattle.std.proofs.lemmas.List.Elements.{All-nil}
use Rattle.int_transform.specs.declared.affine.Affine.{Affine}
use Rattle.int_transform.specs.Maps.{determinant_of, coordinate_list, HasSafeCoordinates}
use Rattle.int_transform.proofs.lemmas.Images.{image-identity}
use Rattle.int_transform.proofs.lemmas.Ranges.{image_next, leaves_next, regular_next, regular_steps, starts_in_range, stays_next}
use Rattle.int_transform.proofs.applying.image_under.Goals as goal

pub loop-step-init : goal.loop-step-init
loop-step-init c = record {
  at = (let fx : FitsSigned w64 (get_or c.args.point 0 (pos 0)) = search rules in
      let fy : FitsSigned w64 (get_or c.args.point 1 (pos 0)) = search rules in
      let fz : FitsSigned w64 (get_or c.args.point 2 (pos 0)) = search rules in
      simp to_z-of_z (sym (ap coordinate_list (image-identity (point_at c.args.point)))));
  in_range = starts_in_range c.args.steps.now (point_at c.args.point) c.requires;
  regular = All-nil (λ (s : Affine). determinant_of s ≡ pos 0 → ⊥);
}

pub returns-in_err-at-clause-none : goal.returns-in_err-at-clause-none
returns-in_err-at-clause-none c =
    λ _. leaves_next c.args.steps.now c.step-item.result c.args.point c.loop-step.at c.loop-step.step-index (omega arith) c.step-item.is c.loop-step.invariant.at (c.in_err-at.ensures.none refl)

pub loop-step-preserved : goal.loop-step-preserved
loop-step-preserved c =
    let e = image_next c.args.steps.now c.step-item.result c.args.point c.loop-step.at c.loop-step.step-index (omega arith) c.step-item.is c.loop-step.invariant.at in
    let next = c.in_ok-at.ensures.some in
    record {
      at = next.0 ∙ ap coordinate_list e;
      in_range = stays_next c.args.steps.now (point_at c.args.point) c.loop-step.step-index c.loop-step.invariant.in_range (subst HasSafeCoordinates e next.1);
      regular = regular_next c.args.steps.now c.loop-step.step-index c.step-item.result (omega arith) c.step-item.is c.loop-step.invariant.regular c.in_ok-at.ensures.regular;
    }

pub returns-clause-regular : goal.returns-clause-regular
returns-clause-regular c = regular_steps c.args.steps.now c.loop-step.step-index (omega arith) c.loop-step.invariant.regular
