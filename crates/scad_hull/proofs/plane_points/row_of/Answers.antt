use Rattle.std.proofs.Common.{◌≡◌, ◌∙◌, false, pos, subst, arith}
use Rattle.std.proofs.lemmas.List.{length-set, length-replicate}
use Rattle.plane_predicate.specs.Space.{Coefficients}
use Rattle.primitives.specs.Shapes.{value_at_point}
use Rattle.scad_hull.proofs.PlaneRows.{none_on, one_more_on, when_true}
use Rattle.scad_hull.proofs.plane_points.row_of.Goals as goal

pub loop-number-init : goal.loop-number-init
loop-number-init c = (length-replicate 128 false, none_on c.args.points.now c.args.triple 128)

pub loop-number-preserved : goal.loop-number-preserved
loop-number-preserved c =
    let points = c.args.points.now in
    let n = c.loop-number.number in
    let on = c.is_point_on.result in
    let row = c.loop-number.row in (
      length-set row n on ∙ c.loop-number.invariant.0,
      one_more_on points c.args.triple row n on (omega (arith, c.loop-number.invariant.0, c.requires.few))
          (λ e. subst (λ (m : Coefficients). value_at_point points m n ≡ pos 0) c.through-plane.ensures (when_true on _ c.is_point_on.ensures e))
          c.loop-number.invariant.1,
    )
