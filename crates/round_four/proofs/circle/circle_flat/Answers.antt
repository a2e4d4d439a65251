use Rattle.std.proofs.Common.{rules, ◌≡◌, ◌∙◌, ◌≤◌, ap, sym, subst, arith, ℤ, pos, ◌≤ℤ◌, unsigned_abs, to_z-of_z, FitsSigned, w64}
use Rattle.std.proofs.lemmas.Int.{ints}
use Rattle.primitives.specs.Polygons.{IsFlatShape}
use Rattle.round_four.specs.Circles.{circle_of, circle_points}
use Rattle.round_four.proofs.lemmas.Circles.{sized_circle_is_flat}
use Rattle.round_four.proofs.circle.circle_flat.Goals as goal

pub of-requires : goal.of-requires
of-requires c =
    let fits : FitsSigned w64 c.in_steps-steps.result = search rules in
    let steps = simp (to_z-of_z, c.ranges.radius) at c.in_steps-steps.ensures in
    let points = simp to_z-of_z at c.in_ok-points.ensures in
    let near = simp to_z-of_z at c.if-not-is_near.ensures.near in
    let test = simp (to_z-of_z, c.ranges.radius) at c.if-radius-lt1.false in
    let long : pos 1 ≤ℤ c.args.radius = omega (arith, ints, test) in
    let same : c.in_ok-points.points.items ≡ circle_of c.args.unit c.args.radius = points ∙ ap circle_points steps in
    let flat = sized_circle_is_flat c.args.unit c.args.radius (record { long = long; range = subst (λ (n : ℤ). unsigned_abs n ≤ 65535) steps near }) in
    subst IsFlatShape (sym same) flat
