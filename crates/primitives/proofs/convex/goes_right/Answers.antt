use Rattle.std.proofs.Common.{ℕ, ◌≤ℤ◌, List, ℤ, pos, subst, All, below_more}
use Rattle.primitives.specs.Polygons.{polygon_point, orientation}
use Rattle.primitives.proofs.convex.goes_right.Goals as goal

pub loop-i-preserved : goal.loop-i-preserved
loop-i-preserved c =
    let e = c.next_point.ensures.value in
    let h = c.if-not-stays_left.ensures.yes in
    below_more _ _ c.loop-i.invariant (subst (λ (j : ℕ). All (λ (r : List ℤ). pos 0 ≤ℤ orientation (polygon_point c.args.points.now j) (polygon_point c.args.points.now c.loop-i.i) r) c.args.points.now) e h)
