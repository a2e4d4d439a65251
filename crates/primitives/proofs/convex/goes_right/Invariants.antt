use Rattle.std.proofs.Common.{ℕ, ◌<◌, ◌≤ℤ◌, List, ℤ, pos, All, length}
use Rattle.primitives.specs.Polygons.{polygon_point, orientation}
use Rattle.primitives.proofs.convex.goes_right.Given as goal
use Rattle.plane_predicate.specs.Indices.{index_after}

abbrev pub invariant-loop-i : goal.invariant-loop-i
invariant-loop-i l = (i : ℕ) → i < l.i → All (λ (r : List ℤ). pos 0 ≤ℤ orientation (polygon_point l.points (index_after (length l.points) i)) (polygon_point l.points i) r) l.points
