use Rattle.std.proofs.Common.{◌≡◌, List, ℤ, pos, All, take}
use Rattle.primitives.specs.Polygons.{polygon_point, orientation}
use Rattle.primitives.proofs.convex.has_corner.Given as goal

abbrev pub invariant-loop-second : goal.invariant-loop-second
invariant-loop-second l = All (λ (q : List ℤ). All (λ (r : List ℤ). orientation (polygon_point l.points 0) q r ≡ pos 0) l.points) (take l.second-index l.points)
