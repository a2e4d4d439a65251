use Rattle.std.proofs.Common.{◌≤ℤ◌, List, ℤ, pos, All, take}
use Rattle.primitives.specs.Polygons.{orientation}
use Rattle.primitives.proofs.convex.stays_left.Given as goal

abbrev pub invariant-loop-point : goal.invariant-loop-point
invariant-loop-point l = All (λ (r : List ℤ). pos 0 ≤ℤ orientation l.from l.to r) (take l.point-index l.points)
