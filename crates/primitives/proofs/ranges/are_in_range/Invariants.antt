use Rattle.std.proofs.Common.{ℤ, List, All, take}
use Rattle.plane_predicate.specs.Space.{point_at}
use Rattle.primitives.specs.Shapes.{IsPointInRange}
use Rattle.primitives.proofs.ranges.are_in_range.Given as goal

abbrev pub invariant-loop-point : goal.invariant-loop-point
invariant-loop-point l = All (λ (p : List ℤ). IsPointInRange (point_at p)) (take l.point-index l.points)
