use Rattle.std.proofs.Common.{ℤ, List, All, take}
use Rattle.plane_predicate.specs.Space.{point_at, IsInReach}
use Rattle.primitives.proofs.placing.are_in_reach.Given as goal

abbrev pub invariant-loop-point : goal.invariant-loop-point
invariant-loop-point l = All (λ (p : List ℤ). IsInReach (point_at p)) (take l.point-index l.points)
