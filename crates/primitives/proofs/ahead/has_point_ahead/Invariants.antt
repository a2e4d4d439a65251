use Rattle.std.proofs.Common.{pos, ◌≤ℤ◌, All, take}
use Rattle.plane_predicate.specs.Space.{point_at, value}
use Rattle.primitives.proofs.ahead.has_point_ahead.Given as goal

abbrev pub invariant-loop-point : goal.invariant-loop-point
invariant-loop-point l = All (λ p. value l.plane (point_at p) ≤ℤ pos 0) (take l.point-index l.points)
