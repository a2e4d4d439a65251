use Rattle.std.proofs.Common.{◌≡◌, pos, All, take}
use Rattle.plane_predicate.specs.Space.{point_at, value}
use Rattle.scad_hull.proofs.plane.holds_all.Given as goal

abbrev pub invariant-loop-point : goal.invariant-loop-point
invariant-loop-point l = All (λ p. value l.plane (point_at p) ≡ pos 0) (take l.point-index l.points)
