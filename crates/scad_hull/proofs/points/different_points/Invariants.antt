use Rattle.std.proofs.Common.{◌≡◌, ◌≤◌, length, take}
use Rattle.scad_hull.specs.Hulls.{points_in_order}
use Rattle.scad_hull.proofs.points.different_points.Given as goal

abbrev pub invariant-loop-point : goal.invariant-loop-point
invariant-loop-point l = (l.found.items ≡ points_in_order (take l.point-index l.points)) × (length l.found.items ≤ 128)
