use Rattle.std.proofs.Common.{◌≡◌, length}
use Rattle.scad_hull.specs.Steps.{HasPointsOn}
use Rattle.scad_hull.proofs.plane_points.row_of.Given as goal

abbrev pub invariant-loop-number : goal.invariant-loop-number
invariant-loop-number l = (length l.row ≡ 128) × HasPointsOn l.points l.fn.triple l.row
