use Rattle.scad_hull.proofs.Orders.{HasLess}
use Rattle.scad_hull.proofs.points.place_of.Given as goal

abbrev pub invariant-loop-place : goal.invariant-loop-place
invariant-loop-place l = HasLess l.point l.points l.place
