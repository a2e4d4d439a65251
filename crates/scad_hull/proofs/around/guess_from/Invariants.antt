use Rattle.std.proofs.Common.{◌<◌, length}
use Rattle.scad_hull.proofs.around.guess_from.Given as goal

abbrev pub invariant-loop-third : goal.invariant-loop-third
invariant-loop-third l = (l.right < length l.points) × (l.left < length l.points)
