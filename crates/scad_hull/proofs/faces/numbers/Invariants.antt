use Rattle.std.proofs.Common.{◌≡◌}
use Rattle.scad_hull.specs.Hulls.{numbers_between}
use Rattle.scad_hull.proofs.faces.numbers.Given as goal

abbrev pub invariant-loop-number : goal.invariant-loop-number
invariant-loop-number l = l.all.items ≡ numbers_between 0 l.number
