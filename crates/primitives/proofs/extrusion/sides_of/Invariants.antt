use Rattle.std.proofs.Common.{◌≡◌}
use Rattle.primitives.specs.Prisms.{sides_over}
use Rattle.primitives.proofs.extrusion.sides_of.Given as goal

abbrev pub invariant-loop-i : goal.invariant-loop-i
invariant-loop-i l = l.sides.items ≡ sides_over l.points l.i
