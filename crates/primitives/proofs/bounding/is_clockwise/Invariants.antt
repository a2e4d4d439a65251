use Rattle.std.proofs.Common.{All, take}
use Rattle.primitives.specs.DirectedEdges.{HasNoneLeft}
use Rattle.primitives.proofs.bounding.is_clockwise.Given as goal

abbrev pub invariant-loop-way : goal.invariant-loop-way
invariant-loop-way l = All (HasNoneLeft l.points l.face l.plane) (take l.way-index l.ways)
