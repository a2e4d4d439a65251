use Rattle.std.proofs.Common.{◌≡◌, ◌++◌, map, take}
use Rattle.primitives.specs.Prisms.{at_height}
use Rattle.primitives.proofs.extrusion.push_end.Given as goal

abbrev pub invariant-loop-point : goal.invariant-loop-point
invariant-loop-point l = l.corners.items ≡ l.fn.corners.items ++ map (at_height l.z) (take l.point-index l.points)
