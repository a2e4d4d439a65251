use Rattle.std.proofs.Common.{All, take}
use Rattle.primitives.specs.Polygons.{IsFlatPointInRange}
use Rattle.primitives.proofs.polygon.are_in_range.Given as goal

abbrev pub invariant-loop-point : goal.invariant-loop-point
invariant-loop-point l = All IsFlatPointInRange (take l.point-index l.points)
