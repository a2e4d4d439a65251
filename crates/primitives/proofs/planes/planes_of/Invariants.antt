use Rattle.std.proofs.Common.{take}
use Rattle.primitives.specs.Placing.{ArePlanesOf}
use Rattle.primitives.proofs.planes.planes_of.Given as goal

abbrev pub invariant-loop-face : goal.invariant-loop-face
invariant-loop-face l = ArePlanesOf (record { points = l.points; faces = l.faces }) (take l.face-index l.faces) l.planes.items
