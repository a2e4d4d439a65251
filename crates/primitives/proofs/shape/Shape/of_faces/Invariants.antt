use Rattle.std.proofs.Common.{◌≡◌, take}
use Rattle.primitives.proofs.shape.Shape.of_faces.Given as goal

abbrev pub invariant-loop-face : goal.invariant-loop-face
invariant-loop-face l = l.corners.items ≡ take l.face-index l.faces
