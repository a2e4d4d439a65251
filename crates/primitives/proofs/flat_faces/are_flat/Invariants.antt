use Rattle.std.proofs.Common.{All, take}
use Rattle.primitives.specs.Checks.{IsFlatFace}
use Rattle.primitives.proofs.flat_faces.are_flat.Given as goal

abbrev pub invariant-loop-face : goal.invariant-loop-face
invariant-loop-face l = All (IsFlatFace l.points) (take l.face-index l.faces)
