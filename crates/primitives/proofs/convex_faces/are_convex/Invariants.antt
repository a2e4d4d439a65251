use Rattle.std.proofs.Common.{All, take}
use Rattle.primitives.specs.Bounding.{IsFaceOfBody}
use Rattle.primitives.proofs.convex_faces.are_convex.Given as goal

abbrev pub invariant-loop-face : goal.invariant-loop-face
invariant-loop-face l = All (IsFaceOfBody (record { points = l.points; faces = l.faces })) (take l.face-index l.faces)
