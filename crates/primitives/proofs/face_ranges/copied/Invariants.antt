use Rattle.std.proofs.Common.{◌≡◌, take}
use Rattle.primitives.proofs.face_ranges.copied.Given as goal

abbrev pub invariant-loop-face : goal.invariant-loop-face
invariant-loop-face l = l.copies.items ≡ take l.face-index l.faces
