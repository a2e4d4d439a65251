use Rattle.std.proofs.Common.{◌≡◌, take}
use Rattle.primitives.proofs.cube.faces_of.Given as goal

abbrev pub invariant-loop-face : goal.invariant-loop-face
invariant-loop-face l = l.faces.items ≡ take l.face-index l.table
