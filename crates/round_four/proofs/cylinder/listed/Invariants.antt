use Rattle.std.proofs.Common.{◌≡◌, take, map}
use Rattle.round_four.proofs.cylinder.listed.Given as goal

abbrev pub invariant-loop-face : goal.invariant-loop-face
invariant-loop-face l = l.faces.items ≡ map (λ face. face.now) (take l.face-index l.table)
