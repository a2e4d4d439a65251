use Rattle.std.proofs.Common.{ℕ, ◌<◌, List, All, take}
use Rattle.primitives.proofs.counts.are_there.Given as goal

abbrev pub invariant-loop-face : goal.invariant-loop-face
invariant-loop-face l = All (λ (f : List ℕ). All (λ (i : ℕ). i < l.points) f) (take l.face-index l.faces)
