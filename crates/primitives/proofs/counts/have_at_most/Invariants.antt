use Rattle.std.proofs.Common.{ℕ, ◌≤◌, List, length, All, take}
use Rattle.primitives.proofs.counts.have_at_most.Given as goal

abbrev pub invariant-loop-face : goal.invariant-loop-face
invariant-loop-face l = All (λ (f : List ℕ). length f ≤ l.most) (take l.face-index l.faces)
