use Rattle.std.proofs.Common.{ℕ, ◌<◌, All, take}
use Rattle.primitives.proofs.counts.is_there.Given as goal

abbrev pub invariant-loop-i : goal.invariant-loop-i
invariant-loop-i l = All (λ (i : ℕ). i < l.points) (take l.i-index l.face)
