use Rattle.std.proofs.Common.{ℕ, pos, ◌≤ℤ◌, All, take}
use Rattle.primitives.specs.Shapes.{value_at_point}
use Rattle.primitives.proofs.ahead.face_has_ahead.Given as goal

abbrev pub invariant-loop-i : goal.invariant-loop-i
invariant-loop-i l = All (λ (i : ℕ). value_at_point l.points l.plane i ≤ℤ pos 0) (take l.i-index l.face)
