use Rattle.std.proofs.Common.{ℕ, pos, ◌≤ℤ◌, List, All, take}
use Rattle.primitives.specs.Shapes.{value_at_point}
use Rattle.primitives.proofs.ahead.has_corner_ahead.Given as goal

abbrev pub invariant-loop-face : goal.invariant-loop-face
invariant-loop-face l = All (λ (f : List ℕ). All (λ (i : ℕ). value_at_point l.points l.plane i ≤ℤ pos 0) f) (take l.face-index l.faces)
