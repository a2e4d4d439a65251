-- The evaluations that are left count for more than any step at one depth.
use Rattle.std.proofs.Common.{◌≡◌, ℕ, ◌+◌, ◌-◌, ◌*◌, ◌<◌, ◌≤◌, ap, arith}
use Rattle.scad_func.specs.Limits.{most_evaluations}

unfoldable pub work : ℕ → ℕ
work depth = (most_evaluations - depth) * 16

pub work_falls : (depth : ℕ) → depth < most_evaluations → work (depth + 1) + 16 ≤ work depth
unfolding work
work_falls depth h = omega arith

pub work_same : (a b : ℕ) → a ≡ b → work a ≡ work b
work_same a b e = ap work e
