use Rattle.std.proofs.Common.{ℤ, All, take}
use Rattle.primitives.specs.Sizes.{length_in_grid_steps, IsSafe}
use Rattle.primitives.proofs.sizes.are_safe.Given as goal

abbrev pub invariant-loop-side : goal.invariant-loop-side
invariant-loop-side l = All (λ (s : ℤ). IsSafe (length_in_grid_steps l.unit s)) (take l.side-index l.sides)
