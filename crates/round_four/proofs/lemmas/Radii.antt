-- Radii and heights in grid steps.
use Rattle.std.proofs.Common.{◌≡◌, arith, ℤ, pos, ◌<ℤ◌, ◌≤ℤ◌}
use Rattle.plane_predicate.specs.declared.unit.Unit.{Unit as LengthUnit}
use Rattle.plane_predicate.specs.declared.unit.Unit.TheVariants.{Whole, Half}
use Rattle.plane_predicate.proofs.lemmas.IntegerRing.{sums, one_mul}
use Rattle.plane_predicate.proofs.lemmas.Signs.{least_least, pos_pos, zero_cancel}
use Rattle.primitives.specs.Sizes.{length_in_grid_steps}

pub steps_least : (unit : LengthUnit) (n : ℤ) → pos 0 ≤ℤ n → pos 0 ≤ℤ length_in_grid_steps unit n
steps_least Whole n h = omega (arith, sums, one_mul n)
steps_least Half n h = least_least (pos 2) n (omega (arith, sums)) h

pub steps_above : (unit : LengthUnit) (n : ℤ) → pos 1 ≤ℤ n → pos 0 <ℤ length_in_grid_steps unit n
steps_above Whole n h = omega (arith, sums, one_mul n)
steps_above Half n h = pos_pos (pos 2) n (omega (arith, sums)) (omega (arith, sums))

pub no_steps : (unit : LengthUnit) (n : ℤ) → length_in_grid_steps unit n ≡ pos 0 → n ≡ pos 0
no_steps Whole n e = zero_cancel (pos 1) n (omega (arith, sums)) e
no_steps Half n e = zero_cancel (pos 2) n (omega (arith, sums)) e
