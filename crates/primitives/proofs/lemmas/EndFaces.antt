-- The ends of sides with nothing wrong.
use Rattle.std.proofs.Common.{ℕ, zero, suc, ◌/◌, ◌<◌, ◌≤◌, Bool, true, false, arith, ℤ, pos, negsuc, neg_ℤ, ◌+ℤ◌, ◌<ℤ◌, ◌≤ℤ◌, unsigned_abs}
use Rattle.plane_predicate.specs.declared.unit.Unit.{Unit as LengthUnit}
use Rattle.plane_predicate.specs.declared.unit.Unit.TheVariants.{Whole, Half}
use Rattle.plane_predicate.proofs.lemmas.IntegerRing.{sums, one_mul}
use Rattle.plane_predicate.proofs.lemmas.Signs.{pos_pos}
use Rattle.plane_predicate.proofs.lemmas.Sizes.{size_by}
use Rattle.primitives.specs.Sizes.{IsSafe, length_in_grid_steps, low_at, low_end, high_end}

-- the ends of a side: it is longer than 0, and they are at most 2^53 - 1 in size
pub record AreEnds (low high : ℤ) : Type 0 where
  pub apart : low <ℤ high
  pub low_safe : IsSafe low
  pub high_safe : IsSafe high

-- n steps from -h on
half_ends : (most h n : ℕ) → h ≤ n → 0 < n → n ≤ most → (neg_ℤ (pos h) <ℤ (neg_ℤ (pos h) +ℤ pos n)) × (unsigned_abs (neg_ℤ (pos h)) ≤ most) × (unsigned_abs (neg_ℤ (pos h) +ℤ pos n) ≤ most)
half_ends most h n hn some small = (
  omega (arith, sums),
  size_by (neg_ℤ (pos h)) most (omega (arith, sums)) (omega (arith, sums)),
  size_by (neg_ℤ (pos h) +ℤ pos n) most (omega (arith, sums)) (omega (arith, sums)),
)

-- the given number of steps from 0 on, or about it
ends_of_steps : (most : ℕ) (center : Bool) (steps : ℤ) → pos 0 <ℤ steps → unsigned_abs steps ≤ most → (low_at center steps <ℤ (low_at center steps +ℤ steps)) × (unsigned_abs (low_at center steps) ≤ most) × (unsigned_abs (low_at center steps +ℤ steps) ≤ most)
ends_of_steps most center (pos zero) h s = absurd (omega (arith, sums))
ends_of_steps most center (negsuc n) h s = absurd (omega (arith, sums))
ends_of_steps most false (pos (suc n)) h s = (omega (arith, sums), omega arith, size_by (pos 0 +ℤ pos (suc n)) most (omega (arith, sums)) (omega (arith, sums)))
ends_of_steps most true (pos (suc n)) h s = half_ends most (suc n / 2) (suc n) (omega arith) (omega arith) s

steps_above : (unit : LengthUnit) (side : ℤ) → pos 1 ≤ℤ side → pos 0 <ℤ length_in_grid_steps unit side
steps_above Whole side h = omega (arith, sums, one_mul side)
steps_above Half side h = pos_pos (pos 2) side (omega (arith, sums)) (omega (arith, sums))

pub ends_of_side : (unit : LengthUnit) (center : Bool) (side : ℤ) → pos 1 ≤ℤ side → IsSafe (length_in_grid_steps unit side) → AreEnds (low_end unit center side) (high_end unit center side)
ends_of_side unit center side h s =
    let r = ends_of_steps 9007199254740991 center (length_in_grid_steps unit side) (steps_above unit side h) s.size in
    record { apart = r.0; low_safe = record { size = r.1 }; high_safe = record { size = r.2 } }
