-- The part of some workers that an export has.
use Rattle.std.proofs.Common.{ℕ, ◌/◌, ◌≤◌, max}
use Rattle.std.proofs.Math.Nat.{div-le_self, max-le}

-- a part of them, or one where the part is none
pub part_of : (n k : ℕ) → 1 ≤ n → max (n / k) 1 ≤ n
part_of n k some = max-le (div-le_self n k) some
