-- The laws of the ring of integers, and of its order, that `omega (arith, ints)` does not find.
use Rattle.std.proofs.Common.{◌≡◌, ℕ, ◌+◌, ◌*◌, ap, arith, ℤ, pos, ◌+ℤ◌, ◌*ℤ◌}
use Rattle.std.proofs.Math.IntN.{neg_ℤ}
use Rattle.std.proofs.lemmas.Int.{ints}
use borrow.Author.Differences.{up, down, product_is, sum_is_lem, neg_is, same_out, Apart-out, lt_out, le_out, same_in, lt_in, le_in, below_in, at_most_in}

-- a sum times a number
times_parts : (k u d : ℕ) (y z : ℤ) → k * (up (y +ℤ z) + down y + down z) ≡ k * (down (y +ℤ z) + up y + up z)
times_parts k u d y z = ap (λ (n : ℕ). k * n) (sum_is_lem y z)

pub distribute : (x y z : ℤ) → x *ℤ (y +ℤ z) ≡ x *ℤ y +ℤ x *ℤ z
distribute x y z = omega (arith, ints, ap (λ (n : ℕ). up x * n) (sum_is_lem y z), ap (λ (n : ℕ). down x * n) (sum_is_lem y z))

pub mul_assoc_ℤ : (x y z : ℤ) → (x *ℤ y) *ℤ z ≡ x *ℤ (y *ℤ z)
mul_assoc_ℤ x y z =
    omega (
      arith,
      ints,
      ap (λ (n : ℕ). n * up z) (product_is x y).0,
      ap (λ (n : ℕ). n * down z) (product_is x y).1,
      ap (λ (n : ℕ). n * down z) (product_is x y).0,
      ap (λ (n : ℕ). n * up z) (product_is x y).1,
      ap (λ (n : ℕ). up x * n) (product_is y z).0,
      ap (λ (n : ℕ). down x * n) (product_is y z).1,
      ap (λ (n : ℕ). up x * n) (product_is y z).1,
      ap (λ (n : ℕ). down x * n) (product_is y z).0,
    )

pub mul_comm_ℤ : (x y : ℤ) → x *ℤ y ≡ y *ℤ x
mul_comm_ℤ x y = omega (arith, ints)

pub mul_neg_left : (x y : ℤ) → neg_ℤ x *ℤ y ≡ neg_ℤ (x *ℤ y)
mul_neg_left x y = omega (arith, ints, ap (λ (n : ℕ). n * up y) (neg_is x).0, ap (λ (n : ℕ). n * down y) (neg_is x).0, ap (λ (n : ℕ). n * up y) (neg_is x).1, ap (λ (n : ℕ). n * down y) (neg_is x).1)

pub mul_neg_right : (x y : ℤ) → x *ℤ neg_ℤ y ≡ neg_ℤ (x *ℤ y)
mul_neg_right x y = omega (arith, ints, ap (λ (n : ℕ). up x * n) (neg_is y).0, ap (λ (n : ℕ). down x * n) (neg_is y).0, ap (λ (n : ℕ). up x * n) (neg_is y).1, ap (λ (n : ℕ). down x * n) (neg_is y).1)

pub one_mul : (x : ℤ) → pos 1 *ℤ x ≡ x
one_mul x = omega (arith, ints)

pub zero_mul : (x : ℤ) → pos 0 *ℤ x ≡ pos 0
zero_mul x = omega (arith, ints)

-- sums, differences and order, with each product taken as one unknown
pub ruleset sums = (same_out, lt_out, le_out, same_in, lt_in, le_in, below_in, at_most_in, sum_is_lem, neg_is)
