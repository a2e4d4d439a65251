-- Signs of products of integers.
use Rattle.std.proofs.Common.{◌≡◌, ◌⊎◌, inl, inr, zero, suc, refl, arith, ℤ, pos, negsuc, ◌*ℤ◌, neg_ℤ, ◌<ℤ◌, ◌≤ℤ◌}
use Rattle.plane_predicate.proofs.lemmas.IntegerRing.{sums, mul_comm_ℤ, mul_neg_left}
use borrow.Author.Differences.{product_is}

pub pos_pos : (x y : ℤ) → pos 0 <ℤ x → pos 0 <ℤ y → pos 0 <ℤ (x *ℤ y)
pos_pos (pos zero) y h k = absurd (omega (arith, sums))
pos_pos (pos (suc m)) (pos zero) h k = absurd (omega (arith, sums))
pos_pos (pos (suc m)) (pos (suc n)) h k = omega (arith, sums)
pos_pos (pos (suc m)) (negsuc n) h k = absurd (omega (arith, sums))
pos_pos (negsuc m) y h k = absurd (omega (arith, sums))

pub least_least : (x y : ℤ) → pos 0 ≤ℤ x → pos 0 ≤ℤ y → pos 0 ≤ℤ (x *ℤ y)
least_least (pos m) (pos n) h k = omega (arith, sums)
least_least (pos m) (negsuc n) h k = absurd (omega (arith, sums))
least_least (negsuc m) y h k = absurd (omega (arith, sums))

pub neg_pos : (x y : ℤ) → x <ℤ pos 0 → pos 0 <ℤ y → (x *ℤ y) <ℤ pos 0
neg_pos x y h k = omega (arith, sums, mul_neg_left x y, pos_pos (neg_ℤ x) y (omega (arith, sums)) k)

pub pos_neg : (x y : ℤ) → pos 0 <ℤ x → y <ℤ pos 0 → (x *ℤ y) <ℤ pos 0
pos_neg x y h k = omega (arith, sums, mul_comm_ℤ x y, neg_pos y x k h)

pub neg_neg : (x y : ℤ) → x <ℤ pos 0 → y <ℤ pos 0 → pos 0 <ℤ (x *ℤ y)
neg_neg x y h k = omega (arith, sums, mul_neg_left x y, neg_pos y (neg_ℤ x) k (omega (arith, sums)), mul_comm_ℤ y (neg_ℤ x))

pub most_least : (x y : ℤ) → x ≤ℤ pos 0 → pos 0 ≤ℤ y → (x *ℤ y) ≤ℤ pos 0
most_least x y h k = omega (arith, sums, mul_neg_left x y, least_least (neg_ℤ x) y (omega (arith, sums)) k)

pub least_most : (x y : ℤ) → pos 0 ≤ℤ x → y ≤ℤ pos 0 → (x *ℤ y) ≤ℤ pos 0
least_most x y h k = omega (arith, sums, mul_comm_ℤ x y, most_least y x k h)

pub most_most : (x y : ℤ) → x ≤ℤ pos 0 → y ≤ℤ pos 0 → pos 0 ≤ℤ (x *ℤ y)
most_most x y h k = omega (arith, sums, mul_neg_left x y, most_least y (neg_ℤ x) k (omega (arith, sums)), mul_comm_ℤ y (neg_ℤ x))

-- which sign a number has
pub signs : (x : ℤ) → (x <ℤ pos 0) ⊎ ((x ≡ pos 0) ⊎ (pos 0 <ℤ x))
signs (pos zero) = inr (inl refl)
signs (pos (suc n)) = inr (inr (omega (arith, sums)))
signs (negsuc n) = inl (omega (arith, sums))

-- a positive factor is dropped
pub pos_cancel : (k x : ℤ) → pos 0 <ℤ k → pos 0 <ℤ (k *ℤ x) → pos 0 <ℤ x
pos_cancel k (pos zero) h e = absurd (omega (arith, sums, product_is k (pos zero)))
pos_cancel k (pos (suc n)) h e = omega (arith, sums)
pos_cancel k (negsuc n) h e = absurd (omega (arith, sums, pos_neg k (negsuc n) h (omega (arith, sums))))

pub neg_cancel : (k x : ℤ) → pos 0 <ℤ k → (k *ℤ x) <ℤ pos 0 → x <ℤ pos 0
neg_cancel k (pos n) h e = absurd (omega (arith, sums, least_least k (pos n) (omega (arith, sums)) (omega (arith, sums))))
neg_cancel k (negsuc n) h e = omega (arith, sums)

pub most_cancel : (k x : ℤ) → pos 0 <ℤ k → (k *ℤ x) ≤ℤ pos 0 → x ≤ℤ pos 0
most_cancel k (pos zero) h e = omega (arith, sums)
most_cancel k (pos (suc n)) h e = absurd (omega (arith, sums, pos_pos k (pos (suc n)) h (omega (arith, sums))))
most_cancel k (negsuc n) h e = omega (arith, sums)

pub least_cancel : (k x : ℤ) → pos 0 <ℤ k → pos 0 ≤ℤ (k *ℤ x) → pos 0 ≤ℤ x
least_cancel k (pos n) h e = omega (arith, sums)
least_cancel k (negsuc n) h e = absurd (omega (arith, sums, pos_neg k (negsuc n) h (omega (arith, sums))))

pub zero_cancel : (k x : ℤ) → pos 0 <ℤ k → k *ℤ x ≡ pos 0 → x ≡ pos 0
zero_cancel k (pos zero) h e = refl
zero_cancel k (pos (suc n)) h e = absurd (omega (arith, sums, pos_pos k (pos (suc n)) h (omega (arith, sums))))
zero_cancel k (negsuc n) h e = absurd (omega (arith, sums, pos_neg k (negsuc n) h (omega (arith, sums))))
