-- Quotients, remainders and sums of whole numbers, as the code computes them.
use Rattle.std.proofs.Common.{◌≡◌, ℕ, zero, suc, ◌+◌, ◌*◌, ◌/◌, ◌^◌, ◌<◌, ◌≤◌, ℤ, pos, negsuc, ◌+ℤ◌, ◌-ℤ◌, ◌*ℤ◌, neg_ℤ, refl, sym, ap, subst, ◌∙◌, arith, Ok, Err, to_z, of_z}
use Rattle.std.specs.Prelude.{unsigned_abs, int_div, int_rem, IsTrue}
use Rattle.std.proofs.lemmas.Int.{to_z-of_z, ints, fits_signed_from_abs, unsigned_abs-mul}
use Rattle.std.proofs.Math.Nat.{div-le_self, mul-le-mul}
use Rattle.std.proofs.lemmas.Bool.{ltb-true}
use mir.Syntax.{w64, w128}
use mir.Val.{SFits}
use lib.Signed.{mag_rem}
use Rattle.text_place.specs.declared.fault.FaultKind.TheVariants.{NotWhole, ZeroDivisor}
use Rattle.scad_value.specs.Values.{is_small}
use Rattle.scad_value.specs.Operators.{AnswerOrFault, number_or_too_large, unless_zero, whole_quotient, quotient_row, remainder_row, plus_answer}

abs_neg : (n : ℕ) → unsigned_abs (neg_ℤ (pos n)) ≡ n
abs_neg zero = refl
abs_neg (suc n) = refl

-- a quotient is no larger than the dividend
abs_quotient : (a d : ℤ) → unsigned_abs (int_div a d) ≤ unsigned_abs a
abs_quotient (pos a) (pos d) = div-le_self a d
abs_quotient (pos a) (negsuc d) = omega (arith, abs_neg (a / suc d), div-le_self a (suc d))
abs_quotient (negsuc a) (pos d) = omega (arith, abs_neg (suc a / d), div-le_self (suc a) d)
abs_quotient (negsuc a) (negsuc d) = div-le_self (suc a) (suc d)

abs_fits : (z : ℤ) → SFits w64 z → unsigned_abs z ≤ 2 ^ 63
abs_fits (pos n) h = omega (arith, h.sfits)
abs_fits (negsuc n) h = omega (arith, h.sfits)

-- 64 bits in 128 bits
pub wide : (z : ℤ) → SFits w64 z → SFits w128 z
wide z h = fits_signed_from_abs w128 z (omega (arith, abs_fits z h))

pub widened : (z : ℤ) → SFits w64 z → to_z w128 (of_z w128 (to_z w64 (of_z w64 z))) ≡ z
widened z h = ap (λ x. to_z w128 (of_z w128 x)) (to_z-of_z w64 z h) ∙ to_z-of_z w128 z (wide z h)

remainder_fits : (a d : ℤ) → SFits w64 a → SFits w128 (int_rem a d)
remainder_fits a d h = let w = wide a h in record { sfits = omega (arith, mag_rem a d, w.sfits) }

quotient_fits : (a d : ℤ) → SFits w64 a → SFits w128 (int_div a d)
quotient_fits a d h = fits_signed_from_abs w128 (int_div a d) (omega
    (arith, abs_fits a h, abs_quotient a d))

-- what the code's quotient and remainder are
pub quotient_is : (a d A D : ℤ) → A ≡ a → D ≡ d → SFits w64 a → to_z w128 (of_z w128 (int_div A D))
    ≡ int_div a d
quotient_is a d A D p q h = ap (λ x. to_z w128 (of_z w128 (int_div x D))) p
    ∙ ap (λ x. to_z w128 (of_z w128 (int_div a x))) q ∙ to_z-of_z w128 (int_div a d) (quotient_fits a d h)

pub remainder_is : (a d A D : ℤ) → A ≡ a → D ≡ d → SFits w64 a → to_z w128 (of_z w128 (int_rem A D))
    ≡ int_rem a d
remainder_is a d A D p q h = ap (λ x. to_z w128 (of_z w128 (int_rem x D))) p
    ∙ ap (λ x. to_z w128 (of_z w128 (int_rem a x))) q ∙ to_z-of_z w128 (int_rem a d) (remainder_fits a d h)

nonzero : (d : ℤ) (answer : AnswerOrFault ℤ) → (of_z w64 d ≡ 0 → ⊥) → unless_zero d answer ≡ answer
nonzero (pos zero) answer h = absurd (h refl)
nonzero (pos (suc n)) answer h = refl
nonzero (negsuc n) answer h = refl

zero_from : (z : ℤ) → SFits w128 z → of_z w128 z ≡ 0 → z ≡ pos 0
zero_from z f h = sym (to_z-of_z w128 z f) ∙ ap (to_z w128) h

-- a divisor that is 0, and one that isn't, as the code widens it
pub by_zero : (d : ℤ) (answer : AnswerOrFault ℤ) → SFits w64 d → of_z w64 d ≡ 0 → Err ZeroDivisor ≡ unless_zero d answer
by_zero d answer g z = sym (ap (λ x. unless_zero x answer) (sym (to_z-of_z w64 d g) ∙ ap (to_z w64) z))

not_zero : (n : ℕ) → (n ≡ 0 → ⊥) → 0 < n
not_zero zero h = absurd (h refl)
not_zero (suc n) h = omega arith

pub widens : (z : ℤ) → SFits w64 z → SFits w128 (to_z w64 (of_z w64 z))
widens z h = subst (SFits w128) (sym (to_z-of_z w64 z h)) (wide z h)

pub divides : (a d : ℤ) → (of_z w64 d ≡ 0 → ⊥) → SFits w64 a → SFits w64 d
    → (0 < of_z w128 (to_z w64 (of_z w64 d))) × SFits w128 (int_div (to_z w128 (of_z w128 (to_z w64 (of_z w64 a))))
    (to_z w128 (of_z w128 (to_z w64 (of_z w64 d)))))
divides a d n f g = (
  not_zero _ (λ z. n (ap (of_z w64) (zero_from d (wide d g) (ap (of_z w128) (sym (to_z-of_z w64 d g)) ∙ z)))),
  subst (λ x. SFits w128 (int_div x (to_z w128 (of_z w128 (to_z w64 (of_z w64 d)))))) (sym (widened a f))
      (quotient_fits a _ f),
)

-- a quotient without a remainder
pub exact_quotient : (a d : ℤ) → (of_z w64 d ≡ 0 → ⊥) → SFits w64 a → SFits w64 d
    → of_z w128 (int_rem (to_z w128 (of_z w128 (to_z w64 (of_z w64 a)))) (to_z w128 (of_z w128 (to_z w64
    (of_z w64 d))))) ≡ 0
    → number_or_too_large (to_z w128 (of_z w128 (int_div (to_z w128 (of_z w128 (to_z w64 (of_z w64 a)))) (to_z w128
    (of_z w128 (to_z w64 (of_z w64 d))))))) ≡ quotient_row a d
exact_quotient a d n f g r =
    let whole : int_rem a d ≡ pos 0 = sym (remainder_is a d _ _ (widened a f) (widened d g) f)
    ∙ ap (to_z w128) r in
    ap number_or_too_large (quotient_is a d _ _ (widened a f) (widened d g) f)
    ∙ ap (λ x. whole_quotient x (int_div a d)) (sym whole)
    ∙ sym (nonzero d (whole_quotient (int_rem a d) (int_div a d)) n)

inexact : (r : ℤ) (q : ℤ) → (of_z w128 r ≡ 0 → ⊥) → whole_quotient r q ≡ Err NotWhole
inexact (pos zero) q h = absurd (h refl)
inexact (pos (suc n)) q h = refl
inexact (negsuc n) q h = refl

-- a quotient with a remainder
pub inexact_quotient : (a d : ℤ) → (of_z w64 d ≡ 0 → ⊥) → SFits w64 a → SFits w64 d
    → (of_z w128 (int_rem (to_z w128 (of_z w128 (to_z w64 (of_z w64 a)))) (to_z w128 (of_z w128 (to_z w64
    (of_z w64 d))))) ≡ 0 → ⊥)
    → Err NotWhole ≡ quotient_row a d
inexact_quotient a d n f g r =
    let e : int_rem (to_z w128 (of_z w128 (to_z w64 (of_z w64 a)))) (to_z w128 (of_z w128 (to_z w64
    (of_z w64 d)))) ≡ int_rem a d =
    ap (λ x. int_rem x (to_z w128 (of_z w128 (to_z w64 (of_z w64 d))))) (widened a f)
    ∙ ap (int_rem a) (widened d g) in
    sym (nonzero d (whole_quotient (int_rem a d) (int_div a d)) n
    ∙ inexact (int_rem a d) (int_div a d) (λ z. r (ap (of_z w128) e ∙ z)))

pub remainder_told : (a d : ℤ) → (of_z w64 d ≡ 0 → ⊥) → SFits w64 a → SFits w64 d
    → number_or_too_large (to_z w128 (of_z w128 (int_rem (to_z w128 (of_z w128 (to_z w64 (of_z w64 a)))) (to_z w128
    (of_z w128 (to_z w64 (of_z w64 d))))))) ≡ remainder_row a d
remainder_told a d n f g = ap number_or_too_large (remainder_is a d _ _ (widened a f) (widened d g) f)
    ∙ sym (nonzero d (number_or_too_large (int_rem a d)) n)

-- numbers added to an answer one after another
pub plus_plus : (a b : ℤ) (answer : AnswerOrFault ℤ) → plus_answer a (plus_answer b answer) ≡ plus_answer (a +ℤ b) answer
plus_plus a b (Ok n) = ap (λ x. Ok x) (omega (arith, ints))
plus_plus a b (Err kind) = refl

-- the size of a sum and of a difference
pub abs_sum : (a b : ℤ) → unsigned_abs (a +ℤ b) ≤ unsigned_abs a + unsigned_abs b
abs_sum (pos a) (pos b) = omega arith
abs_sum (pos a) (negsuc b) = omega (arith, ints)
abs_sum (negsuc a) (pos b) = omega (arith, ints)
abs_sum (negsuc a) (negsuc b) = omega arith

abs_difference : (a b : ℤ) → unsigned_abs (a -ℤ b) ≤ unsigned_abs a + unsigned_abs b
abs_difference (pos a) (pos b) = omega (arith, ints)
abs_difference (pos a) (negsuc b) = omega (arith, ints)
abs_difference (negsuc a) (pos b) = omega (arith, ints)
abs_difference (negsuc a) (negsuc b) = omega (arith, ints)

-- what the code does with two numbers of 64 bits in 128 bits
module _ (f : ℤ → ℤ → ℤ) (size : (a b : ℤ) → unsigned_abs (f a b) ≤ unsigned_abs a + unsigned_abs b)
    (a b : ℤ) (h : SFits w64 a) (k : SFits w64 b) where
  both_fit : SFits w128 (f a b)
  both_fit = fits_signed_from_abs w128 (f a b) (omega (arith, size a b, abs_fits a h, abs_fits b k))

  wide_fits : SFits w128 (f (to_z w128 (of_z w128 (to_z w64 (of_z w64 a)))) (to_z w128 (of_z w128 (to_z w64
      (of_z w64 b)))))
  wide_fits = subst (λ x. SFits w128 (f x (to_z w128 (of_z w128 (to_z w64 (of_z w64 b)))))) (sym (widened a h))
      (subst (λ x. SFits w128 (f a x)) (sym (widened b k)) both_fit)

  wide_is : to_z w128 (of_z w128 (f (to_z w128 (of_z w128 (to_z w64 (of_z w64 a)))) (to_z w128 (of_z w128
      (to_z w64 (of_z w64 b)))))) ≡ f a b
  wide_is = ap (λ x. to_z w128 (of_z w128 (f x (to_z w128 (of_z w128 (to_z w64 (of_z w64 b))))))) (widened a h)
      ∙ ap (λ x. to_z w128 (of_z w128 (f a x))) (widened b k) ∙ to_z-of_z w128 (f a b) both_fit

module _ (a b : ℤ) (h : SFits w64 a) (k : SFits w64 b) where
  pub sum_wide : SFits w128 (to_z w128 (of_z w128 (to_z w64 (of_z w64 a))) +ℤ to_z w128 (of_z w128 (to_z w64
      (of_z w64 b))))
  sum_wide = wide_fits (λ x y. x +ℤ y) abs_sum a b h k

  pub sum_told : to_z w128 (of_z w128 (to_z w128 (of_z w128 (to_z w64 (of_z w64 a))) +ℤ to_z w128 (of_z w128
      (to_z w64 (of_z w64 b))))) ≡ a +ℤ b
  sum_told = wide_is (λ x y. x +ℤ y) abs_sum a b h k

  pub difference_wide : SFits w128 (to_z w128 (of_z w128 (to_z w64 (of_z w64 a))) -ℤ to_z w128 (of_z w128 (to_z w64
      (of_z w64 b))))
  difference_wide = wide_fits (λ x y. x -ℤ y) abs_difference a b h k

  pub difference_told : to_z w128 (of_z w128 (to_z w128 (of_z w128 (to_z w64 (of_z w64 a))) -ℤ to_z w128 (of_z w128
      (to_z w64 (of_z w64 b))))) ≡ a -ℤ b
  difference_told = wide_is (λ x y. x -ℤ y) abs_difference a b h k

-- a number with the other sign
zero_less : (z : ℤ) → pos 0 -ℤ z ≡ neg_ℤ z
zero_less z = omega (arith, ints)

module _ (z : ℤ) (h : SFits w64 z) where
  negated_fits : SFits w128 (pos 0 -ℤ z)
  negated_fits = fits_signed_from_abs w128 (pos 0 -ℤ z) (omega (arith, abs_difference (pos 0) z, abs_fits z h))

  pub negated_wide : SFits w128 (pos 0 -ℤ to_z w128 (of_z w128 (to_z w64 (of_z w64 z))))
  negated_wide = subst (λ x. SFits w128 (pos 0 -ℤ x)) (sym (widened z h)) negated_fits

  pub negated_told : to_z w128 (of_z w128 (pos 0 -ℤ to_z w128 (of_z w128 (to_z w64 (of_z w64 z))))) ≡ neg_ℤ z
  negated_told = ap (λ x. to_z w128 (of_z w128 (pos 0 -ℤ x))) (widened z h)
      ∙ to_z-of_z w128 (pos 0 -ℤ z) negated_fits ∙ zero_less z

-- a sum of small products
small_size : (a : ℤ) → IsTrue (is_small a) → unsigned_abs a < 2 ^ 53
small_size a h = ltb-true (unsigned_abs a) (2 ^ 53) h

pub small_fits : (a : ℤ) → IsTrue (is_small a) → SFits w64 a
small_fits a h = fits_signed_from_abs w64 a (omega (arith, small_size a h))

product_size : (a b : ℤ) → IsTrue (is_small a) → IsTrue (is_small b) → unsigned_abs (a *ℤ b) ≤ 2 ^ 106
product_size a b h k =
    let m : unsigned_abs a ≤ 2 ^ 53 = omega (arith, small_size a h) in
    let n : unsigned_abs b ≤ 2 ^ 53 = omega (arith, small_size b k) in
    let p : unsigned_abs a * unsigned_abs b ≤ 2 ^ 53 * 2 ^ 53 = mul-le-mul m n in
    omega (arith, unsigned_abs-mul a b, p)

-- the product that the code computes
pub wide_product : (a b : ℤ) → SFits w64 a → SFits w64 b
    → to_z w128 (of_z w128 (to_z w128 (of_z w128 (to_z w64 (of_z w64 a))) *ℤ to_z w128 (of_z w128
    (to_z w64 (of_z w64 b))))) ≡ a *ℤ b
wide_product a b h k =
    let p : unsigned_abs a * unsigned_abs b ≤ 2 ^ 63 * 2 ^ 63 = mul-le-mul (abs_fits a h) (abs_fits b k) in
    ap (λ x. to_z w128 (of_z w128 (x *ℤ to_z w128 (of_z w128 (to_z w64 (of_z w64 b)))))) (widened a h)
    ∙ ap (λ x. to_z w128 (of_z w128 (a *ℤ x))) (widened b k)
    ∙ to_z-of_z w128 (a *ℤ b) (fits_signed_from_abs w128 (a *ℤ b) (omega (arith, unsigned_abs-mul a b, p)))

pub product_is : (a b : ℤ) → IsTrue (is_small a) → IsTrue (is_small b)
    → to_z w128 (of_z w128 (to_z w128 (of_z w128 (to_z w64 (of_z w64 a))) *ℤ to_z w128 (of_z w128
    (to_z w64 (of_z w64 b))))) ≡ a *ℤ b
product_is a b h k = wide_product a b (small_fits a h) (small_fits b k)

pub product_is_small : (a b : ℤ) → IsTrue (is_small a) → IsTrue (is_small b)
    → unsigned_abs (to_z w128 (of_z w128 (to_z w128 (of_z w128 (to_z w64 (of_z w64 a))) *ℤ to_z w128
    (of_z w128 (to_z w64 (of_z w64 b)))))) ≤ 2 ^ 106
product_is_small a b h k =
    subst (λ x. unsigned_abs x ≤ 2 ^ 106) (sym (product_is a b h k)) (product_size a b h k)

-- a sum of fewer than 2^20 products
module _ (s n : ℤ) (i : ℕ) (h : unsigned_abs s ≤ i * 2 ^ 106) (k : unsigned_abs n ≤ 2 ^ 106)
    (few : i < 2 ^ 20) where
  n_is : to_z w128 (of_z w128 n) ≡ n
  n_is = to_z-of_z w128 n (fits_signed_from_abs w128 n (omega arith))

  pub sum_size : unsigned_abs (s +ℤ n) ≤ (i + 1) * 2 ^ 106
  sum_size = omega (arith, abs_sum s n)

  fits : SFits w128 (s +ℤ n)
  fits = fits_signed_from_abs w128 (s +ℤ n) (omega (arith, abs_sum s n))

  pub sum_fits : SFits w128 (s +ℤ to_z w128 (of_z w128 n))
  sum_fits = subst (λ x. SFits w128 (s +ℤ x)) (sym n_is) fits

  pub sum_is : to_z w128 (of_z w128 (s +ℤ to_z w128 (of_z w128 n))) ≡ s +ℤ n
  sum_is = ap (λ x. to_z w128 (of_z w128 (s +ℤ x))) n_is ∙ to_z-of_z w128 (s +ℤ n) fits
