-- A number of a range, as the code computes it.
use Rattle.std.proofs.Common.{◌≡◌, ℕ, ◌-◌, ◌*◌, ◌^◌, ◌<◌, ◌≤◌, ℤ, pos, negsuc, ◌+ℤ◌, ◌*ℤ◌, ap, ◌∙◌, arith, to_z, of_z}
use Rattle.std.specs.Prelude.{unsigned_abs}
use Rattle.std.proofs.lemmas.Int.{ints, to_z-of_z, to_z_pos, unsigned_abs-mul, fits_signed_from_abs}
use Rattle.std.proofs.Math.Nat.{mul-le-mul}
use mir.Syntax.{w64, w128}
use mir.Val.{SFits}

abs_fits : (z : ℤ) → SFits w64 z → unsigned_abs z ≤ 2 ^ 63
abs_fits (pos n) h = omega (arith, h.sfits)
abs_fits (negsuc n) h = omega (arith, h.sfits)

wide : (z : ℤ) → SFits w64 z → SFits w128 z
wide z h = fits_signed_from_abs w128 z (omega (arith, abs_fits z h))

-- 64 bits in 128 bits
pub widened : (z : ℤ) → SFits w64 z → to_z w128 (of_z w128 (to_z w64 (of_z w64 z))) ≡ z
widened z h = ap (λ x. to_z w128 (of_z w128 x)) (to_z-of_z w64 z h) ∙ to_z-of_z w128 z (wide z h)

product_size : (by : ℤ) (k : ℕ) → SFits w64 by → k < 2 ^ 64 → unsigned_abs (pos k *ℤ by) ≤ (2 ^ 64 - 1) * 2 ^ 63
product_size by k h l =
    let small : k ≤ 2 ^ 64 - 1 = omega arith in
    let m : k * unsigned_abs by ≤ (2 ^ 64 - 1) * 2 ^ 63 = mul-le-mul small (abs_fits by h) in
    omega (arith, m, unsigned_abs-mul (pos k) by)

sum_fits : (x y : ℤ) → SFits w64 x → unsigned_abs y ≤ (2 ^ 64 - 1) * 2 ^ 63 → SFits w128 (x +ℤ y)
sum_fits x (pos n) h l = omega (arith, ints)
sum_fits x (negsuc n) h l = omega (arith, ints)

pub number_is : (from by : ℤ) (k : ℕ) → SFits w64 from → SFits w64 by → k < 2 ^ 64
    → to_z w128 (of_z w128 (to_z w128 (of_z w128 (to_z w64 (of_z w64 from)))
    +ℤ to_z w128 (of_z w128 (to_z w128 k *ℤ to_z w128 (of_z w128 (to_z w64 (of_z w64 by)))))))
    ≡ from +ℤ (pos k *ℤ by)
number_is from by k f g h =
    let start = widened from f in
    let step = widened by g in
    let place : to_z w128 k ≡ pos k = to_z_pos w128 k (omega arith) in
    let size = product_size by k g h in
    let product = to_z-of_z w128 (pos k *ℤ by) (fits_signed_from_abs w128 (pos k *ℤ by) (omega (arith, size))) in
    let sum = to_z-of_z w128 (from +ℤ (pos k *ℤ by)) (sum_fits from (pos k *ℤ by) f size) in
    simp (start, step, place, product, sum)
