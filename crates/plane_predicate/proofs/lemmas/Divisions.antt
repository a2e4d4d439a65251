-- Numbers divided by their common factor.
use Rattle.std.proofs.Common.{◌≡◌, ℕ, zero, suc, ◌+◌, ◌*◌, ◌/◌, ◌^◌, ◌<◌, ◌≤◌, sym, ap, ◌∙◌, subst, arith, ℤ, pos, negsuc, ◌-ℤ◌, ◌*ℤ◌, ◌<ℤ◌, ◌≤ℤ◌, neg_ℤ, unsigned_abs, to_z, of_z, to_z-of_z, FitsSigned}
use Rattle.std.proofs.Math.Nat.{mul-div_cancel', mul-dvd-mul_left, dvd_of_mul-dvd-mul_left, div-le_self, eq-zero_of_zero-dvd, eq-one_of_dvd-one}
use Rattle.std.proofs.lemmas.Nat.Gcd.{dvd_trans}
use Rattle.std.proofs.lemmas.Int.{unsigned_abs-mul, to_z_pos}
use Rattle.std.specs.Int.{IsGcd}
use Rattle.plane_predicate.specs.Space.{Coordinates, IsPoint, IsCommonFactor, IsPointTimes, AreQuotients}
use Rattle.plane_predicate.proofs.lemmas.IntegerRing.{sums, mul_neg_right}
use Rattle.plane_predicate.proofs.lemmas.Opposites.{size_of_negative, from_zero}
use Rattle.plane_predicate.proofs.lemmas.Sizes.{fits_by_size}
use Rattle.plane_predicate.proofs.lemmas.Signs.{pos_cancel}
use Prim.Native.Nat.{◌∣◌}
use mir.Syntax.{w128}

-- the common factor of two common factors
pub common_of : (x y z w a b g : ℕ) → IsGcd x y a → IsGcd z w b → IsGcd a b g → IsCommonFactor x y z w g
common_of x y z w a b g h k l = record {
  divides_x = dvd_trans g l.0 h.0;
  divides_y = dvd_trans g l.0 h.1;
  divides_z = dvd_trans g l.1 k.0;
  divides_w = dvd_trans g l.1 k.1;
  greatest = λ d hx hy hz hw. l.2 d (h.2 d hx hy) (k.2 d hz hw);
}

-- ---- one quotient
-- what the machine makes of a size below 2 ^ 127, and of its negative
pub machine_positive : (n : ℕ) → n < 2 ^ 127 → to_z w128 n ≡ pos n
machine_positive n h = to_z_pos w128 n h

pub machine_negative : (n : ℕ) → n < 2 ^ 127 → to_z w128 (of_z w128 (pos 0 -ℤ to_z w128 n)) ≡ neg_ℤ (pos n)
machine_negative n h =
    let fits : FitsSigned w128 (neg_ℤ (pos n)) = fits_by_size w128 (neg_ℤ (pos n)) (subst (λ (m : ℕ). m < 2 ^ 127) (sym (size_of_negative (pos n))) h) in
    ap (λ (z : ℤ). to_z w128 (of_z w128 (pos 0 -ℤ z))) (machine_positive n h) ∙ ap (λ (z : ℤ). to_z w128 (of_z w128 z)) (from_zero (pos n)) ∙ to_z-of_z fits

pub quotient_below : (size by : ℕ) → 0 < by → by ∣ size → size < 2 ^ 127 → size / by < 2 ^ 127
quotient_below size by h d l = omega (arith, div-le_self size by)

of_product : (x : ℤ) (by n : ℕ) → by * n ≡ unsigned_abs x → pos 0 ≤ℤ x → x ≡ pos by *ℤ pos n
of_product (pos k) by n e h = ap pos (sym e)
of_product (negsuc k) by n e h = absurd (omega (arith, sums))

of_product_negative : (x : ℤ) (by n : ℕ) → by * n ≡ unsigned_abs x → x <ℤ pos 0 → x ≡ pos by *ℤ neg_ℤ (pos n)
of_product_negative (pos k) by n e h = absurd (omega (arith, sums))
of_product_negative (negsuc k) by n e h = sym (mul_neg_right (pos by) (pos n) ∙ ap (λ (m : ℕ). neg_ℤ (pos m)) e)

pub quotient : (x : ℤ) (by : ℕ) → by ∣ unsigned_abs x → pos 0 ≤ℤ x → x ≡ pos by *ℤ pos (unsigned_abs x / by)
quotient x by d h = of_product x by (unsigned_abs x / by) (mul-div_cancel' by d) h

pub quotient_negative : (x : ℤ) (by : ℕ) → by ∣ unsigned_abs x → x <ℤ pos 0 → x ≡ pos by *ℤ neg_ℤ (pos (unsigned_abs x / by))
quotient_negative x by d h = of_product_negative x by (unsigned_abs x / by) (mul-div_cancel' by d) h

pub quotient_size : (x q : ℤ) (by : ℕ) → x ≡ pos by *ℤ q → unsigned_abs x ≡ by * unsigned_abs q
quotient_size x q by e = ap unsigned_abs e ∙ unsigned_abs-mul (pos by) q

-- ---- four numbers divided by their common factor
pub factor_above : (x y z w by : ℕ) → IsCommonFactor x y z w by → 0 < x + y + z + w → 0 < by
factor_above x y z w zero f h = absurd (omega (arith, eq-zero_of_zero-dvd f.divides_x, eq-zero_of_zero-dvd f.divides_y, eq-zero_of_zero-dvd f.divides_z, eq-zero_of_zero-dvd f.divides_w))
factor_above x y z w (suc by) f h = omega arith

times_one : (n : ℕ) → n * 1 ≡ n
times_one n = omega arith

-- a factor of all the quotients makes with `by` a factor of all the numbers
no_factor : (x y z w by a b c d : ℕ) → 0 < by → IsCommonFactor x y z w by → x ≡ by * a → y ≡ by * b → z ≡ by * c → w ≡ by * d → (k : ℕ) → k ∣ a → k ∣ b → k ∣ c → k ∣ d → k ≡ 1
no_factor x y z w by a b c d h f ex ey ez ew k ka kb kc kd =
    let whole : by * k ∣ by = f.greatest (by * k) (rw ex (mul-dvd-mul_left k by ka)) (rw ey (mul-dvd-mul_left k by kb)) (rw ez (mul-dvd-mul_left k by kc)) (rw ew (mul-dvd-mul_left k by kd)) in
    eq-one_of_dvd-one (dvd_of_mul-dvd-mul_left k h (subst (λ (n : ℕ). by * k ∣ n) (sym (times_one by)) whole))

pub quotients_of : (x y z w a b c d : ℤ) (by : ℕ) → 0 < unsigned_abs x + unsigned_abs y + unsigned_abs z + unsigned_abs w → IsCommonFactor (unsigned_abs x) (unsigned_abs y) (unsigned_abs z) (unsigned_abs w) by →
    x ≡ pos by *ℤ a → y ≡ pos by *ℤ b → z ≡ pos by *ℤ c → w ≡ pos by *ℤ d → AreQuotients x y z w a b c d
quotients_of x y z w a b c d by h f ex ey ez ew =
    let above = factor_above (unsigned_abs x) (unsigned_abs y) (unsigned_abs z) (unsigned_abs w) by f h in record {
      factor = by;
      above = above;
      x_is = ex;
      y_is = ey;
      z_is = ez;
      w_is = ew;
      no_factor = no_factor (unsigned_abs x) (unsigned_abs y) (unsigned_abs z) (unsigned_abs w) by (unsigned_abs a) (unsigned_abs b) (unsigned_abs c) (unsigned_abs d) above f
          (quotient_size x a by ex) (quotient_size y b by ey) (quotient_size z c by ez) (quotient_size w d by ew);
    }

smaller : (x q by m : ℕ) → 0 < by → x ≡ by * q → x ≤ m → q ≤ m
smaller x zero by m h e l = omega arith
smaller x (suc q) (suc by) m h e l = omega arith
smaller x (suc q) zero m h e l = absurd (omega arith)

pub quotient_most : (x q : ℤ) (by m : ℕ) → 0 < by → x ≡ pos by *ℤ q → unsigned_abs x ≤ m → unsigned_abs q ≤ m
quotient_most x q by m h e l = smaller (unsigned_abs x) (unsigned_abs q) by m h (quotient_size x q by e) l

pub above_positive : (by : ℕ) → 0 < by → pos 0 <ℤ pos by
above_positive by h = omega (arith, sums)

pub reduced_is_point : (p q : Coordinates) → IsPoint p → AreQuotients p.x p.y p.z p.w q.x q.y q.z q.w → IsPoint q
reduced_is_point p q h d = record {
  weight = pos_cancel (pos d.factor) q.w (above_positive d.factor d.above) (subst (λ (z : ℤ). pos 0 <ℤ z) d.w_is h.weight);
  sizes = record {
    x_size = quotient_most p.x q.x d.factor _ d.above d.x_is h.sizes.x_size;
    y_size = quotient_most p.y q.y d.factor _ d.above d.y_is h.sizes.y_size;
    z_size = quotient_most p.z q.z d.factor _ d.above d.z_is h.sizes.z_size;
    w_size = quotient_most p.w q.w d.factor _ d.above d.w_is h.sizes.w_size;
  };
}

pub reduced_is_same : (p q : Coordinates) → AreQuotients p.x p.y p.z p.w q.x q.y q.z q.w → IsPointTimes p q
reduced_is_same p q d = record { by = pos d.factor; above = above_positive d.factor d.above; x = d.x_is; y = d.y_is; z = d.z_is; w = d.w_is }

pub same_factor : (x y z w a b c d by : ℕ) → x ≡ a → y ≡ b → z ≡ c → w ≡ d → IsCommonFactor x y z w by → IsCommonFactor a b c d by
same_factor x y z w a b c d by ex ey ez ew f = record {
  divides_x = subst (λ (n : ℕ). by ∣ n) ex f.divides_x;
  divides_y = subst (λ (n : ℕ). by ∣ n) ey f.divides_y;
  divides_z = subst (λ (n : ℕ). by ∣ n) ez f.divides_z;
  divides_w = subst (λ (n : ℕ). by ∣ n) ew f.divides_w;
  greatest = λ k hx hy hz hw. f.greatest k (subst (λ (n : ℕ). k ∣ n) (sym ex) hx) (subst (λ (n : ℕ). k ∣ n) (sym ey) hy) (subst (λ (n : ℕ). k ∣ n) (sym ez) hz) (subst (λ (n : ℕ). k ∣ n) (sym ew) hw);
}
