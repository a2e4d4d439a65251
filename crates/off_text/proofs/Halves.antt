-- A corner without a common factor in half units: its weight is doubled, or else its coordinates are halved.
use Rattle.std.proofs.Common.{◌≡◌, ℕ, ◌+◌, ◌-◌, ◌*◌, ◌/◌, ◌%◌, ◌^◌, ◌<◌, ◌≤◌, true, false, ◌&&◌, sym, ap, ◌∙◌, subst, arith, ℤ, pos, negsuc, ◌*ℤ◌, ◌<ℤ◌, neg_ℤ, unsigned_abs}
use Rattle.std.specs.Prelude.{int_rem}
use Rattle.std.proofs.lemmas.Bool.{and_parts, and_from, false≢true}
use Rattle.std.proofs.lemmas.Bool.Decides.{Decides-int_eq}
use Rattle.std.proofs.lemmas.Int.{unsigned_abs-mul}
use Rattle.std.proofs.lemmas.Nat.Gcd.{dvd_trans, dvd_of_mod-eq-zero, mod-eq-zero_of_dvd}
use Rattle.std.proofs.Math.Nat.{mul-div_cancel', dvd-mul_right, dvd-mul_left_of_dvd}
use Prim.Native.Nat.{◌∣◌}
use Rattle.plane_predicate.specs.declared.unit.Unit.TheVariants.{Half}
use Rattle.plane_predicate.specs.Space.{Coordinates, most_direction, IsPoint}
use Rattle.plane_predicate.proofs.lemmas.IntegerRing.{sums, one_mul}
use Rattle.off_text.specs.Numbering.{is_even, HasVertexSizes, IsVertexAt}

-- ---- even numbers
rest_of_even : (x : ℤ) → unsigned_abs x % 2 ≡ 0 → int_rem x (pos 2) ≡ pos 0
rest_of_even (pos n) h = ap pos h
rest_of_even (negsuc n) h = ap (λ (k : ℕ). neg_ℤ (pos k)) h

even_by : (x : ℤ) → 2 ∣ unsigned_abs x → is_even x ≡ true
even_by x h = (Decides-int_eq (int_rem x (pos 2)) (pos 0)).1 (rest_of_even x (mod-eq-zero_of_dvd 2 h))

pub no_rest : (x : ℤ) → is_even x ≡ true → int_rem x (pos 2) ≡ pos 0
no_rest x h = (Decides-int_eq (int_rem x (pos 2)) (pos 0)).0 h

-- ---- a factor of twice a number that is odd is one of the number
twice_rest : (k j m d : ℕ) → k ≡ 2 * j + 1 → k * m ≡ 2 * d → m ≡ 2 * (d - j * m)
twice_rest k j m d e h = omega (arith, ap (λ (x : ℕ). x * m) e)

half_of : (k e m d : ℕ) → m ≡ 2 * e → k * m ≡ 2 * d → k * e ≡ d
half_of k e m d h l = omega (arith, ap (λ (x : ℕ). k * x) h)

odd_is : (k : ℕ) → k % 2 ≡ 1 → k ≡ 2 * (k / 2) + 1
odd_is k h = omega arith

odd_factor : (k d : ℕ) → k % 2 ≡ 1 → k ∣ 2 * d → k ∣ d
odd_factor k d h l =
    let m = 2 * d / k in
    let j = k / 2 in
    let whole : k * m ≡ 2 * d = mul-div_cancel' k l in
    let half : m ≡ 2 * (d - j * m) = twice_rest k j m d (odd_is k h) whole in
    subst (λ (x : ℕ). k ∣ x) (half_of k (d - j * m) m d half whole) (dvd-mul_right k (d - j * m))

rest_by_two : (k : ℕ) → (k % 2 ≡ 0 → ⊥) → k % 2 ≡ 1
rest_by_two k h = grind (arith, h)

module _ (a b c d : ℕ) (reduced : (k : ℕ) → k ∣ a → k ∣ b → k ∣ c → k ∣ d → k ≡ 1) where
  -- where one of three numbers is odd, doubling the fourth brings in no common factor
  doubled_reduced : (2 ∣ a → 2 ∣ b → 2 ∣ c → ⊥) → (k : ℕ) → k ∣ a → k ∣ b → k ∣ c → k ∣ 2 * d → k ≡ 1
  doubled_reduced odd k ka kb kc kd =
      let is_odd = rest_by_two k (λ e.
      let two : 2 ∣ k = dvd_of_mod-eq-zero 2 e in odd (dvd_trans 2 two ka) (dvd_trans 2 two kb) (dvd_trans 2 two kc)) in
      reduced k ka kb kc (odd_factor k d is_odd kd)

  -- neither does halving the three
  halved_reduced : (x y z : ℕ) → a ≡ 2 * x → b ≡ 2 * y → c ≡ 2 * z → (k : ℕ) → k ∣ x → k ∣ y → k ∣ z → k ∣ d → k ≡ 1
  halved_reduced x y z ea eb ec k kx ky kz kd =
      reduced k (subst (λ (n : ℕ). k ∣ n) (sym ea) (dvd-mul_left_of_dvd k kx 2)) (subst (λ (n : ℕ). k ∣ n) (sym eb) (dvd-mul_left_of_dvd k ky 2))
      (subst (λ (n : ℕ). k ∣ n) (sym ec) (dvd-mul_left_of_dvd k kz 2)) kd

two_above : pos 0 <ℤ pos 2
two_above = omega (arith, sums)

one_above : pos 0 <ℤ pos 1
one_above = omega (arith, sums)

-- ---- the vertex
pub halved_vertex : (p v : Coordinates) → p.x ≡ pos 2 *ℤ v.x → p.y ≡ pos 2 *ℤ v.y → p.z ≡ pos 2 *ℤ v.z → v.w ≡ p.w → IsVertexAt Half p v
halved_vertex p v ex ey ez ew = record {
  times = record { by = pos 2; above = two_above; x = ex; y = ey; z = ez; w = ap (λ (n : ℤ). pos 2 *ℤ n) (sym ew) };
  reduced = λ h. record {
    reduced = λ k kx ky kz kw. halved_reduced (unsigned_abs p.x) (unsigned_abs p.y) (unsigned_abs p.z) (unsigned_abs p.w) h.reduced
        (unsigned_abs v.x) (unsigned_abs v.y) (unsigned_abs v.z) (ap unsigned_abs ex ∙ unsigned_abs-mul (pos 2) v.x)
        (ap unsigned_abs ey ∙ unsigned_abs-mul (pos 2) v.y) (ap unsigned_abs ez ∙ unsigned_abs-mul (pos 2) v.z)
        k kx ky kz (subst (λ (n : ℤ). k ∣ unsigned_abs n) ew kw);
  };
}

is_odd_somewhere : (p : Coordinates) → ((is_even p.x && is_even p.y) && is_even p.z) ≡ false →
    2 ∣ unsigned_abs p.x → 2 ∣ unsigned_abs p.y → 2 ∣ unsigned_abs p.z → ⊥
is_odd_somewhere p h x y z =
    false≢true (sym h ∙ and_from (is_even p.x && is_even p.y) (is_even p.z)
    (and_from (is_even p.x) (is_even p.y) (even_by p.x x) (even_by p.y y)) (even_by p.z z))

pub doubled_vertex : (p v : Coordinates) → ((is_even p.x && is_even p.y) && is_even p.z) ≡ false →
    v.x ≡ p.x → v.y ≡ p.y → v.z ≡ p.z → v.w ≡ pos 2 *ℤ p.w → IsVertexAt Half p v
doubled_vertex p v odd ex ey ez ew = record {
  times = record {
    by = pos 1;
    above = one_above;
    x = sym (one_mul v.x ∙ ex);
    y = sym (one_mul v.y ∙ ey);
    z = sym (one_mul v.z ∙ ez);
    w = sym (one_mul v.w ∙ ew);
  };
  reduced = λ h. record {
    reduced = λ k kx ky kz kw. doubled_reduced (unsigned_abs p.x) (unsigned_abs p.y) (unsigned_abs p.z) (unsigned_abs p.w) h.reduced
        (is_odd_somewhere p odd)
        k (subst (λ (n : ℤ). k ∣ unsigned_abs n) ex kx) (subst (λ (n : ℤ). k ∣ unsigned_abs n) ey ky)
        (subst (λ (n : ℤ). k ∣ unsigned_abs n) ez kz)
        (subst (λ (n : ℕ). k ∣ n) (ap unsigned_abs ew ∙ unsigned_abs-mul (pos 2) p.w) kw);
  };
}

-- the three parts of the test
pub even_parts : (p : Coordinates) → ((is_even p.x && is_even p.y) && is_even p.z) ≡ true →
    (is_even p.x ≡ true) × (is_even p.y ≡ true) × (is_even p.z ≡ true)
even_parts p h =
    let all = and_parts (is_even p.x && is_even p.y) (is_even p.z) h in
    let two = and_parts (is_even p.x) (is_even p.y) all.0 in
    (two.0, two.1, all.1)

-- ---- the sizes of its numbers
pub point_sizes : (p : Coordinates) → IsPoint p → HasVertexSizes p
point_sizes p h = record {
  x_size = omega (arith, h.sizes.x_size);
  y_size = omega (arith, h.sizes.y_size);
  z_size = omega (arith, h.sizes.z_size);
  w_size = omega (arith, h.sizes.w_size);
}

half_size : (x h : ℤ) → x ≡ pos 2 *ℤ h → unsigned_abs x < 2 ^ 127 → unsigned_abs h < 2 ^ 127
half_size x h e l = omega (arith, l, ap unsigned_abs e, unsigned_abs-mul (pos 2) h)

pub halved_sizes : (p v : Coordinates) → IsPoint p → p.x ≡ pos 2 *ℤ v.x → p.y ≡ pos 2 *ℤ v.y → p.z ≡ pos 2 *ℤ v.z → v.w ≡ p.w → HasVertexSizes v
halved_sizes p v h ex ey ez ew =
    let s = point_sizes p h in record {
      x_size = half_size p.x v.x ex s.x_size;
      y_size = half_size p.y v.y ey s.y_size;
      z_size = half_size p.z v.z ez s.z_size;
      w_size = subst (λ (n : ℤ). unsigned_abs n < 2 ^ 127) (sym ew) s.w_size;
    }

pub twice_size : (w : ℤ) → unsigned_abs w ≤ 6 * (most_direction * (most_direction * most_direction)) → unsigned_abs (pos 2 *ℤ w) < 2 ^ 127
twice_size w h = omega (arith, h, unsigned_abs-mul (pos 2) w)

pub doubled_sizes : (p : Coordinates) → IsPoint p → HasVertexSizes (record { x = p.x; y = p.y; z = p.z; w = pos 2 *ℤ p.w })
doubled_sizes p h =
    let s = point_sizes p h in
    record { x_size = s.x_size; y_size = s.y_size; z_size = s.z_size; w_size = twice_size p.w h.sizes.w_size }
