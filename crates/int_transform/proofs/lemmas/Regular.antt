-- The numbers that steps keep.
use Rattle.std.proofs.Common.{◌≡◌, ℕ, zero, suc, ◌<◌, ◌≤◌, refl, sym, ◌∙◌, subst, arith, ℤ, pos, ◌*ℤ◌, unsigned_abs, neg_ℤ, [], ◌∷◌, inl, inr}
use Rattle.plane_predicate.specs.Space.{determinant}
use Rattle.plane_predicate.proofs.lemmas.IntegerRing.{sums}
use Rattle.plane_predicate.proofs.lemmas.Signs.{signs, pos_pos, pos_neg, neg_pos, neg_neg}
use Rattle.plane_predicate.proofs.lemmas.Polynomials.{var, num, times, ring}
use Rattle.plane_predicate.proofs.lemmas.Vectors.{determinantP}
use Rattle.int_transform.specs.declared.affine.Row.{Row}
use Rattle.int_transform.specs.declared.affine.Affine.{Affine}
use Rattle.int_transform.specs.Maps.{cosine_of, determinant_of, diagonal_map, quarter_rotation, power_of, rotation_of, sine_of, IsMatrix, IsMatrixRow, IsSafeRow, IsStep}

pub no_product : (a b : ℤ) → (a ≡ pos 0 → ⊥) → (b ≡ pos 0 → ⊥) → a *ℤ b ≡ pos 0 → ⊥
no_product a b ha hb e =
    elim (signs a) [
      | inl na ↦ elim (signs b) [ inl nb ↦ omega (arith, sums, neg_neg a b na nb, e) | inr h ↦ elim h [ inl z ↦ hb z | inr pb ↦ omega (arith, sums, neg_pos a b na pb, e) ] ]
      | inr g ↦ elim g [
        | inl z ↦ ha z
        | inr pa ↦ elim (signs b) [ inl nb ↦ omega (arith, sums, pos_neg a b pa nb, e) | inr h ↦ elim h [ inl z ↦ hb z | inr pb ↦ omega (arith, sums, pos_pos a b pa pb, e) ] ]
      ]
    ]

pub determinant-diagonal : (a b c : ℤ) → determinant a (pos 0) (pos 0) (pos 0) b (pos 0) (pos 0) (pos 0) c ≡ a *ℤ (b *ℤ c)
determinant-diagonal a b c =
    ring (a ∷ b ∷ c ∷ []) (determinantP (var 0) (num (pos 0)) (num (pos 0)) (num (pos 0)) (var 1) (num (pos 0)) (num (pos 0)) (num (pos 0)) (var 2)) (times (var 0) (times (var 1) (var 2))) refl

pub diagonal_is_step : (a b c x y z : ℤ) → unsigned_abs a ≤ 9007199254740991 → unsigned_abs b ≤ 9007199254740991 → unsigned_abs c ≤ 9007199254740991 → unsigned_abs x ≤ 9007199254740991 → unsigned_abs y ≤ 9007199254740991 → unsigned_abs z ≤ 9007199254740991 →
    (a ≡ pos 0 → ⊥) → (b ≡ pos 0 → ⊥) → (c ≡ pos 0 → ⊥) → IsStep (diagonal_map a b c x y z)
diagonal_is_step a b c x y z ha hb hc hx hy hz na nb nc = record {
  x = record { a_size = ha; b_size = omega arith; c_size = omega arith; d_size = hx };
  y = record { a_size = omega arith; b_size = hb; c_size = omega arith; d_size = hy };
  z = record { a_size = omega arith; b_size = omega arith; c_size = hc; d_size = hz };
  regular = λ e. no_product a (b *ℤ c) na (no_product b c nb nc) (sym (determinant-diagonal a b c) ∙ e);
}

safe_row : (r : Row) → IsMatrixRow r → IsSafeRow r
safe_row r h = record { a_size = omega (arith, h.a_size); b_size = omega (arith, h.b_size); c_size = omega (arith, h.c_size); d_size = h.d_size }

pub matrix_is_step : (m : Affine) → IsMatrix m → (determinant_of m ≡ pos 0 → ⊥) → IsStep m
matrix_is_step m h n = record { x = safe_row m.x h.x; y = safe_row m.y h.y; z = safe_row m.z h.z; regular = n }

unit_row : (a b c : ℤ) → unsigned_abs a ≤ 1 → unsigned_abs b ≤ 1 → unsigned_abs c ≤ 1 → IsSafeRow (record { a = a; b = b; c = c; d = pos 0 })
unit_row a b c ha hb hc = record { a_size = omega arith; b_size = omega arith; c_size = omega arith; d_size = omega arith }

-- the quarter turns in numbers
pub rotation_is : (axis turns : ℕ) → axis < 3 → turns < 4 → rotation_of axis (cosine_of turns) (sine_of turns) ≡ power_of (quarter_rotation axis) turns
rotation_is zero zero h k = refl
rotation_is zero (suc zero) h k = refl
rotation_is zero (suc (suc zero)) h k = refl
rotation_is zero (suc (suc (suc zero))) h k = refl
rotation_is zero (suc (suc (suc (suc n)))) h k = absurd (omega arith)
rotation_is (suc zero) zero h k = refl
rotation_is (suc zero) (suc zero) h k = refl
rotation_is (suc zero) (suc (suc zero)) h k = refl
rotation_is (suc zero) (suc (suc (suc zero))) h k = refl
rotation_is (suc zero) (suc (suc (suc (suc n)))) h k = absurd (omega arith)
rotation_is (suc (suc zero)) zero h k = refl
rotation_is (suc (suc zero)) (suc zero) h k = refl
rotation_is (suc (suc zero)) (suc (suc zero)) h k = refl
rotation_is (suc (suc zero)) (suc (suc (suc zero))) h k = refl
rotation_is (suc (suc zero)) (suc (suc (suc (suc n)))) h k = absurd (omega arith)
rotation_is (suc (suc (suc m))) turns h k = absurd (omega arith)

unit_cosine : (turns : ℕ) → unsigned_abs (cosine_of turns) ≤ 1
unit_cosine zero = omega arith
unit_cosine (suc zero) = omega arith
unit_cosine (suc (suc zero)) = omega arith
unit_cosine (suc (suc (suc n))) = omega arith

unit_sine : (turns : ℕ) → (unsigned_abs (sine_of turns) ≤ 1) × (unsigned_abs (neg_ℤ (sine_of turns)) ≤ 1)
unit_sine zero = (omega arith, omega arith)
unit_sine (suc zero) = (omega arith, omega arith)
unit_sine (suc (suc zero)) = (omega arith, omega arith)
unit_sine (suc (suc (suc n))) = (omega arith, omega arith)

rotation_regular : (axis turns : ℕ) → determinant_of (rotation_of axis (cosine_of turns) (sine_of turns)) ≡ pos 1
rotation_regular zero zero = refl
rotation_regular zero (suc zero) = refl
rotation_regular zero (suc (suc zero)) = refl
rotation_regular zero (suc (suc (suc n))) = refl
rotation_regular (suc zero) zero = refl
rotation_regular (suc zero) (suc zero) = refl
rotation_regular (suc zero) (suc (suc zero)) = refl
rotation_regular (suc zero) (suc (suc (suc n))) = refl
rotation_regular (suc (suc m)) zero = refl
rotation_regular (suc (suc m)) (suc zero) = refl
rotation_regular (suc (suc m)) (suc (suc zero)) = refl
rotation_regular (suc (suc m)) (suc (suc (suc n))) = refl

one_is_not_zero : (z : ℤ) → z ≡ pos 1 → z ≡ pos 0 → ⊥
one_is_not_zero z e f = omega (arith, sums, e, f)

rotation_rows : (axis : ℕ) (c s : ℤ) → unsigned_abs c ≤ 1 → unsigned_abs s ≤ 1 → unsigned_abs (neg_ℤ s) ≤ 1 → let m = rotation_of axis c s in IsSafeRow m.x × IsSafeRow m.y × IsSafeRow m.z
rotation_rows zero c s hc hs hn = (unit_row _ _ _ (omega arith) (omega arith) (omega arith), unit_row _ _ _ (omega arith) hc hn, unit_row _ _ _ (omega arith) hs hc)
rotation_rows (suc zero) c s hc hs hn = (unit_row _ _ _ hc (omega arith) hs, unit_row _ _ _ (omega arith) (omega arith) (omega arith), unit_row _ _ _ hn (omega arith) hc)
rotation_rows (suc (suc n)) c s hc hs hn = (unit_row _ _ _ hc hn (omega arith), unit_row _ _ _ hs hc (omega arith), unit_row _ _ _ (omega arith) (omega arith) (omega arith))

pub rotation_is_step : (axis turns : ℕ) → IsStep (rotation_of axis (cosine_of turns) (sine_of turns))
rotation_is_step axis turns =
    let s = unit_sine turns in
    let r = rotation_rows axis (cosine_of turns) (sine_of turns) (unit_cosine turns) s.0 s.1 in
    record { x = r.0; y = r.1; z = r.2; regular = one_is_not_zero _ (rotation_regular axis turns) }

pub matrix_rows : (x y z a b c : Row) (v : ℤ) → x ≡ a → y ≡ b → z ≡ c → let m : Affine = record { x = x; y = y; z = z } in v ≡ determinant_of m → (let n : Affine = record { x = a; y = b; z = c } in IsMatrix n) → (v ≡ pos 0 → ⊥) → IsStep m
matrix_rows x y z a b c v ex ey ez ev h n =
    let m : Affine = record { x = x; y = y; z = z } in
    let rows : IsMatrix m = rw (ex, ey, ez) h in
    matrix_is_step m rows (λ e. n (ev ∙ e))

pub scaled_is_step : (m : Affine) (x y z : ℤ) → m ≡ diagonal_map x y z (pos 0) (pos 0) (pos 0) → unsigned_abs x ≤ 9007199254740991 → unsigned_abs y ≤ 9007199254740991 → unsigned_abs z ≤ 9007199254740991 →
    (x ≡ pos 0 → ⊥) → (y ≡ pos 0 → ⊥) → (z ≡ pos 0 → ⊥) → IsStep m
scaled_is_step m x y z e hx hy hz nx ny nz =
    subst IsStep (sym e) (diagonal_is_step x y z (pos 0) (pos 0) (pos 0) hx hy hz (omega arith) (omega arith) (omega arith) nx ny nz)
