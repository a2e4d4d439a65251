-- Powers of whole numbers.
use Rattle.std.proofs.Common.{◌≡◌, ℕ, zero, suc, ◌*◌, ◌+◌, ◌^◌, ◌<◌, ◌≤◌, ◌%◌, ◌/◌, ℤ, pos, negsuc, ◌*ℤ◌, Bool, true, false, cond, refl, sym, ap, subst, ◌∙◌, arith, Ok, Err, to_z, of_z}
use Rattle.std.specs.Prelude.{unsigned_abs}
use Rattle.std.proofs.Math.IntN.{*ℤ_comm}
use Rattle.std.proofs.Math.Nat.{pow-zero, pow-succ', pow-le-pow_right}
use Rattle.std.proofs.lemmas.Int.{unsigned_abs-mul}
use Rattle.std.proofs.lemmas.Bool.{ltb-false, le-ltb}
use mir.Syntax.{w64}
use Rattle.text_place.specs.declared.fault.FaultKind.{FaultKind}
use Rattle.text_place.specs.declared.fault.FaultKind.TheVariants.{TooLarge}
use Rattle.scad_value.specs.Values.{is_small}
use Rattle.scad_value.specs.Operators.{number_or_too_large, product_row}
use Rattle.scad_builtin.specs.Builtins.{power}

one_power : (e : ℕ) → power (pos 1) e ≡ pos 1
one_power zero = refl
one_power (suc e) = ap (λ p. pos 1 *ℤ p) (one_power e)

pub one_row : (b : ℤ) (e : ℕ) → b ≡ pos 1 → Ok (pos 1) ≡ number_or_too_large (power b e)
one_row b e is = subst (λ x. Ok (pos 1) ≡ number_or_too_large (power x e)) (sym is) (ap number_or_too_large (sym (one_power e)))

-- a power of -1 is 1 or -1
pub by_sign : (P : ℤ → Type 0) → P (pos 1) → P (negsuc 0) → (e : ℕ) → P (power (negsuc 0) e)
by_sign P plus minus zero = plus
by_sign P plus minus (suc e) = by_sign (λ x. P (negsuc 0 *ℤ x)) minus plus e

pub minus_row : (b r : ℤ) (e : ℕ) → b ≡ negsuc 0 → r ≡ power (negsuc 0) e → Ok (to_z w64 (of_z w64 r))
    ≡ number_or_too_large (power b e)
minus_row b r e is told = subst (λ x. Ok (to_z w64 (of_z w64 r)) ≡ number_or_too_large (power x e)) (sym is)
    (subst (λ x. Ok (to_z w64 (of_z w64 x)) ≡ number_or_too_large (power (negsuc 0) e)) (sym told)
    (by_sign (λ x. Ok (to_z w64 (of_z w64 x)) ≡ number_or_too_large x) refl refl e))

even_power : (k e : ℕ) → e ≡ 2 * k → power (negsuc 0) e ≡ pos 1
even_power zero zero h = refl
even_power zero (suc e) h = absurd (omega arith)
even_power (suc k) zero h = absurd (omega arith)
even_power (suc k) (suc zero) h = absurd (omega arith)
even_power (suc k) (suc (suc e)) h =
    ap (λ p. negsuc 0 *ℤ (negsuc 0 *ℤ p)) (even_power k e (omega arith))

odd_power : (k e : ℕ) → e ≡ 2 * k + 1 → power (negsuc 0) e ≡ negsuc 0
odd_power k zero h = absurd (omega arith)
odd_power k (suc e) h = ap (λ p. negsuc 0 *ℤ p) (even_power k e (omega arith))

pub even_row : (e : ℕ) → e % 2 ≡ 0 → pos 1 ≡ power (negsuc 0) e
even_row e h = sym (even_power (e / 2) e (omega arith))

pub odd_row : (e : ℕ) → (e % 2 ≡ 0 → ⊥) → negsuc 0 ≡ power (negsuc 0) e
odd_row e h = sym (odd_power (e / 2) e (omega arith))

-- products of equal factors
abs_power : (b : ℤ) (e : ℕ) → unsigned_abs (power b e) ≡ unsigned_abs b ^ e
abs_power b zero = sym (pow-zero (unsigned_abs b))
abs_power b (suc e) = unsigned_abs-mul b (power b e) ∙ ap (λ n. unsigned_abs b * n) (abs_power b e)
    ∙ sym (pow-succ' (unsigned_abs b) e)

too_large : (n : ℤ) (kind : FaultKind) → Err kind ≡ number_or_too_large n → (kind ≡ TooLarge) × (2 ^ 53 ≤ unsigned_abs n)
too_large n kind = by_size (is_small n) refl
  where
    by_size : (t : Bool) → is_small n ≡ t → Err kind ≡ cond t (Ok n) (Err TooLarge)
        → (kind ≡ TooLarge) × (2 ^ 53 ≤ unsigned_abs n)
    by_size true e h = absurd (cc)
    by_size false e h = (cc, ltb-false (unsigned_abs n) (2 ^ 53) e)

large : (n : ℤ) → 2 ^ 53 ≤ unsigned_abs n → number_or_too_large n ≡ Err TooLarge
large n h = ap (λ t. cond t (Ok n) (Err TooLarge)) (le-ltb (unsigned_abs n) (2 ^ 53) h)

-- what is too large stays so with more factors
pub stays_large : (p f : ℤ) (i n : ℕ) (kind : FaultKind) → p ≡ power f i → i < n → 2 ≤ unsigned_abs f
    → Err kind ≡ product_row p f → Err kind ≡ number_or_too_large (power f n)
stays_large p f i n kind e less h fault =
    let now = too_large (p *ℤ f) kind fault in
    let size : unsigned_abs (p *ℤ f) ≡ unsigned_abs f ^ suc i =
    ap unsigned_abs (*ℤ_comm p f ∙ ap (λ q. f *ℤ q) e) ∙ abs_power f (suc i) in
    let more : unsigned_abs f ^ suc i ≤ unsigned_abs f ^ n = pow-le-pow_right (omega arith) (omega arith) in
    ap (λ k. Err k) now.0 ∙ sym (large (power f n) (omega (arith, abs_power f n, size, more, now.1)))
