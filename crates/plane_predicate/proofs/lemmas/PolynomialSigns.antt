-- Signs of polynomials whose form shows them, by computing.
use Rattle.std.proofs.Common.{◌≡◌, ℕ, zero, suc, ◌<◌, Bool, true, false, ◌&&◌, List, ltb, refl, arith, ℤ, pos, negsuc, ◌+ℤ◌, ◌<ℤ◌, ◌≤ℤ◌, sym, ◌∙◌, subst}
use Rattle.std.proofs.lemmas.Bool.{and_parts, ltb-true}
use Rattle.plane_predicate.proofs.lemmas.IntegerRing.{sums}
use Rattle.plane_predicate.proofs.lemmas.Polynomials.{Poly, value, at, Horner, constant, step, horner_value, expand, expand_is}
use Rattle.plane_predicate.proofs.lemmas.Signs.{pos_pos, least_least}

-- the form is 0
abbrev pub is_zero : Horner → Bool
is_zero (constant (pos zero)) = true
is_zero _ = false

-- no number in the form is below 0, and its variables are among the first ones
abbrev pub has_least : ℕ → Horner → Bool
has_least first (constant (pos k)) = true
has_least first (constant (negsuc k)) = false
has_least first (step i a b) = ltb i first && (has_least first a && has_least first b)

-- the same, and some product in the form has a number above 0
abbrev pub is_above : ℕ → Horner → Bool
is_above first (constant (pos (suc k))) = true
is_above first (constant (pos zero)) = false
is_above first (constant (negsuc k)) = false
is_above first (step i a b) = ltb i first && (is_above first a && has_least first b)

-- the first variables are above 0
abbrev pub AreAbove : ℕ → List ℤ → Type 0
AreAbove first xs = (i : ℕ) → i < first → pos 0 <ℤ at xs i

zero_form : (xs : List ℤ) (h : Horner) → is_zero h ≡ true → horner_value xs h ≡ pos 0
zero_form xs (constant (pos zero)) e = refl
zero_form xs (constant (pos (suc k))) e = cc
zero_form xs (constant (negsuc k)) e = cc
zero_form xs (step i a b) e = cc

least_sum : (x y : ℤ) → pos 0 ≤ℤ x → pos 0 ≤ℤ y → pos 0 ≤ℤ (x +ℤ y)
least_sum x y h k = omega (arith, sums)

above_sum : (x y : ℤ) → pos 0 <ℤ x → pos 0 ≤ℤ y → pos 0 <ℤ (x +ℤ y)
above_sum x y h k = omega (arith, sums)

weaker : (x : ℤ) → pos 0 <ℤ x → pos 0 ≤ℤ x
weaker x h = omega (arith, sums)

least_form : (first : ℕ) (xs : List ℤ) → AreAbove first xs → (h : Horner) → has_least first h ≡ true → pos 0 ≤ℤ horner_value xs h
least_form first xs above (constant (pos k)) e = omega (arith, sums)
least_form first xs above (constant (negsuc k)) e = cc
least_form first xs above (step i a b) e =
    let known = and_parts (ltb i first) (has_least first a && has_least first b) e in
    let parts = and_parts (has_least first a) (has_least first b) known.1 in
    least_sum _ _ (least_least _ _ (weaker _ (above i (ltb-true i first known.0))) (least_form first xs above a parts.0)) (least_form first xs above b parts.1)

above_form : (first : ℕ) (xs : List ℤ) → AreAbove first xs → (h : Horner) → is_above first h ≡ true → pos 0 <ℤ horner_value xs h
above_form first xs above (constant (pos zero)) e = cc
above_form first xs above (constant (pos (suc k))) e = omega (arith, sums)
above_form first xs above (constant (negsuc k)) e = cc
above_form first xs above (step i a b) e =
    let known = and_parts (ltb i first) (is_above first a && has_least first b) e in
    let parts = and_parts (is_above first a) (has_least first b) known.1 in
    above_sum _ _ (pos_pos _ _ (above i (ltb-true i first known.0)) (above_form first xs above a parts.0)) (least_form first xs above b parts.1)

-- a polynomial is 0, or above 0, where its form is
pub zero_by_form : (xs : List ℤ) (p : Poly) → is_zero (expand p) ≡ true → value xs p ≡ pos 0
zero_by_form xs p e = sym (expand_is xs p) ∙ zero_form xs (expand p) e

pub above_by_form : (first : ℕ) (xs : List ℤ) → AreAbove first xs → (p : Poly) → is_above first (expand p) ≡ true → pos 0 <ℤ value xs p
above_by_form first xs above p e = subst (λ (x : ℤ). pos 0 <ℤ x) (expand_is xs p) (above_form first xs above (expand p) e)
