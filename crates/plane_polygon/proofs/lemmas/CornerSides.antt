-- Corners, and lists of them.
use Rattle.std.proofs.Common.{◌≡◌, ◌≢◌, ℕ, zero, suc, ◌+◌, Bool, true, false, ◌||◌, List, [], ◌∷◌, ◌++◌, map, refl, sym, ap, ap₂, ◌∙◌, subst, arith, add-one, ℤ, pos, negsuc, ◌<ℤ◌, ◌≤ℤ◌, int_lt, neg_ℤ, inl, inr}
use Rattle.std.proofs.lemmas.List.{map-append}
use Rattle.plane_predicate.specs.Space.{Coefficients, Coordinates, meeting_by_cramers_rule, meeting, with_weight_above_zero, IsPointTimes, HasNoCommonFactor}
use Rattle.plane_predicate.specs.Sides.{side_of, is_side_behind, is_side_ahead}
use Rattle.plane_predicate.proofs.lemmas.IntegerRing.{sums}
use Rattle.plane_predicate.specs.Space.{value, opposite_of}
use Rattle.plane_predicate.proofs.lemmas.Signs.{signs}
use Rattle.plane_predicate.proofs.lemmas.Vectors.{value-opposite}
use Rattle.std.proofs.lemmas.Int.{ints}
use Rattle.plane_polygon.specs.Polygons.{Outline, AreReducedFrom}
use Rattle.plane_polygon.specs.declared.classes.Class.TheVariants.{Across}
use Rattle.plane_polygon.specs.Parts.{corners, some_of, is_behind, is_ahead, class_by_sides, class_of}
use Rattle.plane_predicate.specs.Indices.{indices_below}

signed_positive : (w : ℤ) (p : Coordinates) → pos 0 <ℤ w → with_weight_above_zero w p ≡ p
signed_positive (pos n) p h = refl
signed_positive (negsuc n) p h = absurd (omega (arith, sums))

pub positive_meeting : (p q r : Coefficients) → pos 0 <ℤ (meeting_by_cramers_rule p q r).w → meeting p q r ≡ meeting_by_cramers_rule p q r
positive_meeting p q r h = signed_positive (meeting_by_cramers_rule p q r).w (meeting_by_cramers_rule p q r) h

pub positive_apart : (x : ℤ) → pos 0 <ℤ x → x ≢ pos 0
positive_apart x h e = omega (arith, sums)

pub not_less : (x y : ℤ) → y ≤ℤ x → int_lt x y ≡ false
not_less x y h = elim (int_lt x y) as (λ b. int_lt x y ≡ b → b ≡ false) [ true ↦ λ e. absurd (omega (arith, ints)) | false ↦ λ e. refl ] refl

pub less : (x y : ℤ) → x <ℤ y → int_lt x y ≡ true
less x y h = elim (int_lt x y) as (λ b. int_lt x y ≡ b → b ≡ true) [ true ↦ λ e. refl | false ↦ λ e. absurd (omega (arith, ints)) ] refl

pub side_behind : (v : ℤ) → is_side_behind (side_of v) ≡ int_lt v (pos 0)
side_behind (pos zero) = sym (not_less (pos 0) (pos 0) (omega (arith, sums)))
side_behind (pos (suc n)) = sym (not_less (pos (suc n)) (pos 0) (omega (arith, sums)))
side_behind (negsuc n) = sym (less (negsuc n) (pos 0) (omega (arith, sums)))

pub side_ahead : (v : ℤ) → is_side_ahead (side_of v) ≡ int_lt (pos 0) v
side_ahead (pos zero) = sym (not_less (pos 0) (pos 0) (omega (arith, sums)))
side_ahead (pos (suc n)) = sym (less (pos 0) (pos (suc n)) (omega (arith, sums)))
side_ahead (negsuc n) = sym (not_less (pos 0) (negsuc n) (omega (arith, sums)))

-- ---- the opposite plane
less_opposite : (x y : ℤ) → y ≡ neg_ℤ x → int_lt y (pos 0) ≡ int_lt (pos 0) x
less_opposite x y e = elim (signs x) [
  | inl h ↦ not_less y (pos 0) (omega (arith, sums)) ∙ sym (not_less (pos 0) x (omega (arith, sums)))
  | inr (inl h) ↦ not_less y (pos 0) (omega (arith, sums)) ∙ sym (not_less (pos 0) x (omega (arith, sums)))
  | inr (inr h) ↦ less y (pos 0) (omega (arith, sums)) ∙ sym (less (pos 0) x (omega (arith, sums)))
]

more_opposite : (x y : ℤ) → y ≡ neg_ℤ x → int_lt (pos 0) y ≡ int_lt x (pos 0)
more_opposite x y e = elim (signs x) [
  | inl h ↦ less (pos 0) y (omega (arith, sums)) ∙ sym (less x (pos 0) (omega (arith, sums)))
  | inr (inl h) ↦ not_less (pos 0) y (omega (arith, sums)) ∙ sym (not_less x (pos 0) (omega (arith, sums)))
  | inr (inr h) ↦ not_less (pos 0) y (omega (arith, sums)) ∙ sym (not_less x (pos 0) (omega (arith, sums)))
]

pub behind_opposite : (m : Coefficients) (p : Coordinates) → is_behind (opposite_of m) p ≡ is_ahead m p
behind_opposite m p = less_opposite (value m p) (value (opposite_of m) p) (value-opposite m p)

pub ahead_opposite : (m : Coefficients) (p : Coordinates) → is_ahead (opposite_of m) p ≡ is_behind m p
ahead_opposite m p = more_opposite (value m p) (value (opposite_of m) p) (value-opposite m p)

pub side_ahead_opposite : (m : Coefficients) (p : Coordinates) → is_side_ahead (side_of (value m p)) ≡ is_behind (opposite_of m) p
side_ahead_opposite m p = side_ahead (value m p) ∙ sym (behind_opposite m p)

same_some : (p q : Coordinates → Bool) (xs : List Coordinates) → ((x : Coordinates) → p x ≡ q x) → some_of p xs ≡ some_of q xs
same_some p q [] h = refl
same_some p q (x ∷ xs) h = ap₂ (λ (a b : Bool). a || b) (h x) (same_some p q xs h)

both_across : (x y u v : Bool) → class_by_sides x y ≡ Across → u ≡ y → v ≡ x → class_by_sides u v ≡ Across
both_across true true u v e p q = ap₂ class_by_sides p q
both_across true false u v e p q = cc
both_across false true u v e p q = cc
both_across false false u v e p q = cc

pub across_opposite : (s : Outline) (m : Coefficients) → class_of s m ≡ Across → class_of s (opposite_of m) ≡ Across
across_opposite s m e =
    both_across (some_of (is_behind m) (corners s)) (some_of (is_ahead m) (corners s)) (some_of (is_behind (opposite_of m)) (corners s)) (some_of (is_ahead (opposite_of m)) (corners s)) e
    (same_some (is_behind (opposite_of m)) (is_ahead m) (corners s) (behind_opposite m))
    (same_some (is_ahead (opposite_of m)) (is_behind m) (corners s) (ahead_opposite m))

or_last : (x : Bool) → (x || false) ≡ x
or_last true = refl
or_last false = refl

or_assoc : (x y z : Bool) → (x || (y || z)) ≡ ((x || y) || z)
or_assoc true y z = refl
or_assoc false y z = refl

pub some_more : {A : Type 0} (p : A → Bool) (xs : List A) (y : A) → some_of p (xs ++ y ∷ []) ≡ (some_of p xs || p y)
some_more p [] y = or_last (p y)
some_more p (x ∷ xs) y = ap (λ (b : Bool). p x || b) (some_more p xs y) ∙ or_assoc (p x) (some_of p xs) (p y)

reduced_more : (ps qs : List Coordinates) (p q : Coordinates) → AreReducedFrom ps qs → IsPointTimes p q → HasNoCommonFactor q → AreReducedFrom (ps ++ p ∷ []) (qs ++ q ∷ [])
reduced_more [] [] p q h t r = (t, r, tt)
reduced_more (p' ∷ ps) (q' ∷ qs) p q h t r = (h.0, h.1, reduced_more ps qs p q h.2 t r)
reduced_more [] (q' ∷ qs) p q h t r = absurd h
reduced_more (p' ∷ ps) [] p q h t r = absurd h

-- one more corner
pub some_step : (p : Coordinates → Bool) (f : ℕ → Coordinates) (n : ℕ) (found here : Bool) → found ≡ some_of p (map f (indices_below n)) → here ≡ p (f n) → (found || here) ≡ some_of p (map f (indices_below (n + 1)))
some_step p f n found here e h =
    ap₂ (λ (b c : Bool). b || c) e h
    ∙ sym (some_more p (map f (indices_below n)) (f n))
    ∙ ap (some_of p) (sym (map-append f (indices_below n) (n ∷ [])))
    ∙ ap (λ (k : ℕ). some_of p (map f (indices_below k))) (sym (add-one n))

-- one more reduced point
pub reduced_step : (f : ℕ → Coordinates) (n : ℕ) (found : List Coordinates) (q : Coordinates) → AreReducedFrom (map f (indices_below n)) found → IsPointTimes (f n) q → HasNoCommonFactor q → AreReducedFrom (map f (indices_below (n + 1))) (found ++ q ∷ [])
reduced_step f n found q h t r =
    subst (λ (ps : List Coordinates). AreReducedFrom ps (found ++ q ∷ []))
    (sym (map-append f (indices_below n) (n ∷ [])) ∙ ap (λ (k : ℕ). map f (indices_below k)) (sym (add-one n)))
    (reduced_more (map f (indices_below n)) found (f n) q h t r)
