-- A circle of a radius with nothing wrong is a convex polygon.
use Rattle.std.proofs.Common.{◌≡◌, zero, suc, ◌≤◌, List, [], ◌∷◌, get_or, inl, ap, subst, sym, ◌∙◌, refl, arith, ℤ, pos, negsuc, neg_ℤ, ◌-ℤ◌, ◌*ℤ◌, ◌<ℤ◌, ◌≤ℤ◌, unsigned_abs}
use Rattle.std.proofs.lemmas.List.Elements.{All-from_recursion}
use Rattle.plane_predicate.specs.declared.unit.Unit.{Unit as LengthUnit}
use Rattle.plane_predicate.proofs.lemmas.IntegerRing.{sums}
use Rattle.plane_predicate.proofs.lemmas.Opposites.{from_zero, size_of_negative}
use Rattle.plane_predicate.proofs.lemmas.Polynomials.{Poly, var, num, plus, minus, times, ring}
use Rattle.plane_predicate.proofs.lemmas.Signs.{least_least, zero_cancel}
use Rattle.plane_predicate.proofs.lemmas.Vectors.{minorP}
use Rattle.primitives.specs.Polygons.{orientation, x_of, y_of, GoesLeft, IsConvexPolygon, IsFlatShape, IsSafePoint}
use Rattle.primitives.specs.Sizes.{length_in_grid_steps, IsSafe}
use Rattle.round_four.specs.Circles.{circle_of, circle_points, IsCircleSize}
use Rattle.round_four.proofs.Corners.{circle_within, left_far, minus_sign, plus_sign, reach}
use Rattle.round_four.proofs.lemmas.Radii.{steps_above}

-- ---- the turns at the four ways: variable 0 is the radius, and 1 and 2 are the coordinates of a point
abbrev turnP : Poly → Poly → Poly → Poly → Poly
turnP p q s t = minorP (minus s p) (minus t q) (minus (var 1) p) (minus (var 2) q)

abbrev noneP : Poly
noneP = num (pos 0)

abbrev backP : Poly
backP = minus (num (pos 0)) (var 0)

abbrev leftP : ℤ → ℤ → Poly
leftP s t = times (var 0) (minus (var 0) (plus (times (num s) (var 1)) (times (num t) (var 2))))

first_way : (r x y : ℤ) → orientation (r ∷ pos 0 ∷ []) (pos 0 ∷ r ∷ []) (x ∷ y ∷ []) ≡ r *ℤ (r -ℤ reach (pos 1) (pos 1) x y)
first_way r x y = ring (r ∷ x ∷ y ∷ []) (turnP (var 0) noneP noneP (var 0)) (leftP (pos 1) (pos 1)) refl

second_way : (r x y : ℤ) → orientation (pos 0 ∷ r ∷ []) (neg_ℤ r ∷ pos 0 ∷ []) (x ∷ y ∷ []) ≡ r *ℤ (r -ℤ reach (negsuc 0) (pos 1) x y)
second_way r x y =
    ap (λ (n : ℤ). orientation (pos 0 ∷ r ∷ []) (n ∷ pos 0 ∷ []) (x ∷ y ∷ [])) (sym (from_zero r))
    ∙ ring (r ∷ x ∷ y ∷ []) (turnP noneP (var 0) backP noneP) (leftP (negsuc 0) (pos 1)) refl

third_way : (r x y : ℤ) → orientation (neg_ℤ r ∷ pos 0 ∷ []) (pos 0 ∷ neg_ℤ r ∷ []) (x ∷ y ∷ []) ≡ r *ℤ (r -ℤ reach (negsuc 0) (negsuc 0) x y)
third_way r x y =
    ap (λ (n : ℤ). orientation (n ∷ pos 0 ∷ []) (pos 0 ∷ n ∷ []) (x ∷ y ∷ [])) (sym (from_zero r))
    ∙ ring (r ∷ x ∷ y ∷ []) (turnP backP noneP noneP backP) (leftP (negsuc 0) (negsuc 0)) refl

fourth_way : (r x y : ℤ) → orientation (pos 0 ∷ neg_ℤ r ∷ []) (r ∷ pos 0 ∷ []) (x ∷ y ∷ []) ≡ r *ℤ (r -ℤ reach (pos 1) (negsuc 0) x y)
fourth_way r x y =
    ap (λ (n : ℤ). orientation (pos 0 ∷ n ∷ []) (r ∷ pos 0 ∷ []) (x ∷ y ∷ [])) (sym (from_zero r))
    ∙ ring (r ∷ x ∷ y ∷ []) (turnP noneP backP (var 0) noneP) (leftP (pos 1) (negsuc 0)) refl

least_turn : (t r n : ℤ) → t ≡ r *ℤ (r -ℤ n) → pos 0 <ℤ r → n ≤ℤ r → pos 0 ≤ℤ t
least_turn t r n e h g = subst (λ (u : ℤ). pos 0 ≤ℤ u) (sym e) (least_least r (r -ℤ n) (omega (arith, sums, h)) (omega (arith, sums, g)))

goes_round : (r : ℤ) → pos 0 <ℤ r → GoesLeft (circle_points r)
goes_round r h zero lt = λ k d there. (let p : List ℤ = get_or (circle_points r) k d in least_turn _ r _ (first_way r (x_of p) (y_of p)) h (circle_within r h k d there (pos 1) (pos 1) plus_sign plus_sign))
goes_round r h (suc zero) lt = λ k d there. (let p : List ℤ = get_or (circle_points r) k d in least_turn _ r _ (second_way r (x_of p) (y_of p)) h (circle_within r h k d there (negsuc 0) (pos 1) minus_sign plus_sign))
goes_round r h (suc (suc zero)) lt = λ k d there. (let p : List ℤ = get_or (circle_points r) k d in least_turn _ r _ (third_way r (x_of p) (y_of p)) h (circle_within r h k d there (negsuc 0) (negsuc 0) minus_sign minus_sign))
goes_round r h (suc (suc (suc zero))) lt = λ k d there. (let p : List ℤ = get_or (circle_points r) k d in least_turn _ r _ (fourth_way r (x_of p) (y_of p)) h (circle_within r h k d there (pos 1) (negsuc 0) plus_sign minus_sign))
goes_round r h (suc (suc (suc (suc n)))) lt = absurd (omega arith)

-- the corners 0, 1 and 2 are not on one line
some_turn : (r t n : ℤ) → t ≡ r *ℤ (r -ℤ n) → n ≡ neg_ℤ r → pos 0 <ℤ r → t ≡ pos 0 → ⊥
some_turn r t n e g h none = let flat = zero_cancel r (r -ℤ n) h (sym e ∙ none) in omega (arith, sums, flat, g, h)

circle_convex : (r : ℤ) → pos 0 <ℤ r → IsConvexPolygon (circle_points r)
circle_convex r h = record {
  goes = inl (goes_round r h);
  corner = record { first = 0; second = 1; third = 2; first_in = omega arith; second_in = omega arith; third_in = omega arith; apart = some_turn r _ _ (first_way r (neg_ℤ r) (pos 0)) (left_far (pos 1) r) h };
}

circle_is_flat : (r : ℤ) → pos 0 <ℤ r → IsSafe r → IsSafe (neg_ℤ r) → IsSafe (pos 0) → IsFlatShape (circle_points r)
circle_is_flat r h right left none = record {
  most = omega arith;
  convex = circle_convex r h;
  safe = All-from_recursion IsSafePoint (circle_points r)
      (record { x_safe = right; y_safe = none }, (record { x_safe = none; y_safe = right }, (record { x_safe = left; y_safe = none }, (record { x_safe = none; y_safe = left }, tt))));
}

near_safe : (n : ℤ) → unsigned_abs n ≤ 65535 → IsSafe n
near_safe n h = record { size = omega (arith, h) }

pub sized_circle_is_flat : (unit : LengthUnit) (radius : ℤ) → IsCircleSize unit radius → IsFlatShape (circle_of unit radius)
sized_circle_is_flat unit radius h =
    let r = length_in_grid_steps unit radius in
    circle_is_flat r (steps_above unit radius h.long) (near_safe r h.range) (near_safe (neg_ℤ r) (omega (arith, size_of_negative r, h.range))) (near_safe (pos 0) (omega arith))
