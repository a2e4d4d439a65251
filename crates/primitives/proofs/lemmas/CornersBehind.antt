-- Corners of polygons, and tests that tell whether a polygon is convex.
use Rattle.std.proofs.Common.{◌≡◌, ℕ, ◌<◌, Bool, true, false, List, [], ◌∷◌, length, sym, ap, ◌∙◌, refl, arith, ℤ, pos, ◌-ℤ◌, get_or, All, Any, inl, inr}
use Rattle.std.specs.Bool.{OnTrue, OnFalse}
use Rattle.std.proofs.lemmas.List.{get_or_default}
use Rattle.plane_predicate.specs.Space.{minor}
use Rattle.plane_predicate.proofs.lemmas.IntegerRing.{sums}
use Rattle.plane_predicate.proofs.lemmas.Polynomials.{var, minus, ring}
use Rattle.plane_predicate.proofs.lemmas.Vectors.{minorP}
use Rattle.primitives.specs.Polygons.{x_of, y_of, orientation, polygon_point, HasCorner, GoesLeft, GoesRight, IsConvexPolygon}

-- what a test tells, put in other words
pub map_true : (b : Bool) (P Q : Type 0) → (P → Q) → OnTrue b P → OnTrue b Q
map_true true P Q f h = f h
map_true false P Q f h = h

pub map_false : (b : Bool) (P Q : Type 0) → (P → Q) → OnFalse b P → OnFalse b Q
map_false true P Q f h = h
map_false false P Q f h = f h

-- the item that was found, at another default
found_item : (points : List (List ℤ)) (i : ℕ) (p : List ℤ) → i < length points → get_or points i p ≡ p → p ≡ polygon_point points i
found_item points i p lt e = sym e ∙ get_or_default points i p [] lt

pub corner_found : (points : List (List ℤ)) → 0 < length points → Any (λ (q : List ℤ). Any (λ (r : List ℤ). orientation (polygon_point points 0) q r ≡ pos 0 → ⊥) points) points → HasCorner points
corner_found points some h = record {
  first = 0;
  second = h.0;
  third = h.4.0;
  first_in = some;
  second_in = h.2;
  third_in = h.4.2;
  apart = λ e. h.4.4 (ap (λ (q : List ℤ). orientation (polygon_point points 0) q h.4.1) (found_item points h.0 h.1 h.2 h.3) ∙ ap (orientation (polygon_point points 0) (polygon_point points h.0)) (found_item points h.4.0 h.4.1 h.4.2 h.4.3) ∙ e);
}

-- the turn at three points, from any fourth one
turn_from : (x y p q s t u v : ℤ) → minor (s -ℤ p) (t -ℤ q) (u -ℤ p) (v -ℤ q) ≡ minor (s -ℤ x) (t -ℤ y) (u -ℤ x) (v -ℤ y) -ℤ minor (s -ℤ x) (t -ℤ y) (p -ℤ x) (q -ℤ y) -ℤ minor (p -ℤ x) (q -ℤ y) (u -ℤ x) (v -ℤ y)
turn_from x y p q s t u v =
    let X = var 0 in let Y = var 1 in let P = var 2 in let Q = var 3 in let S = var 4 in let T = var 5 in let U = var 6 in let V = var 7 in
    ring (x ∷ y ∷ p ∷ q ∷ s ∷ t ∷ u ∷ v ∷ [])
    (minorP (minus S P) (minus T Q) (minus U P) (minus V Q))
    (minus (minus (minorP (minus S X) (minus T Y) (minus U X) (minus V Y)) (minorP (minus S X) (minus T Y) (minus P X) (minus Q Y))) (minorP (minus P X) (minus Q Y) (minus U X) (minus V Y)))
    refl

pub no_turns : (r a b c : ℤ) → r ≡ a -ℤ b -ℤ c → a ≡ pos 0 → b ≡ pos 0 → c ≡ pos 0 → r ≡ pos 0
no_turns r a b c e ha hb hc = omega (arith, sums, e, ha, hb, hc)

-- three points are on one line where each two are with a fourth
pub line_from : (o p q r : List ℤ) → orientation o q r ≡ pos 0 → orientation o q p ≡ pos 0 → orientation o p r ≡ pos 0 → orientation p q r ≡ pos 0
line_from o p q r h g k = no_turns _ _ _ _ (turn_from (x_of o) (y_of o) (x_of p) (y_of p) (x_of q) (y_of q) (x_of r) (y_of r)) h g k

pub no_corner : (points : List (List ℤ)) → All (λ (q : List ℤ). All (λ (r : List ℤ). orientation (polygon_point points 0) q r ≡ pos 0) points) points → HasCorner points → ⊥
no_corner points h k =
    k.apart (line_from (polygon_point points 0) (polygon_point points k.first) (polygon_point points k.second) (polygon_point points k.third)
    (h k.second [] k.second_in k.third [] k.third_in) (h k.second [] k.second_in k.first [] k.first_in) (h k.first [] k.first_in k.third [] k.third_in))

-- ---- the test of a polygon
pub convex_left : (points : List (List ℤ)) → HasCorner points → GoesLeft points → IsConvexPolygon points
convex_left points k h = record { goes = inl h; corner = k }

pub convex_right : (points : List (List ℤ)) → HasCorner points → GoesRight points → IsConvexPolygon points
convex_right points k h = record { goes = inr h; corner = k }

pub not_convex : (points : List (List ℤ)) → (GoesLeft points → ⊥) → (GoesRight points → ⊥) → IsConvexPolygon points → ⊥
not_convex points l r h = elim h.goes [ inl left ↦ l left | inr right ↦ r right ]
