-- The plane over a way of a polygon.
use Rattle.std.proofs.Common.{◌≡◌, ℕ, ◌+◌, ◌<◌, true, false, List, [], ◌∷◌, length, sym, ◌∙◌, refl, arith, ℤ, pos, ◌-ℤ◌, ◌*ℤ◌, ◌<ℤ◌, ◌≤ℤ◌, unsigned_abs, ◌&&◌, inl, inr, All}
use Rattle.std.specs.Ordering.{int_eq}
use Rattle.std.proofs.lemmas.Int.{ints}
use Rattle.plane_predicate.specs.Space.{Coefficients, value, minor, AreCollinear}
use Rattle.plane_predicate.proofs.lemmas.IntegerRing.{sums}
use Rattle.plane_predicate.proofs.lemmas.Polynomials.{Poly, var, num, times, minus, ring}
use Rattle.plane_predicate.proofs.lemmas.Signs.{signs, zero_cancel}
use Rattle.plane_predicate.proofs.lemmas.Vectors.{valueP, minorP}
use Rattle.primitives.proofs.lemmas.Moves.{cancelled, whole, wholeP}
use Rattle.primitives.proofs.lemmas.OnePlane.{some_direction}
use Rattle.primitives.specs.Polygons.{x_of, y_of, orientation, polygon_point, HasCorner}
use Rattle.primitives.specs.Prisms.{is_same_flat_point}

-- upright, over the way from p to q, with what lies to the left behind it
abbrev pub side_plane : List ℤ → List ℤ → Coefficients
side_plane p q =
    let dx = x_of q -ℤ x_of p in let dy = y_of q -ℤ y_of p in
    record { a = dy; b = pos 0 -ℤ dx; c = pos 0; d = dy *ℤ x_of p -ℤ dx *ℤ y_of p }

value_over : (p q s t x y z : ℤ) → value (record { a = t -ℤ q; b = pos 0 -ℤ (s -ℤ p); c = pos 0; d = (t -ℤ q) *ℤ p -ℤ (s -ℤ p) *ℤ q }) (whole x y z) ≡ pos 0 -ℤ minor (s -ℤ p) (t -ℤ q) (x -ℤ p) (y -ℤ q)
value_over p q s t x y z =
    let X = var 0 in let Y = var 1 in let P = var 3 in let Q = var 4 in let S = var 5 in let T = var 6 in
    ring (x ∷ y ∷ z ∷ p ∷ q ∷ s ∷ t ∷ [])
    (valueP (record { a = minus T Q; b = minus (num (pos 0)) (minus S P); c = num (pos 0); d = minus (times (minus T Q) P) (times (minus S P) Q) }) (wholeP 0))
    (minus (num (pos 0)) (minorP (minus S P) (minus T Q) (minus X P) (minus Y Q)))
    refl

-- the value of the plane at a point over r
pub side_value : (p q r : List ℤ) (z : ℤ) → value (side_plane p q) (whole (x_of r) (y_of r) z) ≡ pos 0 -ℤ orientation p q r
side_value p q r z = value_over (x_of p) (y_of p) (x_of q) (y_of q) (x_of r) (y_of r) z

pub turn_first : (p q : List ℤ) → orientation p q p ≡ pos 0
turn_first p q = ring (x_of p ∷ y_of p ∷ x_of q ∷ y_of q ∷ []) (minorP (minus (var 2) (var 0)) (minus (var 3) (var 1)) (minus (var 0) (var 0)) (minus (var 1) (var 1))) (num (pos 0)) refl

pub turn_second : (p q : List ℤ) → orientation p q q ≡ pos 0
turn_second p q = ring (x_of p ∷ y_of p ∷ x_of q ∷ y_of q ∷ []) (minorP (minus (var 2) (var 0)) (minus (var 3) (var 1)) (minus (var 2) (var 0)) (minus (var 3) (var 1))) (num (pos 0)) refl

pub no_value : (v t : ℤ) → v ≡ pos 0 -ℤ t → t ≡ pos 0 → v ≡ pos 0
no_value v t e h = omega (arith, sums, e, h)

pub most_value : (v t : ℤ) → v ≡ pos 0 -ℤ t → pos 0 ≤ℤ t → v ≤ℤ pos 0
most_value v t e h = omega (arith, sums, e, h)

pub less_value : (v t : ℤ) → v ≡ pos 0 -ℤ t → pos 0 <ℤ t → v <ℤ pos 0
less_value v t e h = omega (arith, sums, e, h)

-- ---- points that differ
pub record Differ (p q : List ℤ) : Type 0 where
  pub apart : x_of q -ℤ x_of p ≡ pos 0 → y_of q -ℤ y_of p ≡ pos 0 → ⊥

both_true : (a b c d : ℤ) → c -ℤ a ≡ pos 0 → d -ℤ b ≡ pos 0 → (int_eq a c && int_eq b d) ≡ true
both_true a b c d e f =
    let x : int_eq a c ≡ true = (let h : a ≡ c = omega (arith, sums, e) in grind (arith, ints)) in
    let y : int_eq b d ≡ true = (let h : b ≡ d = omega (arith, sums, f) in grind (arith, ints)) in
    rw (x, y) refl

true_is_false : {P : Type 0} → true ≡ false → P
true_is_false e = cc

pub points_differ : (p q : List ℤ) → is_same_flat_point p q ≡ false → Differ p q
points_differ p q e = record { apart = λ f g. true_is_false (sym (both_true (x_of p) (y_of p) (x_of q) (y_of q) f g) ∙ e) }

turned : (a b : ℤ) → b -ℤ a ≡ pos 0 → a -ℤ b ≡ pos 0
turned a b e = omega (arith, sums, e)

pub differ_back : (p q : List ℤ) → Differ p q → Differ q p
differ_back p q h = record { apart = λ f g. h.apart (turned (x_of q) (x_of p) f) (turned (y_of q) (y_of p) g) }

no_difference : (a : ℤ) → pos 0 -ℤ a ≡ pos 0 → a ≡ pos 0
no_difference a e = omega (arith, sums, e)

pub side_directed : (p q : List ℤ) → Differ p q → 0 < unsigned_abs (side_plane p q).a + unsigned_abs (side_plane p q).b + unsigned_abs (side_plane p q).c
side_directed p q h = some_direction (side_plane p q).a (side_plane p q).b (side_plane p q).c (λ a b c. h.apart (no_difference (x_of q -ℤ x_of p) b) a)

-- ---- a point strictly to the left of a way
pub record IsLeftAt (points : List (List ℤ)) (p q : List ℤ) : Type 0 where
  pub at : ℕ
  pub at_in : at < length points
  pub left : pos 0 <ℤ orientation p q (polygon_point points at)

across_x : (dx dy p q a b c d e f : ℤ) →
    let at = λ (x y : ℤ). minor dx dy (x -ℤ p) (y -ℤ q) in
    minor (c -ℤ a) (d -ℤ b) (e -ℤ a) (f -ℤ b) *ℤ dx ≡ (c -ℤ a) *ℤ (at e f -ℤ at a b) -ℤ (e -ℤ a) *ℤ (at c d -ℤ at a b)
across_x dx dy p q a b c d e f =
    let X = var 0 in let Y = var 1 in let P = var 2 in let Q = var 3 in let A = var 4 in let B = var 5 in let C = var 6 in let D = var 7 in let E = var 8 in let F = var 9 in
    let at = λ (x y : Poly). minorP X Y (minus x P) (minus y Q) in
    ring (dx ∷ dy ∷ p ∷ q ∷ a ∷ b ∷ c ∷ d ∷ e ∷ f ∷ [])
    (times (minorP (minus C A) (minus D B) (minus E A) (minus F B)) X)
    (minus (times (minus C A) (minus (at E F) (at A B))) (times (minus E A) (minus (at C D) (at A B))))
    refl

across_y : (dx dy p q a b c d e f : ℤ) →
    let at = λ (x y : ℤ). minor dx dy (x -ℤ p) (y -ℤ q) in
    minor (c -ℤ a) (d -ℤ b) (e -ℤ a) (f -ℤ b) *ℤ dy ≡ (d -ℤ b) *ℤ (at e f -ℤ at a b) -ℤ (f -ℤ b) *ℤ (at c d -ℤ at a b)
across_y dx dy p q a b c d e f =
    let X = var 0 in let Y = var 1 in let P = var 2 in let Q = var 3 in let A = var 4 in let B = var 5 in let C = var 6 in let D = var 7 in let E = var 8 in let F = var 9 in
    let at = λ (x y : Poly). minorP X Y (minus x P) (minus y Q) in
    ring (dx ∷ dy ∷ p ∷ q ∷ a ∷ b ∷ c ∷ d ∷ e ∷ f ∷ [])
    (times (minorP (minus C A) (minus D B) (minus E A) (minus F B)) Y)
    (minus (times (minus D B) (minus (at E F) (at A B))) (times (minus F B) (minus (at C D) (at A B))))
    refl

nothing_left : (r u v s t w : ℤ) → r ≡ u *ℤ (s -ℤ w) -ℤ v *ℤ (t -ℤ w) → s ≡ pos 0 → t ≡ pos 0 → w ≡ pos 0 → r ≡ pos 0
nothing_left r u v s t w e hs ht hw = e ∙ rw (hs, ht, hw) (ring (u ∷ v ∷ []) (minus (times (var 0) (minus (num (pos 0)) (num (pos 0)))) (times (var 1) (minus (num (pos 0)) (num (pos 0))))) (num (pos 0)) refl)

-- points that are all on the line of a way are on one line
one_line : (p q a b c : List ℤ) → Differ p q → orientation p q a ≡ pos 0 → orientation p q b ≡ pos 0 → orientation p q c ≡ pos 0 → (orientation a b c ≡ pos 0 → ⊥) → ⊥
one_line p q a b c h ha hb hc apart =
    let dx = x_of q -ℤ x_of p in let dy = y_of q -ℤ y_of p in
    let x = nothing_left _ _ _ _ _ _ (across_x dx dy (x_of p) (y_of p) (x_of a) (y_of a) (x_of b) (y_of b) (x_of c) (y_of c)) hc hb ha in
    let y = nothing_left _ _ _ _ _ _ (across_y dx dy (x_of p) (y_of p) (x_of a) (y_of a) (x_of b) (y_of b) (x_of c) (y_of c)) hc hb ha in
    h.apart (cancelled (orientation a b c) dx apart x) (cancelled (orientation a b c) dy apart y)

-- some point is strictly to the left of a way that none is strictly to the right of
pub left_of_way : (points : List (List ℤ)) (p q : List ℤ) → HasCorner points → Differ p q → All (λ (r : List ℤ). pos 0 ≤ℤ orientation p q r) points → IsLeftAt points p q
left_of_way points p q k h least =
    let a = polygon_point points k.first in let b = polygon_point points k.second in let c = polygon_point points k.third in
    elim (signs (orientation p q a)) [
      | inl below ↦ absurd (omega (arith, sums, below, least k.first [] k.first_in))
      | inr other ↦ elim other [
        | inr above ↦ record { at = k.first; at_in = k.first_in; left = above }
        | inl none ↦ elim (signs (orientation p q b)) [
          | inl below ↦ absurd (omega (arith, sums, below, least k.second [] k.second_in))
          | inr second ↦ elim second [
            | inr above ↦ record { at = k.second; at_in = k.second_in; left = above }
            | inl still ↦ elim (signs (orientation p q c)) [
              | inl below ↦ absurd (omega (arith, sums, below, least k.third [] k.third_in))
              | inr third ↦ elim third [
                | inr above ↦ record { at = k.third; at_in = k.third_in; left = above }
                | inl never ↦ absurd (one_line p q a b c h none still never k.apart)
              ]
            ]
          ]
        ]
      ]
    ]

-- ---- three corners of a side
upright_a : (y t low high : ℤ) → minor (t -ℤ y) (low -ℤ low) (t -ℤ y) (high -ℤ low) ≡ (high -ℤ low) *ℤ (t -ℤ y)
upright_a y t low high = ring (y ∷ t ∷ low ∷ high ∷ []) (minorP (minus (var 1) (var 0)) (minus (var 2) (var 2)) (minus (var 1) (var 0)) (minus (var 3) (var 2))) (times (minus (var 3) (var 2)) (minus (var 1) (var 0))) refl

upright_b : (x s low high : ℤ) → minor (low -ℤ low) (s -ℤ x) (high -ℤ low) (s -ℤ x) ≡ (high -ℤ low) *ℤ (pos 0 -ℤ (s -ℤ x))
upright_b x s low high = ring (x ∷ s ∷ low ∷ high ∷ []) (minorP (minus (var 2) (var 2)) (minus (var 1) (var 0)) (minus (var 3) (var 2)) (minus (var 1) (var 0))) (times (minus (var 3) (var 2)) (minus (num (pos 0)) (minus (var 1) (var 0)))) refl

pub side_triangle : (p q : List ℤ) (low high : ℤ) → low <ℤ high → Differ p q → AreCollinear (whole (x_of p) (y_of p) low) (whole (x_of q) (y_of q) low) (whole (x_of q) (y_of q) high) → ⊥
side_triangle p q low high lt h k =
    let above : pos 0 <ℤ (high -ℤ low) = omega (arith, sums, lt) in
    h.apart
    (no_difference (x_of q -ℤ x_of p) (zero_cancel (high -ℤ low) (pos 0 -ℤ (x_of q -ℤ x_of p)) above (sym (upright_b (x_of p) (x_of q) low high) ∙ k.b)))
    (zero_cancel (high -ℤ low) (y_of q -ℤ y_of p) above (sym (upright_a (y_of p) (y_of q) low high) ∙ k.a))
