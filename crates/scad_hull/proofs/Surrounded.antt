-- Lines that go through the inside of a hull: each plane through such a line has points on both sides.
use Rattle.std.proofs.Common.{◌≡◌, inl, inr, ◌∷◌, [], List, refl, sym, ap, ◌∙◌, arith, ℤ, pos, ◌+ℤ◌, ◌-ℤ◌, ◌*ℤ◌, ◌<ℤ◌, ◌≤ℤ◌, ℕ, ◌<◌, length}
use Rattle.std.proofs.lemmas.Bool.{false_from_ne_true}
use Rattle.plane_predicate.specs.Space.{Coefficients, Coordinates, value, opposite_of, plane_of_points, AreCollinear}
use Rattle.plane_predicate.proofs.lemmas.IntegerRing.{sums, mul_comm_ℤ, mul_neg_right, zero_mul}
use Rattle.plane_predicate.proofs.lemmas.Polynomials.{var, num, plus, times, minus, ring}
use Rattle.plane_predicate.proofs.lemmas.Signs.{most_least, zero_cancel}
use Rattle.plane_predicate.proofs.lemmas.Vectors.{form, of_plane, valueP, value-opposite}
use Rattle.primitives.specs.Shapes.{mesh_point, value_at_point}
use Rattle.primitives.proofs.lemmas.Moves.{throughP, whole, wholeP}
use Rattle.scad_hull.specs.Hulls.{is_supporting}
use Rattle.scad_hull.specs.Steps.{HasNoFace}
use Rattle.scad_hull.proofs.lemmas.Lines.{at, holds_first, holds_second, plane}
use Rattle.scad_hull.proofs.Supporting.{crossed, not_nowhere, own}
use Rattle.scad_hull.proofs.Tests.{supports, triple}

-- the values of a plane at three points, each times how the other two turn about a line
turns_sum : (m : Coefficients) (a b c d e f g h i j k l n o p : ℤ) →
    let A = whole a b c in let B = whole d e f in let P = whole g h i in let Q = whole j k l in let R = whole n o p in
    value m P *ℤ value (plane_of_points A B Q) R -ℤ value m Q *ℤ value (plane_of_points A B P) R +ℤ value m R *ℤ value (plane_of_points A B P) Q
    ≡ value (plane_of_points A P Q) R *ℤ (value m B -ℤ value m A)
    +ℤ value m A *ℤ (value (plane_of_points A B Q) R -ℤ value (plane_of_points A B P) R +ℤ value (plane_of_points A B P) Q)
turns_sum m a b c d e f g h i j k l n o p =
    let M = form 0 in let A = wholeP 4 in let B = wholeP 7 in let P = wholeP 10 in let Q = wholeP 13 in let R = wholeP 16 in
    ring (of_plane m (a ∷ b ∷ c ∷ d ∷ e ∷ f ∷ g ∷ h ∷ i ∷ j ∷ k ∷ l ∷ n ∷ o ∷ p ∷ []))
    (plus (minus (times (valueP M P) (valueP (throughP A B Q) R)) (times (valueP M Q) (valueP (throughP A B P) R))) (times (valueP M R) (valueP (throughP A B P) Q)))
    (plus (times (valueP (throughP A P Q) R) (minus (valueP M B) (valueP M A))) (times (valueP M A) (plus (minus (valueP (throughP A B Q) R) (valueP (throughP A B P) R)) (valueP (throughP A B P) Q)))) refl

no_terms : (s t u v : ℤ) → u ≡ pos 0 → v ≡ pos 0 → s *ℤ (v -ℤ u) +ℤ u *ℤ t ≡ pos 0
no_terms s t u v eu ev = rw (eu, ev) (ring (s ∷ t ∷ []) (plus (times (var 0) (minus (num (pos 0)) (num (pos 0)))) (times (num (pos 0)) (var 1))) (num (pos 0)) refl)

-- a direction of 0 and an offset of 0
flat_value : (u v w p q r x y z : ℤ) → u ≡ pos 0 → v ≡ pos 0 → w ≡ pos 0 → u *ℤ x +ℤ v *ℤ y +ℤ w *ℤ z -ℤ (u *ℤ p +ℤ v *ℤ q +ℤ w *ℤ r) *ℤ pos 1 ≡ pos 0
flat_value u v w p q r x y z eu ev ew =
    rw (eu, ev, ew) (ring (p ∷ q ∷ r ∷ x ∷ y ∷ z ∷ [])
    (minus (plus (plus (times (num (pos 0)) (var 3)) (times (num (pos 0)) (var 4))) (times (num (pos 0)) (var 5)))
    (times (plus (plus (times (num (pos 0)) (var 0)) (times (num (pos 0)) (var 1))) (times (num (pos 0)) (var 2))) (num (pos 1)))) (num (pos 0)) refl)

-- three numbers at most 0, whose products with numbers above 0 have the sum 0, are 0
first_zero : (x y z u v w : ℤ) → x ≤ℤ pos 0 → y ≤ℤ pos 0 → z ≤ℤ pos 0 → pos 0 <ℤ u → pos 0 <ℤ v → pos 0 <ℤ w → x *ℤ u +ℤ y *ℤ v +ℤ z *ℤ w ≡ pos 0 → x ≡ pos 0
first_zero x y z u v w hx hy hz hu hv hw e =
    let one = most_least x u hx (omega (arith, sums, hu)) in
    let two = most_least y v hy (omega (arith, sums, hv)) in
    let three = most_least z w hz (omega (arith, sums, hw)) in
    zero_cancel u x hu (mul_comm_ℤ u x ∙ omega (arith, sums, one, two, three, e))

second_zero : (x y z u v w : ℤ) → x ≤ℤ pos 0 → y ≤ℤ pos 0 → z ≤ℤ pos 0 → pos 0 <ℤ u → pos 0 <ℤ v → pos 0 <ℤ w → x *ℤ u +ℤ y *ℤ v +ℤ z *ℤ w ≡ pos 0 → y ≡ pos 0
second_zero x y z u v w hx hy hz hu hv hw e = first_zero y x z v u w hy hx hz hv hu hw (omega (arith, sums, e))

-- three points are round the line through two others: as seen along it, each turns left about it to the next
pub record AreRound (points : List (List ℤ)) (i j p q r : ℕ) : Type 0 where
  pub first : pos 0 <ℤ value_at_point points (plane points i j p) q
  pub second : pos 0 <ℤ value_at_point points (plane points i j q) r
  pub third : pos 0 <ℤ value (opposite_of (plane points i j p)) (mesh_point points r)

sum_at : (points : List (List ℤ)) (i j p q r : ℕ) (m : Coefficients) → value_at_point points m i ≡ pos 0 → value_at_point points m j ≡ pos 0 →
    value_at_point points m p *ℤ value_at_point points (plane points i j q) r
    +ℤ value_at_point points m q *ℤ value (opposite_of (plane points i j p)) (mesh_point points r)
    +ℤ value_at_point points m r *ℤ value_at_point points (plane points i j p) q ≡ pos 0
sum_at points i j p q r m hi hj =
    let n = plane points i j p in
    let whole_sum = turns_sum m (at points i 0) (at points i 1) (at points i 2) (at points j 0) (at points j 1) (at points j 2) (at points p 0) (at points p 1) (at points p 2)
    (at points q 0) (at points q 1) (at points q 2) (at points r 0) (at points r 1) (at points r 2)
    ∙ no_terms (value_at_point points (plane points i p q) r) (value_at_point points (plane points i j q) r -ℤ value_at_point points n r +ℤ value_at_point points n q) (value_at_point points m i) (value_at_point points m j) hi hj in
    let turned = ap (λ (z : ℤ). value_at_point points m q *ℤ z) (value-opposite n (mesh_point points r)) ∙ mul_neg_right (value_at_point points m q) (value_at_point points n r) in
    omega (arith, sums, whole_sum, turned)

off_line : (points : List (List ℤ)) (i j p q : ℕ) → pos 0 <ℤ value_at_point points (plane points i j p) q → AreCollinear (mesh_point points i) (mesh_point points j) (mesh_point points p) → ⊥
off_line points i j p q above c =
    let m = plane points i j p in
    let none = flat_value m.a m.b m.c (at points i 0) (at points i 1) (at points i 2) (at points q 0) (at points q 1) (at points q 2) c.a c.b c.c in
    omega (arith, sums, above, none)

-- a plane through the line that none of the three points is ahead of is 0 everywhere
vanishes : (points : List (List ℤ)) (i j p q r : ℕ) → AreRound points i j p q r → (m : Coefficients) → value_at_point points m i ≡ pos 0 → value_at_point points m j ≡ pos 0 →
    value_at_point points m p ≤ℤ pos 0 → value_at_point points m q ≤ℤ pos 0 → value_at_point points m r ≤ℤ pos 0 → (x : Coordinates) → value m x ≡ pos 0
vanishes points i j p q r h m hi hj hp hq hr x =
    let n = plane points i j p in
    let s = sum_at points i j p q r m hi hj in
    let at_p = first_zero (value_at_point points m p) (value_at_point points m q) (value_at_point points m r) _ _ _ hp hq hr h.second h.third h.first s in
    let at_q = second_zero (value_at_point points m p) (value_at_point points m q) (value_at_point points m r) _ _ _ hp hq hr h.second h.third h.first s in
    let both = crossed points i j p (off_line points i j p q h.first) n m (own points i j p) (record { first = hi; second = hj; third = at_p }) (mesh_point points q) (λ e. omega (arith, sums, h.first, e)) x in
    let none = ap (λ (z : ℤ). value n x *ℤ z) at_q ∙ mul_comm_ℤ (value n x) (pos 0) ∙ zero_mul (value n x) in
    zero_cancel (value_at_point points n q) (value m x) h.first (mul_comm_ℤ (value_at_point points n q) (value m x) ∙ sym both ∙ none)

pub surrounded : (points : List (List ℤ)) (i j p q r : ℕ) → p < length points → q < length points → r < length points → AreRound points i j p q r → HasNoFace points i j
surrounded points i j p q r p_in q_in r_in h = λ k.
    false_from_ne_true (is_supporting points (triple i j k)) (λ e.
    let s = supports points i j k e in
    let m = plane points i j k in
    let o = opposite_of m in
    let oi : value_at_point points o i ≡ pos 0 = omega (arith, sums, value-opposite m (mesh_point points i), holds_first points i j k) in
    let oj : value_at_point points o j ≡ pos 0 = omega (arith, sums, value-opposite m (mesh_point points j), holds_second points i j k) in
    elim s.side [
      | inl this ↦ not_nowhere points i j k s.apart
          (vanishes points i j p q r h m (holds_first points i j k) (holds_second points i j k) (this p [] p_in) (this q [] q_in) (this r [] r_in))
      | inr other ↦ not_nowhere points i j k s.apart
          (λ x. omega (arith, sums, value-opposite m x, vanishes points i j p q r h o oi oj (other p [] p_in) (other q [] q_in) (other r [] r_in) x))
    ])
