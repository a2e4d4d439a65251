-- Planes and turns see a point alike by all its numbers.
use Rattle.std.proofs.Common.{◌≡◌, [], ◌∷◌, refl, sym, ap, ◌∙◌, subst, arith, ℤ, pos, ◌*ℤ◌, ◌<ℤ◌, ◌+ℤ◌, ◌-ℤ◌, neg_ℤ}
use Rattle.std.proofs.Math.IntN.{*ℤ-zero}
use Rattle.plane_predicate.specs.declared.unit.Unit.{Unit as LengthUnit}
use Rattle.plane_predicate.specs.Space.{Coefficients, Coordinates, value, orientation_seen_from, product_with, opposite_of, IsPointTimes}
use Rattle.plane_predicate.specs.InUnits.{in_steps, in_units}
use Rattle.plane_predicate.specs.Units.{grid_steps_per_unit}
use Rattle.plane_predicate.proofs.lemmas.InUnits.{steps_above}
use Rattle.plane_predicate.proofs.lemmas.IntegerRing.{sums, mul_neg_left, mul_comm_ℤ}
use Rattle.plane_predicate.proofs.lemmas.Polynomials.{Poly, var, times, ring}
use Rattle.plane_predicate.proofs.lemmas.Vectors.{Place, form, place, of_plane, of_point, valueP, turnP}
use Rattle.plane_predicate.proofs.lemmas.Identities.{turn_round}
use Rattle.plane_predicate.proofs.lemmas.Opposites.{same_point}
use Rattle.plane_predicate.proofs.lemmas.Signs.{pos_pos, pos_cancel, zero_cancel}

abbrev scaled : ℤ → Coordinates → Coordinates
scaled k p = record { x = k *ℤ p.x; y = k *ℤ p.y; z = k *ℤ p.z; w = k *ℤ p.w }

abbrev scaledP : Poly → Place → Place
scaledP k p = record { x = times k p.x; y = times k p.y; z = times k p.z; w = times k p.w }

value-scaled : (n : Coefficients) (k : ℤ) (q : Coordinates) → value n (scaled k q) ≡ k *ℤ value n q
value-scaled n k q =
    ring (of_plane n (of_point q (k ∷ []))) (valueP (form 0) (scaledP (var 8) (place 4))) (times (var 8) (valueP (form 0) (place 4))) refl

orientation_seen_from-scaled : (n : Coefficients) (k : ℤ) (p q r : Coordinates) → orientation_seen_from n (scaled k p) q r ≡ k *ℤ orientation_seen_from n p q r
orientation_seen_from-scaled n k p q r =
    ring (of_plane n (of_point p (of_point q (of_point r (k ∷ []))))) (turnP (form 0) (scaledP (var 16) (place 4)) (place 8) (place 12)) (times (var 16) (turnP (form 0) (place 4) (place 8) (place 12))) refl

-- two lists of numbers of one point: multiples of both are the same
pub record AreOnePoint (p q : Coordinates) : Type 0 where
  pub first : ℤ
  pub second : ℤ
  pub first_above : pos 0 <ℤ first
  pub second_above : pos 0 <ℤ second
  pub x : first *ℤ p.x ≡ second *ℤ q.x
  pub y : first *ℤ p.y ≡ second *ℤ q.y
  pub z : first *ℤ p.z ≡ second *ℤ q.z
  pub w : first *ℤ p.w ≡ second *ℤ q.w

pub other_way : (p q : Coordinates) → AreOnePoint p q → AreOnePoint q p
other_way p q t = record {
  first = t.second;
  second = t.first;
  first_above = t.second_above;
  second_above = t.first_above;
  x = sym t.x;
  y = sym t.y;
  z = sym t.z;
  w = sym t.w;
}

-- a printed corner in grid steps is the corner
times_exchanged : (k l x y : ℤ) → x ≡ l *ℤ y → k *ℤ x ≡ l *ℤ (k *ℤ y)
times_exchanged k l x y e =
    ap (λ (v : ℤ). k *ℤ v) e
    ∙ ring (k ∷ l ∷ y ∷ []) (times (var 0) (times (var 1) (var 2))) (times (var 1) (times (var 0) (var 2))) refl

pub printed_is : (unit : LengthUnit) (p v : Coordinates) → IsPointTimes (in_units unit p) v → AreOnePoint p (in_steps unit v)
printed_is unit p v t = record {
  first = grid_steps_per_unit unit;
  second = t.by;
  first_above = steps_above unit;
  second_above = t.above;
  x = times_exchanged (grid_steps_per_unit unit) t.by p.x v.x t.x;
  y = times_exchanged (grid_steps_per_unit unit) t.by p.y v.y t.y;
  z = times_exchanged (grid_steps_per_unit unit) t.by p.z v.z t.z;
  w = t.w;
}

scaled_alike : (p q : Coordinates) (t : AreOnePoint p q) → scaled t.first p ≡ scaled t.second q
scaled_alike p q t =
    same_point (t.first *ℤ p.x) (t.first *ℤ p.y) (t.first *ℤ p.z) (t.first *ℤ p.w)
    (t.second *ℤ q.x) (t.second *ℤ q.y) (t.second *ℤ q.z) (t.second *ℤ q.w) t.x t.y t.z t.w

value-alike : (n : Coefficients) (p q : Coordinates) (t : AreOnePoint p q) → t.first *ℤ value n p ≡ t.second *ℤ value n q
value-alike n p q t = sym (value-scaled n t.first p) ∙ ap (value n) (scaled_alike p q t) ∙ value-scaled n t.second q

orientation_seen_from-alike : (n : Coefficients) (p p' q r : Coordinates) (t : AreOnePoint p p') → t.first *ℤ orientation_seen_from n p q r ≡ t.second *ℤ orientation_seen_from n p' q r
orientation_seen_from-alike n p p' q r t =
    sym (orientation_seen_from-scaled n t.first p q r) ∙ ap (λ (c : Coordinates). orientation_seen_from n c q r) (scaled_alike p p' t) ∙ orientation_seen_from-scaled n t.second p' q r

-- a plane has both or neither
pub on_alike : (n : Coefficients) (p q : Coordinates) → AreOnePoint p q → value n p ≡ pos 0 → value n q ≡ pos 0
on_alike n p q t e =
    zero_cancel t.second (value n q) t.second_above
    (sym (value-alike n p q t) ∙ ap (λ (v : ℤ). t.first *ℤ v) e ∙ *ℤ-zero t.first)

-- an orientation stays that of a left bend where its first point, the first two or all three are written by other numbers
first_alike : (n : Coefficients) (p p' q r : Coordinates) → AreOnePoint p p' → pos 0 <ℤ orientation_seen_from n p q r → pos 0 <ℤ orientation_seen_from n p' q r
first_alike n p p' q r t h =
    pos_cancel t.second (orientation_seen_from n p' q r) t.second_above
    (subst (λ (v : ℤ). pos 0 <ℤ v) (orientation_seen_from-alike n p p' q r t) (pos_pos t.first (orientation_seen_from n p q r) t.first_above h))

round : (n : Coefficients) (p q r : Coordinates) → pos 0 <ℤ orientation_seen_from n p q r → pos 0 <ℤ orientation_seen_from n q r p
round n p q r h = subst (λ (v : ℤ). pos 0 <ℤ v) (sym (turn_round n p q r)) h

pub two_alike : (n : Coefficients) (p p' q q' r : Coordinates) → AreOnePoint p p' → AreOnePoint q q' → pos 0 <ℤ orientation_seen_from n p q r → pos 0 <ℤ orientation_seen_from n p' q' r
two_alike n p p' q q' r t u h =
    round n r p' q' (round n q' r p' (first_alike n q q' r p' u (round n p' q r (first_alike n p p' q r t h))))

pub three_alike : (n : Coefficients) (p p' q q' r r' : Coordinates) → AreOnePoint p p' → AreOnePoint q q' → AreOnePoint r r' → pos 0 <ℤ orientation_seen_from n p q r → pos 0 <ℤ orientation_seen_from n p' q' r'
three_alike n p p' q q' r r' t u v h =
    round n r' p' q' (first_alike n r r' p' q' v (round n q' r p' (round n p' q' r (two_alike n p p' q q' r t u h))))

product-opposite : (n : Coefficients) (p q : Coordinates) → product_with (opposite_of n) p q ≡ neg_ℤ (product_with n p q)
product-opposite n p q =
    omega (
      arith,
      sums,
      mul_neg_left n.a (p.y *ℤ q.z -ℤ p.z *ℤ q.y),
      mul_neg_left n.b (p.z *ℤ q.x -ℤ p.x *ℤ q.z),
      mul_neg_left n.c (p.x *ℤ q.y -ℤ p.y *ℤ q.x),
    )

times_negative : (x y : ℤ) → x *ℤ neg_ℤ y ≡ neg_ℤ (x *ℤ y)
times_negative x y = mul_comm_ℤ x (neg_ℤ y) ∙ mul_neg_left y x ∙ ap neg_ℤ (mul_comm_ℤ y x)

three_negatives : (u v w x y z x' y' z' : ℤ) → x' ≡ neg_ℤ x → y' ≡ neg_ℤ y → z' ≡ neg_ℤ z → u *ℤ x' +ℤ v *ℤ y' +ℤ w *ℤ z' ≡ neg_ℤ (u *ℤ x +ℤ v *ℤ y +ℤ w *ℤ z)
three_negatives u v w x y z x' y' z' hx hy hz = rw (hx, hy, hz) (omega (arith, sums, times_negative u x, times_negative v y, times_negative w z))

-- a way that turns left about a plane turns right about its opposite
pub orientation_seen_from-opposite : (n : Coefficients) (p q r : Coordinates) → orientation_seen_from (opposite_of n) p q r ≡ neg_ℤ (orientation_seen_from n p q r)
orientation_seen_from-opposite n p q r = three_negatives p.w q.w r.w _ _ _ _ _ _ (product-opposite n q r) (product-opposite n r p) (product-opposite n p q)

not_both : (x y : ℤ) → x ≡ neg_ℤ y → pos 0 <ℤ x → pos 0 <ℤ y → ⊥
not_both x y e h k = omega (arith, sums)

-- a way turns left about one of a plane and its opposite only
pub no_two_sides : (m n : Coefficients) → m ≡ opposite_of n → (p q r : Coordinates) → pos 0 <ℤ orientation_seen_from m p q r → pos 0 <ℤ orientation_seen_from n p q r → ⊥
no_two_sides m n e p q r h k = not_both (orientation_seen_from m p q r) (orientation_seen_from n p q r) (ap (λ (l : Coefficients). orientation_seen_from l p q r) e ∙ orientation_seen_from-opposite n p q r) h k
