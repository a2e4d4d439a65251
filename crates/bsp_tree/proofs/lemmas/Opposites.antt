-- A point and the opposite of a plane.
use Rattle.std.proofs.Common.{◌≡◌, ap, ap₂, ◌∙◌, arith, ℤ, pos, neg_ℤ, ◌<ℤ◌}
use Rattle.plane_predicate.specs.Space.{Coefficients, Coordinates, value, opposite_of}
use Rattle.plane_predicate.proofs.lemmas.IntegerRing.{sums}
use Rattle.plane_predicate.proofs.lemmas.Vectors.{value-opposite}

neg_above : (x y : ℤ) → y ≡ neg_ℤ x → x <ℤ pos 0 → pos 0 <ℤ y
neg_above x y e h = omega (arith, sums)

neg_below : (x y : ℤ) → y ≡ neg_ℤ x → pos 0 <ℤ x → y <ℤ pos 0
neg_below x y e h = omega (arith, sums)

above_back : (x y : ℤ) → y ≡ neg_ℤ x → y <ℤ pos 0 → pos 0 <ℤ x
above_back x y e h = omega (arith, sums)

neg_zero : (x y : ℤ) → y ≡ neg_ℤ x → y ≡ pos 0 → x ≡ pos 0
neg_zero x y e h = omega (arith, sums)

-- on the plane, on its opposite
pub opposite_zero : (m : Coefficients) (p : Coordinates) → value m p ≡ pos 0 → value (opposite_of m) p ≡ pos 0
opposite_zero m p e = value-opposite m p ∙ ap neg_ℤ e

pub opposite_back : (m : Coefficients) (p : Coordinates) → value (opposite_of m) p ≡ pos 0 → value m p ≡ pos 0
opposite_back m p e = neg_zero (value m p) (value (opposite_of m) p) (value-opposite m p) e

-- behind the plane, ahead of its opposite
pub opposite_above : (m : Coefficients) (p : Coordinates) → value m p <ℤ pos 0 →
    pos 0 <ℤ value (opposite_of m) p
opposite_above m p h = neg_above (value m p) (value (opposite_of m) p) (value-opposite m p) h

-- ahead of the plane, behind its opposite
pub opposite_below : (m : Coefficients) (p : Coordinates) → pos 0 <ℤ value m p → value (opposite_of m) p <ℤ
    pos 0
opposite_below m p h = neg_below (value m p) (value (opposite_of m) p) (value-opposite m p) h

-- behind the opposite, ahead of the plane
pub behind_opposite_above : (m : Coefficients) (p : Coordinates) → value (opposite_of m) p <ℤ pos 0 →
    pos 0 <ℤ value m p
behind_opposite_above m p h = above_back (value m p) (value (opposite_of m) p) (value-opposite m p) h

-- the opposite of the opposite is the plane
neg_twice : (x : ℤ) → neg_ℤ (neg_ℤ x) ≡ x
neg_twice x = omega (arith, sums)

pub opposite_twice : (m : Coefficients) → opposite_of (opposite_of m) ≡ m
opposite_twice m =
    ap₂ (λ (a b : ℤ). let k : Coefficients = record {
      a = a;
      b = b;
      c = neg_ℤ (neg_ℤ m.c);
      d =
          neg_ℤ (neg_ℤ m.d);
    } in k) (neg_twice m.a) (neg_twice m.b)
    ∙ ap₂ (λ (c d : ℤ). let k : Coefficients = record { a = m.a; b = m.b; c = c; d = d } in k) (neg_twice m.c)
    (neg_twice m.d)
