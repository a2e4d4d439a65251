-- Where one polygon of a cell lies behind the plane of another, and that one behind its plane, no point of the cell is
-- ahead of both planes.
use Rattle.std.proofs.Common.{◌≡◌, inl, inr, List, sym, ◌∙◌, subst, arith, ℤ, pos, ◌+ℤ◌, ◌*ℤ◌, ◌<ℤ◌, ◌≤ℤ◌, neg_ℤ}
use Rattle.std.proofs.Math.IntN.{*ℤ-zero}
use Rattle.plane_predicate.specs.Space.{Coefficients, Coordinates, value}
use Rattle.plane_predicate.proofs.lemmas.IntegerRing.{sums, mul_neg_left, mul_comm_ℤ}
use Rattle.plane_predicate.proofs.lemmas.Identities.{combine, value_combine}
use Rattle.plane_predicate.proofs.lemmas.Signs.{pos_pos, signs}
use Rattle.plane_polygon.specs.Polygons.{Outline}
use Rattle.plane_polygon.proofs.lemmas.Cuts.{turned}
use Rattle.bsp_tree.specs.Cells.{IsInCell, IsInClosedCell, IsPolygonOfCell}
use Rattle.bsp_tree.proofs.lemmas.Convexity.{in_closed, in_combine}
use Rattle.bsp_tree.proofs.lemmas.PolygonsOfCells.{inner_point}
use Rattle.bsp_tree.proofs.lemmas.Sides.{LiesBehind, none_ahead}

lt_most : (x : ℤ) → x <ℤ pos 0 → x ≤ℤ pos 0
lt_most x h = omega (arith, sums)

zero_most : (x : ℤ) → x ≡ pos 0 → x ≤ℤ pos 0
zero_most x h = omega (arith, sums)

pub not_both : (x : ℤ) → pos 0 <ℤ x → x ≤ℤ pos 0 → ⊥
not_both x h k = omega (arith, sums)

plus_zero : (x : ℤ) → pos 0 <ℤ x → pos 0 <ℤ (pos 0 +ℤ x)
plus_zero x h = omega (arith, sums)

lt_least : (x : ℤ) → pos 0 <ℤ x → pos 0 ≤ℤ x
lt_least x h = omega (arith, sums)

pub at_crossing : (x y : ℤ) → y *ℤ x +ℤ neg_ℤ x *ℤ y ≡ pos 0
at_crossing x y = omega (arith, sums, mul_neg_left x y, mul_comm_ℤ x y)

above_zero : (u v x y : ℤ) → x ≡ pos 0 → pos 0 <ℤ v → pos 0 <ℤ y → pos 0 <ℤ (u *ℤ x +ℤ v *ℤ y)
above_zero u v x y e hv hy = rw (e, *ℤ-zero u) (plus_zero (v *ℤ y) (pos_pos v y hv hy))

-- y is on p and behind q, and no point of the closed cell on q is ahead of p. So a point x ahead of p isn't ahead of q:
-- else the way from y to x crosses q at a point ahead of p
one_sided : (cell : List Coefficients) (p q : Coefficients) (y x : Coordinates) → IsInCell cell y →
    value p y ≡ pos 0 → value q y <ℤ pos 0 →
    ((z : Coordinates) → IsInClosedCell cell z → value q z ≡ pos 0 → value p z ≤ℤ pos 0) →
    IsInCell cell x → pos 0 <ℤ value p x → value q x ≤ℤ pos 0
one_sided cell p q y x hy py qy h hx px =
    elim (signs (value q x)) [
      | inl k ↦ lt_most (value q x) k
      | inr (inl k) ↦ zero_most (value q x) k
      | inr (inr k) ↦ absurd (
          let z = combine (value q x) y (neg_ℤ (value q y)) x in
          let inside = in_combine cell (value q x) y (neg_ℤ (value q y)) x k (lt_least (neg_ℤ (value q y))
          (turned (value q y) qy)) hy (in_closed cell x hx) in
          let on = value_combine q (value q x) y (neg_ℤ (value q y)) x ∙ at_crossing (value q y) (value q x)
          in
          let most = h z (in_closed cell z inside) on in
          let least : pos 0 <ℤ value p z = subst (λ (v : ℤ). pos 0 <ℤ v)
          (sym (value_combine p (value q x) y (neg_ℤ (value q y)) x)) (above_zero (value q x)
          (neg_ℤ (value q y)) (value p y) (value p x) py (turned (value q y) qy) px) in
          not_both (value p z) least most)
    ]

-- s lies behind q, the plane of t or its opposite, and t behind m, the plane of s or its opposite: what is ahead of m is
-- behind q
pub apart : (cell : List Coefficients) (s t : Outline) (q m : Coefficients) → IsPolygonOfCell cell s →
    IsPolygonOfCell cell t → LiesBehind s q → LiesBehind t m →
    ((z : Coordinates) → value q z ≡ pos 0 → value t.plane z ≡ pos 0) → ((z : Coordinates) →
    value s.plane z ≡ pos 0 → value m z ≡ pos 0) →
    (x : Coordinates) → IsInCell cell x → pos 0 <ℤ value m x → value q x <ℤ pos 0
apart cell s t q m hs ht bs bt onq onm x hx mx =
    let y = inner_point cell s q hs bs.some.index bs.some.index_below bs.some.strict in
    let most : (z : Coordinates) → IsInClosedCell cell z → value q z ≡ pos 0 → value m z ≤ℤ pos 0 =
    λ z c e. none_ahead cell t m ht bt z c (onq z e) in
    elim (signs (value q x)) [
      | inl k ↦ k
      | inr (inl k) ↦ absurd (not_both (value m x) mx (most x (in_closed cell x hx) k))
      | inr (inr k) ↦ absurd (not_both (value q x) k (one_sided cell m q y.0 x y.1 (onm y.0 y.2) y.3 most hx
          mx))
    ]

-- no point of the cell is ahead of both
pub excluded : (cell : List Coefficients) (s t : Outline) (q m : Coefficients) → IsPolygonOfCell cell s →
    IsPolygonOfCell cell t → LiesBehind s q → LiesBehind t m →
    ((z : Coordinates) → value q z ≡ pos 0 → value t.plane z ≡ pos 0) → ((z : Coordinates) →
    value s.plane z ≡ pos 0 → value m z ≡ pos 0) →
    (x : Coordinates) → IsInCell cell x → pos 0 <ℤ value m x → pos 0 <ℤ value q x → ⊥
excluded cell s t q m hs ht bs bt onq onm x hx mx qx =
    not_both (value q x) qx (lt_most (value q x) (apart cell s t q m hs ht bs bt onq onm x hx mx))
