-- Cells are convex: a combination of a point of the cell and one of the closed cell is a point of the cell.
use Rattle.std.proofs.Common.{List, [], ◌∷◌, sym, subst, arith, ℤ, pos, ◌+ℤ◌, ◌*ℤ◌, ◌<ℤ◌, ◌≤ℤ◌}
use Rattle.plane_predicate.specs.Space.{Coefficients, Coordinates, value}
use Rattle.plane_predicate.proofs.lemmas.IntegerRing.{sums}
use Rattle.plane_predicate.proofs.lemmas.Identities.{combine, value_combine}
use Rattle.plane_predicate.proofs.lemmas.Signs.{pos_pos, pos_neg, least_least, least_most}
use Rattle.bsp_tree.specs.Cells.{IsInCell, IsInClosedCell, AllBehind, NoneAhead}

lt_most : (x : ℤ) → x <ℤ pos 0 → x ≤ℤ pos 0
lt_most x h = omega (arith, sums)

lt_least : (x : ℤ) → pos 0 <ℤ x → pos 0 ≤ℤ x
lt_least x h = omega (arith, sums)

sum_above : (x y : ℤ) → pos 0 <ℤ x → pos 0 ≤ℤ y → pos 0 <ℤ (x +ℤ y)
sum_above x y h k = omega (arith, sums)

sum_below : (x y : ℤ) → x <ℤ pos 0 → y ≤ℤ pos 0 → (x +ℤ y) <ℤ pos 0
sum_below x y h k = omega (arith, sums)

all_combine : (cell : List Coefficients) (u : ℤ) (p : Coordinates) (v : ℤ) (q : Coordinates) → pos 0 <ℤ u →
    pos 0 ≤ℤ v →
    AllBehind cell p → NoneAhead cell q → AllBehind cell (combine u p v q)
all_combine [] u p v q hu hv hp hq = tt
all_combine (m ∷ cell) u p v q hu hv hp hq = (
  subst (λ (x : ℤ). x <ℤ pos 0) (sym (value_combine m u p v q)) (sum_below (u *ℤ value m p) (v *ℤ value m q)
      (pos_neg u (value m p) hu hp.0) (least_most v (value m q) hv hq.0)),
  all_combine cell u p v q hu hv hp.1 hq.1,
)

-- what is behind is not ahead
pub not_ahead : (cell : List Coefficients) (p : Coordinates) → AllBehind cell p → NoneAhead cell p
not_ahead [] p h = tt
not_ahead (m ∷ cell) p h = (lt_most (value m p) h.0, not_ahead cell p h.1)

-- a cell lies in its closure
pub in_closed : (cell : List Coefficients) (p : Coordinates) → IsInCell cell p → IsInClosedCell cell p
in_closed cell p h = record { weight = h.weight; below = not_ahead cell p h.below }

-- a point of the cell combined with one of the closed cell
pub in_combine : (cell : List Coefficients) (u : ℤ) (p : Coordinates) (v : ℤ) (q : Coordinates) → pos 0 <ℤ u →
    pos 0 ≤ℤ v →
    IsInCell cell p → IsInClosedCell cell q → IsInCell cell (combine u p v q)
in_combine cell u p v q hu hv hp hq = record {
  weight = sum_above (u *ℤ p.w) (v *ℤ q.w) (pos_pos u p.w hu hp.weight) (least_least v q.w hv
      (lt_least q.w hq.weight));
  below = all_combine cell u p v q hu hv hp.below hq.below;
}
