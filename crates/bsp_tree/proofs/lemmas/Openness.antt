-- Cells are open: a point of the cell stays in it where any point is added, if it is taken often enough itself.
use Rattle.std.proofs.Common.{ℕ, zero, suc, ◌+◌, ◌≤◌, List, [], ◌∷◌, sym, subst, arith, ℤ, pos, negsuc, ◌+ℤ◌, ◌*ℤ◌, ◌<ℤ◌, unsigned_abs}
use borrow.Author.Differences.{product_is}
use Rattle.plane_predicate.specs.Space.{Coefficients, Coordinates, value}
use Rattle.plane_predicate.proofs.lemmas.IntegerRing.{sums}
use Rattle.plane_predicate.proofs.lemmas.Identities.{combine, value_combine}
use Rattle.plane_predicate.proofs.lemmas.Sizes.{size_parts}
use Rattle.bsp_tree.specs.Cells.{IsInCell, AllBehind}

-- how often is often enough, for v u added
abbrev pub often : List Coefficients → ℤ → Coordinates → ℕ
often [] v u = unsigned_abs (v *ℤ u.w)
often (m ∷ cell) v u = unsigned_abs (v *ℤ value m u) + often cell v u

pub more_below : (k : ℕ) (x y : ℤ) → x <ℤ pos 0 → unsigned_abs y ≤ k → (pos (suc k) *ℤ x +ℤ y) <ℤ pos 0
more_below k (pos n) y h b = absurd (omega (arith, sums))
more_below k (negsuc n) y h b = omega (arith, sums, size_parts y, product_is (pos (suc k)) (negsuc n))

pub more_above : (k : ℕ) (x y : ℤ) → pos 0 <ℤ x → unsigned_abs y ≤ k → pos 0 <ℤ (pos (suc k) *ℤ x +ℤ y)
more_above k (pos (suc n)) y h b = omega (arith, sums, size_parts y, product_is (pos (suc k)) (pos (suc n)))
more_above k (pos zero) y h b = absurd (omega (arith, sums))
more_above k (negsuc n) y h b = absurd (omega (arith, sums))

all_near : (cell : List Coefficients) (k : ℕ) (p : Coordinates) (v : ℤ) (u : Coordinates) →
    often cell v u ≤ k → AllBehind cell p → AllBehind cell (combine (pos (suc k)) p v u)
all_near [] k p v u b h = tt
all_near (m ∷ cell) k p v u b h = (
  subst (λ (x : ℤ). x <ℤ pos 0) (sym (value_combine m (pos (suc k)) p v u)) (more_below k (value m p)
      (v *ℤ value m u) h.0 (omega arith)),
  all_near cell k p v u (omega arith) h.1,
)

weight_often : (cell : List Coefficients) (v : ℤ) (u : Coordinates) → unsigned_abs (v *ℤ u.w) ≤ often cell v u
weight_often [] v u = omega arith
weight_often (m ∷ cell) v u = omega (arith, weight_often cell v u)

pub in_near : (cell : List Coefficients) (k : ℕ) (p : Coordinates) (v : ℤ) (u : Coordinates) →
    often cell v u ≤ k → IsInCell cell p → IsInCell cell (combine (pos (suc k)) p v u)
in_near cell k p v u b h = record {
  weight = more_above k p.w (v *ℤ u.w) h.weight (omega (arith, weight_often cell v u));
  below = all_near cell k p v u b h.below;
}
