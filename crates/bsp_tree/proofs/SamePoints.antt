-- Cells with the same points have the same polygons and the same solids.
use Rattle.std.proofs.Common.{◌↔◌, inl, inr, ℕ, zero, suc, List, [], ◌∷◌, subst, arith, ℤ, pos, negsuc, ◌+ℤ◌, ◌*ℤ◌, ◌<ℤ◌, ◌≤ℤ◌, unsigned_abs}
use borrow.Author.Differences.{product_is}
use Rattle.plane_predicate.specs.Space.{Coefficients, Coordinates, value, opposite_of}
use Rattle.plane_predicate.proofs.lemmas.IntegerRing.{sums}
use Rattle.plane_predicate.proofs.lemmas.Identities.{combine, value_combine}
use Rattle.plane_predicate.proofs.lemmas.Sizes.{size_parts}
use Rattle.plane_predicate.proofs.lemmas.Signs.{signs}
use Rattle.plane_polygon.specs.Polygons.{Outline}
use Rattle.bsp_tree.specs.Trees.{BspTree, inside, outside, node}
use Rattle.bsp_tree.specs.Cells.{IsInCell, IsInClosedCell, IsPolygonOfCell, IsOfCell, AllBehind, NoneAhead}
use Rattle.bsp_tree.proofs.lemmas.Convexity.{in_combine}

-- two lists of planes give a cell with the same points
abbrev pub HaveOnePoints : List Coefficients → List Coefficients → Type 0
HaveOnePoints c d = (p : Coordinates) → IsInCell c p ↔ IsInCell d p

-- ---- the closed cell is told by the points of the cell
pushed : (x w : ℤ) → pos 0 <ℤ w → (pos 1 *ℤ x +ℤ pos (suc (unsigned_abs x)) *ℤ w) <ℤ pos 0 → ⊥
pushed x (pos (suc n)) h k = omega (
  arith,
  sums,
  size_parts x,
  product_is (pos 1) x,
  product_is
      (pos (suc (unsigned_abs x))) (pos (suc n)),
)
pushed x (pos zero) h k = omega (arith, sums)
pushed x (negsuc n) h k = omega (arith, sums)

-- a plane that a point is behind, however often p is added to it, isn't behind p
limit : (m : Coefficients) (z p : Coordinates) → ((k : ℕ) → value m (combine (pos 1) z (pos k) p) <ℤ pos 0) →
    value m p ≤ℤ pos 0
limit m z p h = elim (signs (value m p)) [
  | inl k ↦ omega (arith, sums)
  | inr (inl k) ↦ omega (arith, sums)
  | inr (inr k) ↦ absurd (pushed (value m z) (value m p) k (subst (λ (x : ℤ). x <ℤ pos 0)
      (value_combine m (pos 1) z (pos (suc (unsigned_abs (value m z)))) p)
      (h (suc (unsigned_abs (value m z))))))
]

all_limits : (d : List Coefficients) (z p : Coordinates) →
    ((k : ℕ) → AllBehind d (combine (pos 1) z (pos k) p)) → NoneAhead d p
all_limits [] z p h = tt
all_limits (m ∷ d) z p h = (limit m z p (λ k. (h k).0), all_limits d z p (λ k. (h k).1))

pub closed_within : (c d : List Coefficients) → ((p : Coordinates) → IsInCell c p → IsInCell d p) →
    (z : Coordinates) → IsInCell c z → (p : Coordinates) → IsInClosedCell c p → IsInClosedCell d p
closed_within c d h z hz p hp = record {
  weight = hp.weight;
  below = all_limits d z p (λ k. (h (combine (pos 1) z (pos k) p) (in_combine c (pos 1) z (pos k) p
      (omega (arith, sums)) (omega (arith, sums)) hz hp)).below);
}

-- ---- polygons and solids
pub same_across : (c d : List Coefficients) (s : Outline) → HaveOnePoints c d → IsPolygonOfCell c s → IsPolygonOfCell d s
same_across c d s e h =
    let z = (e h.point).0 h.point_in in record {
      polygon = h.polygon;
      plane = h.plane;
      covers = λ p. (
        λ k. (let o = (h.covers p).0 k in (closed_within c d (λ q. (e q).0) h.point h.point_in p o.0, o.1)),
        λ k. (h.covers p).1 (closed_within d c (λ q. (e q).1) h.point z p k.0, k.1),
      );
      point = h.point;
      point_in = z;
      point_on = h.point_on;
    }

-- one more plane
pub same_more : (m : Coefficients) (c d : List Coefficients) → HaveOnePoints c d →
    HaveOnePoints (m ∷ c) (m ∷ d)
same_more m c d e p = (
  λ h. record {
    weight = h.weight;
    below =
        (h.below.0, ((e p).0 (record { weight = h.weight; below = h.below.1 })).below);
  },
  λ h. record {
    weight = h.weight;
    below =
        (h.below.0, ((e p).1 (record { weight = h.weight; below = h.below.1 })).below);
  },
)

pub same_of_cell : (t : BspTree) (c d : List Coefficients) → HaveOnePoints c d → IsOfCell c t → IsOfCell d t
same_of_cell inside c d e h = tt
same_of_cell outside c d e h = tt
same_of_cell (node s b a) c d e h = (
  same_across c d s e h.0,
  same_of_cell b (s.plane ∷ c) (s.plane ∷ d) (same_more s.plane c d e) h.1,
  same_of_cell a (opposite_of s.plane ∷ c) (opposite_of s.plane ∷ d) (same_more (opposite_of s.plane) c d e)
      h.2,
)

-- two planes exchanged
pub same_exchanged : (m n : Coefficients) (c : List Coefficients) → HaveOnePoints (m ∷ n ∷ c) (n ∷ m ∷ c)
same_exchanged m n c p = (
  λ h. record { weight = h.weight; below = (h.below.1.0, (h.below.0, h.below.1.1)) },
  λ h. record { weight = h.weight; below = (h.below.1.0, (h.below.0, h.below.1.1)) },
)

-- a plane that all points of the cell behind n are behind
pub same_implied : (m n : Coefficients) (c : List Coefficients) → ((p : Coordinates) → IsInCell c p →
    value n p <ℤ pos 0 → value m p <ℤ pos 0) → HaveOnePoints (n ∷ c) (n ∷ m ∷ c)
same_implied m n c f p = (
  λ h. record {
    weight = h.weight;
    below = (
      h.below.0,
      (
        f p (record { weight = h.weight; below = h.below.1 })
            h.below.0,
        h.below.1,
      ),
    );
  },
  λ h. record { weight = h.weight; below = (h.below.0, h.below.1.1) },
)
