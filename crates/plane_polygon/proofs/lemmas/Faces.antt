-- A point is strictly within a polygon exactly where it is strictly left of each way from a corner to the next.
use Rattle.std.proofs.Common.{sym, ◌≡◌, ◌≢◌, inl, inr, ℕ, zero, suc, ◌-◌, ◌<◌, subst, arith, ℤ, pos, ◌*ℤ◌, ◌<ℤ◌, ◌≤ℤ◌}
use Rattle.plane_predicate.specs.Space.{Coordinates, value, orientation_seen_from, inner_product}
use Rattle.plane_predicate.proofs.lemmas.IntegerRing.{sums}
use Rattle.plane_polygon.specs.Polygons.{Outline, edge_plane, edge_count, corner, IsPolygon}
use Rattle.plane_predicate.proofs.lemmas.Signs.{signs, most_least, least_least}
use Rattle.plane_polygon.proofs.lemmas.Hull.{after_is, corner_on, after_below, after_last, after_inside, plane_directed, turn_is, far_behind, strictly_left}
use Rattle.plane_predicate.specs.Indices.{index_after}

not_both : (x : ℤ) → pos 0 <ℤ x → x ≤ℤ pos 0 → ⊥
not_both x h k = omega (arith, sums)

lt_most : (x : ℤ) → x <ℤ pos 0 → x ≤ℤ pos 0
lt_most x h = omega (arith, sums)

lt_least : (x : ℤ) → pos 0 <ℤ x → pos 0 ≤ℤ x
lt_least x h = omega (arith, sums)

zero_least : (x : ℤ) → x ≡ pos 0 → pos 0 ≤ℤ x
zero_least x h = omega (arith, sums)

-- from g (n f) above 0, with g below 0 and n above 0
factor_behind : (g n f : ℤ) → g <ℤ pos 0 → pos 0 <ℤ n → pos 0 <ℤ (g *ℤ (n *ℤ f)) → f <ℤ pos 0
factor_behind g n f hg hn h =
    elim (signs f) [
      | inl k ↦ k
      | inr (inl k) ↦ absurd (not_both (g *ℤ (n *ℤ f)) h (most_least g (n *ℤ f) (lt_most g hg) (least_least n f (lt_least n hn) (zero_least f k))))
      | inr (inr k) ↦ absurd (not_both (g *ℤ (n *ℤ f)) h (most_least g (n *ℤ f) (lt_most g hg) (least_least n f (lt_least n hn) (lt_least f k))))
    ]

pub behind_from_left : (s : Outline) (h : IsPolygon s) (i : ℕ) → i < edge_count s → (q : Coordinates) → value s.plane q ≡ pos 0 → pos 0 <ℤ orientation_seen_from s.plane (corner s i) (corner s (index_after (edge_count s) i)) q → value (edge_plane s (index_after (edge_count s) i)) q <ℤ pos 0
behind_from_left s h i l q e t =
    factor_behind (value (edge_plane s (index_after (edge_count s) (index_after (edge_count s) i))) (corner s i)) (inner_product s.plane s.plane) (value (edge_plane s (index_after (edge_count s) i)) q)
    (far_behind s h i l) (plane_directed s h) (subst (λ (x : ℤ). pos 0 <ℤ x) (turn_is s i q e) t)

-- each index follows one
pub earlier : (k j : ℕ) → j < k → (i : ℕ) × (i < k) × (index_after k i ≡ j)
earlier k zero h = (k - 1, omega arith, after_last k (k - 1) (omega arith))
earlier k (suc j) h = (j, omega arith, after_inside k j h)

pub within_by_turns : (s : Outline) → IsPolygon s → (q : Coordinates) → value s.plane q ≡ pos 0 → ((i : ℕ) → i < edge_count s → pos 0 <ℤ orientation_seen_from s.plane (corner s i) (corner s (index_after (edge_count s) i)) q) → (j : ℕ) → j < edge_count s → value (edge_plane s j) q <ℤ pos 0
within_by_turns s h q e t j l = let w = earlier (edge_count s) j l in subst (λ (n : ℕ). value (edge_plane s n) q <ℤ pos 0) w.2 (behind_from_left s h w.0 w.1 q e (t w.0 w.1))

pub turns_by_within : (s : Outline) → IsPolygon s → (q : Coordinates) → value s.plane q ≡ pos 0 → ((j : ℕ) → j < edge_count s → value (edge_plane s j) q <ℤ pos 0) → (i : ℕ) → i < edge_count s → pos 0 <ℤ orientation_seen_from s.plane (corner s i) (corner s (index_after (edge_count s) i)) q
turns_by_within s h q e b i l = strictly_left s h i l q e (b (index_after (edge_count s) i) (after_below (edge_count s) i l))

pub after_injective : (k i j : ℕ) → i < k → j < k → index_after k i ≡ index_after k j → i ≡ j
after_injective k i j l m e =
    elim (after_is k i) [
      | inl p ↦ elim (after_is k j) [ inl q ↦ omega arith | inr q ↦ omega arith ]
      | inr p ↦ elim (after_is k j) [ inl q ↦ omega arith | inr q ↦ omega arith ]
    ]

pub others_left : (s : Outline) → IsPolygon s → (i j : ℕ) → i < edge_count s → j < edge_count s → j ≢ i → j ≢ index_after (edge_count s) i → pos 0 <ℤ orientation_seen_from s.plane (corner s i) (corner s (index_after (edge_count s) i)) (corner s j)
others_left s h i j l m a b =
    strictly_left s h i l (corner s j) (corner_on s j)
    (h.behind j (index_after (edge_count s) i) m (after_below (edge_count s) i l) (λ e. b (sym e)) (λ e. a (sym (after_injective (edge_count s) i j l m e))))
