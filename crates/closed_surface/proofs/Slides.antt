-- The edges that run through a point along a direction run through a point near by along it too, and no others do.
use Rattle.std.proofs.Common.{◌≡◌, ◌⊎◌, inl, inr, ℕ, ◌<◌, false, ◌&&◌, sym, ◌∙◌, true≢false, arith, pos, ◌<ℤ◌}
use Rattle.plane_predicate.specs.Space.{Coordinates, value}
use Rattle.plane_polygon.specs.Polygons.{Outline, edge_plane, edge_count, corner, IsPolygon}
use Rattle.plane_polygon.specs.Parts.{corners}
use Rattle.plane_polygon.proofs.lemmas.Hull.{after_below, after_other}
use Rattle.closed_surface.specs.Ways.{Direction, displacement, is_same_point_of_space, is_same_direction, is_opposite_direction}
use Rattle.closed_surface.specs.Closed.{edges_of, runs_through, count_of_edges_along, count_of_edges_against}
use Rattle.closed_surface.proofs.lemmas.EdgeLines.{meets_at_first, meets_at_second}
use Rattle.closed_surface.proofs.lemmas.Numbers.{same_tests}
use Rattle.closed_surface.specs.Edges.{edge_of_outline, IsOnEdge, HoldDirection}
use Rattle.closed_surface.specs.Near.{near_point, BoundsSlopes, IsNoCorner}
use Rattle.closed_surface.proofs.Edges.{side, on_line_strictly, runs_along, along_runs, runs_against, against_runs}
use Rattle.closed_surface.proofs.lemmas.Counting.{count_edges, count_same}
use Rattle.closed_surface.proofs.lemmas.Near.{near_on, near_behind, near_weight, zero_near, behind_near}
use Rattle.plane_predicate.specs.Indices.{index_after}

-- ---- tests that are true together
-- ---- a point of a line of an edge that is ahead of no neighbour and no end of the edge
pub on_line : (s : Outline) → IsPolygon s → (i : ℕ) → i < edge_count s → (q : Coordinates) → pos 0 <ℤ q.w →
    is_same_point_of_space (corner s i) q ≡ false → is_same_point_of_space (corner s (index_after (edge_count s) i)) q ≡ false →
    value s.plane q ≡ pos 0 → value (edge_plane s (index_after (edge_count s) i)) q ≡ pos 0 →
    (value (edge_plane s i) q <ℤ pos 0) ⊎ (value (edge_plane s i) q ≡ pos 0) → (value (edge_plane s (index_after (edge_count s) (index_after (edge_count s) i))) q <ℤ pos 0) ⊎ (value (edge_plane s (index_after (edge_count s) (index_after (edge_count s) i))) q ≡ pos 0) →
    IsOnEdge s (index_after (edge_count s) i) q
on_line s h i l q hw first second on edge_on (inl x) (inl y) = on_line_strictly s h i l q hw on edge_on x y
on_line s h i l q hw first second on edge_on (inr x) y =
    let k : ℕ = edge_count s in let j : ℕ = index_after k i in
    absurd (true≢false (sym (meets_at_first s.plane (edge_plane s i) (edge_plane s j) (edge_plane s (index_after k j)) (side s h i l) q hw on edge_on x) ∙ first))
on_line s h i l q hw first second on edge_on (inl x) (inr y) =
    let k : ℕ = edge_count s in let j : ℕ = index_after k i in
    absurd (true≢false (sym (meets_at_second s.plane (edge_plane s i) (edge_plane s j) (edge_plane s (index_after k j)) (side s h i l) q hw on edge_on y) ∙ second))

-- ---- an edge along v
-- from the point to the point near by
points_near : (s : Outline) (j number : ℕ) (q : Coordinates) (v : Direction) → BoundsSlopes number s v → HoldDirection s j v → IsOnEdge s j q → IsOnEdge s j (near_point number q v)
points_near s j number q v often held p = record {
  on = near_on s.plane number q v p.on ∙ held.plane;
  edge_on = near_on (edge_plane s j) number q v p.edge_on ∙ held.edge_plane;
  behind = λ l m o. near_behind (edge_plane s l) number q v (often.edges l m) (p.behind l m o);
}

-- and back
near_points : (s : Outline) → IsPolygon s → (i number : ℕ) → i < edge_count s → (q : Coordinates) → pos 0 <ℤ q.w → IsNoCorner s q → (v : Direction) → BoundsSlopes number s v →
    IsOnEdge s (index_after (edge_count s) i) (near_point number q v) → IsOnEdge s (index_after (edge_count s) i) q
near_points s h i number l q hw corner_free v often p =
    let k : ℕ = edge_count s in let j : ℕ = index_after k i in
    let lj : j < k = after_below k i l in
    on_line s h i l q hw (corner_free i l) (corner_free j lj)
    (zero_near s.plane number q v often.plane p.on)
    (zero_near (edge_plane s j) number q v (often.edges j lj) p.edge_on)
    (behind_near (edge_plane s i) number q v (often.edges i l) (p.behind i l (λ e. after_other k i h.three l (sym e))))
    (behind_near (edge_plane s (index_after k j)) number q v (often.edges (index_after k j) (after_below k j lj)) (p.behind (index_after k j) (after_below k j lj) (after_other k j h.three lj)))

module _ (s : Outline) (h : IsPolygon s) (number : ℕ) (q : Coordinates) (hw : pos 0 <ℤ q.w) (corner_free : IsNoCorner s q) (v : Direction) (often : BoundsSlopes number s v) where
  abbrev beside_it : Coordinates
  beside_it = near_point number q v

  beside_weight : pos 0 <ℤ beside_it.w
  beside_weight = near_weight number q v hw

  along_alike : (i : ℕ) → i < edge_count s →
      (runs_through (edge_of_outline s i) beside_it && is_same_direction (displacement (edge_of_outline s i).0 (edge_of_outline s i).1) v) ≡ (runs_through (edge_of_outline s i) q && is_same_direction (displacement (edge_of_outline s i).0 (edge_of_outline s i).1) v)
  along_alike i l =
      same_tests _ _
      (λ e. (let r = runs_along s h i l beside_it beside_weight v e in along_runs s h i l q hw v (record { point = near_points s h i number l q hw corner_free v often r.point; held = r.held; left = r.left })))
      (λ e. (let r = runs_along s h i l q hw v e in along_runs s h i l beside_it beside_weight v (record { point = points_near s (index_after (edge_count s) i) number q v often r.held r.point; held = r.held; left = r.left })))

  against_alike : (i : ℕ) → i < edge_count s →
      (runs_through (edge_of_outline s i) beside_it && is_opposite_direction (displacement (edge_of_outline s i).0 (edge_of_outline s i).1) v) ≡ (runs_through (edge_of_outline s i) q && is_opposite_direction (displacement (edge_of_outline s i).0 (edge_of_outline s i).1) v)
  against_alike i l =
      same_tests _ _
      (λ e. (let r = runs_against s h i l beside_it beside_weight v e in against_runs s h i l q hw v (record { point = near_points s h i number l q hw corner_free v often r.point; held = r.held; right = r.right })))
      (λ e. (let r = runs_against s h i l q hw v e in against_runs s h i l beside_it beside_weight v (record { point = points_near s (index_after (edge_count s) i) number q v often r.held r.point; held = r.held; right = r.right })))

  some : 0 < edge_count s
  some = omega (arith, h.three)

  pub along_near : count_of_edges_along (edges_of (corners s)) beside_it v ≡ count_of_edges_along (edges_of (corners s)) q v
  along_near =
      count_edges (λ e. runs_through e beside_it && is_same_direction (displacement e.0 e.1) v) (corner s) (edge_count s) some
      ∙ count_same _ _ (edge_count s) along_alike
      ∙ sym (count_edges (λ e. runs_through e q && is_same_direction (displacement e.0 e.1) v) (corner s) (edge_count s) some)

  pub against_near : count_of_edges_against (edges_of (corners s)) beside_it v ≡ count_of_edges_against (edges_of (corners s)) q v
  against_near =
      count_edges (λ e. runs_through e beside_it && is_opposite_direction (displacement e.0 e.1) v) (corner s) (edge_count s) some
      ∙ count_same _ _ (edge_count s) against_alike
      ∙ sym (count_edges (λ e. runs_through e q && is_opposite_direction (displacement e.0 e.1) v) (corner s) (edge_count s) some)
