-- The edges of a polygon run where their planes say.
use Rattle.std.proofs.Common.{◌≡◌, ◌≢◌, ◌⊎◌, inl, inr, ℕ, ◌<◌, true, ◌&&◌, sym, ap, ◌∙◌, pos, ◌<ℤ◌, ◌≤ℤ◌}
use Rattle.std.proofs.lemmas.Bool.{and_parts, and_from}
use Rattle.std.proofs.lemmas.Bool.Decides.{eqb_tells}
use Rattle.plane_predicate.specs.Space.{Coordinates, value}
use Rattle.plane_polygon.specs.Polygons.{Outline, edge_plane, edge_count, corner, IsPolygon}
use Rattle.plane_polygon.proofs.lemmas.Hull.{after_below, after_other, after_twice, corner_on, corner_on_edge, corner_on_next, far_behind}
use Rattle.closed_surface.specs.Ways.{Direction, displacement, is_same_direction, is_opposite_direction}
use Rattle.closed_surface.specs.Closed.{runs_through}
use Rattle.closed_surface.proofs.lemmas.EdgeLines.{IsSide, runs, runs_zero, runs_behind, same_way_turns, opposite_way_turns, turns_same_way, turns_opposite_way}
use Rattle.closed_surface.proofs.lemmas.Numbers.{at_most, zero_at_most}
use Rattle.closed_surface.specs.Edges.{edge_of_outline, IsOnEdge, RunsAlong, RunsAgainst}
use Rattle.plane_predicate.specs.Indices.{index_after}

pub same_or_not : (i j : ℕ) → (i ≡ j) ⊎ (i ≢ j)
same_or_not i j = elim (eqb_tells i j) [ inl p ↦ inl p.1 | inr p ↦ inr p.1 ]

-- no corner is ahead of an edge
pub corner_not_ahead : (s : Outline) → IsPolygon s → (i l : ℕ) → i < edge_count s → l < edge_count s → value (edge_plane s l) (corner s i) ≤ℤ pos 0
corner_not_ahead s h i l li ll = elim (same_or_not l i) [
  | inl e ↦ zero_at_most _ (ap (λ (n : ℕ). value (edge_plane s n) (corner s i)) e ∙ corner_on_edge s i)
  | inr a ↦ elim (same_or_not l (index_after (edge_count s) i)) [
    | inl e ↦ zero_at_most _ (ap (λ (n : ℕ). value (edge_plane s n) (corner s i)) e ∙ corner_on_next s i)
    | inr b ↦ at_most _ (h.behind i l li ll a b)
  ]
]

-- one of the two ends of an edge is strictly behind any other edge
end_behind : (s : Outline) → IsPolygon s → (i l : ℕ) → i < edge_count s → l < edge_count s → l ≢ index_after (edge_count s) i →
    (value (edge_plane s l) (corner s i) <ℤ pos 0) ⊎ (value (edge_plane s l) (corner s (index_after (edge_count s) i)) <ℤ pos 0)
end_behind s h i l li ll a =
    let k : ℕ = edge_count s in let j : ℕ = index_after k i in
    elim (same_or_not l i) [
      | inl e ↦ inr (h.behind j l (after_below k i li) ll a (λ b. after_twice k i h.three li (sym b ∙ e)))
      | inr b ↦ inl (h.behind i l li ll b a)
    ]

-- the four planes of an edge
pub side : (s : Outline) → IsPolygon s → (i : ℕ) → i < edge_count s → IsSide s.plane (edge_plane s i) (edge_plane s (index_after (edge_count s) i)) (edge_plane s (index_after (edge_count s) (index_after (edge_count s) i)))
side s h i l =
    let k : ℕ = edge_count s in let j : ℕ = index_after k i in
    let lj : j < k = after_below k i l in
    record {
      first = h.turns_left i l;
      second = h.turns_left j lj;
      far = far_behind s h i l;
      back = h.behind j i lj l (λ e. after_other k i h.three l (sym e)) (λ e. after_twice k i h.three l (sym e));
    }

-- ---- the points of an edge
pub points_run : (s : Outline) → IsPolygon s → (i : ℕ) → i < edge_count s → (q : Coordinates) → pos 0 <ℤ q.w → IsOnEdge s (index_after (edge_count s) i) q → runs_through (edge_of_outline s i) q ≡ true
points_run s h i l q hw w =
    let k : ℕ = edge_count s in let j : ℕ = index_after k i in
    runs s.plane (edge_plane s i) (edge_plane s j) (edge_plane s (index_after k j)) (side s h i l) q hw w.on w.edge_on
    (w.behind i l (λ e. after_other k i h.three l (sym e)))
    (w.behind (index_after k j) (after_below k j (after_below k i l)) (after_other k j h.three (after_below k i l)))

pub run_points : (s : Outline) → IsPolygon s → (i : ℕ) → i < edge_count s → (q : Coordinates) → pos 0 <ℤ q.w → runs_through (edge_of_outline s i) q ≡ true → IsOnEdge s (index_after (edge_count s) i) q
run_points s h i l q hw r =
    let k : ℕ = edge_count s in let j : ℕ = index_after k i in
    let lj : j < k = after_below k i l in
    let a : Coordinates = corner s i in let b : Coordinates = corner s j in
    record {
      on = runs_zero s.plane a b q (h.turns_left i l) (h.turns_left j lj) r (corner_on s i) (corner_on s j);
      edge_on = runs_zero (edge_plane s j) a b q (h.turns_left i l) (h.turns_left j lj) r (corner_on_next s i) (corner_on_edge s j);
      behind = λ m lm o. runs_behind (edge_plane s m) a b q (h.turns_left i l) (h.turns_left j lj) hw r (corner_not_ahead s h i m l lm) (corner_not_ahead s h j m lj lm) (end_behind s h i m l lm o);
    }

-- the neighbours alone tell
pub on_line_strictly : (s : Outline) → IsPolygon s → (i : ℕ) → i < edge_count s → (q : Coordinates) → pos 0 <ℤ q.w → value s.plane q ≡ pos 0 → value (edge_plane s (index_after (edge_count s) i)) q ≡ pos 0 →
    value (edge_plane s i) q <ℤ pos 0 → value (edge_plane s (index_after (edge_count s) (index_after (edge_count s) i))) q <ℤ pos 0 → IsOnEdge s (index_after (edge_count s) i) q
on_line_strictly s h i l q hw on edge_on x y =
    let k : ℕ = edge_count s in let j : ℕ = index_after k i in
    run_points s h i l q hw (runs s.plane (edge_plane s i) (edge_plane s j) (edge_plane s (index_after k j)) (side s h i l) q hw on edge_on x y)

-- ---- with the way of the edge
pub along_runs : (s : Outline) → IsPolygon s → (i : ℕ) → i < edge_count s → (q : Coordinates) → pos 0 <ℤ q.w → (v : Direction) →
    RunsAlong s (index_after (edge_count s) i) q v → (runs_through (edge_of_outline s i) q && is_same_direction (displacement (edge_of_outline s i).0 (edge_of_outline s i).1) v) ≡ true
along_runs s h i l q hw v r =
    and_from _ _ (points_run s h i l q hw r.point)
    (turns_same_way s.plane (edge_plane s i) (edge_plane s (index_after (edge_count s) i)) (edge_plane s (index_after (edge_count s) (index_after (edge_count s) i))) (side s h i l) v (record { plane = r.held.plane; edge = r.held.edge_plane }) r.left)

pub runs_along : (s : Outline) → IsPolygon s → (i : ℕ) → i < edge_count s → (q : Coordinates) → pos 0 <ℤ q.w → (v : Direction) →
    (runs_through (edge_of_outline s i) q && is_same_direction (displacement (edge_of_outline s i).0 (edge_of_outline s i).1) v) ≡ true → RunsAlong s (index_after (edge_count s) i) q v
runs_along s h i l q hw v e =
    let p = and_parts (runs_through (edge_of_outline s i) q) (is_same_direction (displacement (edge_of_outline s i).0 (edge_of_outline s i).1) v) e in
    let w = same_way_turns s.plane (edge_plane s i) (edge_plane s (index_after (edge_count s) i)) (edge_plane s (index_after (edge_count s) (index_after (edge_count s) i))) (side s h i l) v p.1 in
    record { point = run_points s h i l q hw p.0; held = record { plane = w.0.plane; edge_plane = w.0.edge }; left = w.1 }

pub against_runs : (s : Outline) → IsPolygon s → (i : ℕ) → i < edge_count s → (q : Coordinates) → pos 0 <ℤ q.w → (v : Direction) →
    RunsAgainst s (index_after (edge_count s) i) q v → (runs_through (edge_of_outline s i) q && is_opposite_direction (displacement (edge_of_outline s i).0 (edge_of_outline s i).1) v) ≡ true
against_runs s h i l q hw v r =
    and_from _ _ (points_run s h i l q hw r.point)
    (turns_opposite_way s.plane (edge_plane s i) (edge_plane s (index_after (edge_count s) i)) (edge_plane s (index_after (edge_count s) (index_after (edge_count s) i))) (side s h i l) v (record { plane = r.held.plane; edge = r.held.edge_plane }) r.right)

pub runs_against : (s : Outline) → IsPolygon s → (i : ℕ) → i < edge_count s → (q : Coordinates) → pos 0 <ℤ q.w → (v : Direction) →
    (runs_through (edge_of_outline s i) q && is_opposite_direction (displacement (edge_of_outline s i).0 (edge_of_outline s i).1) v) ≡ true → RunsAgainst s (index_after (edge_count s) i) q v
runs_against s h i l q hw v e =
    let p = and_parts (runs_through (edge_of_outline s i) q) (is_opposite_direction (displacement (edge_of_outline s i).0 (edge_of_outline s i).1) v) e in
    let w = opposite_way_turns s.plane (edge_plane s i) (edge_plane s (index_after (edge_count s) i)) (edge_plane s (index_after (edge_count s) (index_after (edge_count s) i))) (side s h i l) v p.1 in
    record { point = run_points s h i l q hw p.0; held = record { plane = w.0.plane; edge_plane = w.0.edge }; right = w.1 }
