-- The edges of polygons, by their planes.
use Rattle.std.specs.Prelude.{◌≡◌, ◌≢◌, ℕ, ◌<◌, pos, ◌<ℤ◌}
use Rattle.plane_predicate.specs.Space.{Coordinates, value}
use Rattle.plane_polygon.specs.Polygons.{Outline, edge_plane, edge_count, corner}
use Rattle.closed_surface.specs.Ways.{Direction, slope}
use Rattle.closed_surface.specs.Around.{triple_product_of}
use Rattle.closed_surface.specs.Closed.{Edge}
use Rattle.plane_predicate.specs.Indices.{index_after}

-- the edge from corner i to the next, whose number among the edge planes follows i round the polygon
abbrev pub edge_of_outline : Outline → ℕ → Edge
edge_of_outline s i = (corner s i, corner s (index_after (edge_count s) i))

-- the point is on the polygon's plane and on edge plane j, and strictly behind all other edges
pub record IsOnEdge (s : Outline) (j : ℕ) (q : Coordinates) : Type 0 where
  pub on : value s.plane q ≡ pos 0
  pub edge_on : value (edge_plane s j) q ≡ pos 0
  pub behind : (l : ℕ) → l < edge_count s → l ≢ j → value (edge_plane s l) q <ℤ pos 0

-- both planes hold the direction
pub record HoldDirection (s : Outline) (j : ℕ) (v : Direction) : Type 0 where
  pub plane : slope s.plane v ≡ pos 0
  pub edge_plane : slope (edge_plane s j) v ≡ pos 0

-- edge j of the polygon runs through the point, the way of v
pub record RunsAlong (s : Outline) (j : ℕ) (q : Coordinates) (v : Direction) : Type 0 where
  pub point : IsOnEdge s j q
  pub held : HoldDirection s j v
  pub left : pos 0 <ℤ triple_product_of v s.plane (edge_plane s j)

-- edge j of the polygon runs through the point, the way against v
pub record RunsAgainst (s : Outline) (j : ℕ) (q : Coordinates) (v : Direction) : Type 0 where
  pub point : IsOnEdge s j q
  pub held : HoldDirection s j v
  pub right : triple_product_of v s.plane (edge_plane s j) <ℤ pos 0
