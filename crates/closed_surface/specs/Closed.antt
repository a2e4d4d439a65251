-- When a surface is closed. Vertices and points are in units.
use Rattle.std.specs.Prelude.{◌≡◌, ℕ, Bool, false, ◌&&◌, List, ◌++◌, map, flat_map, take, drop, zip, count_by, pos, slice_index_or}
use Rattle.std.specs.List.{list_any}
use Rattle.plane_predicate.specs.declared.unit.Unit.{Unit as LengthUnit}
use Rattle.plane_predicate.specs.Space.{Coordinates, IsInWorld}
use Rattle.plane_predicate.specs.InUnits.{in_steps}
use Rattle.closed_surface.specs.Ways.{Direction, displacement, is_same_point_of_space, is_same_direction, is_opposite_direction}

-- a directed edge, from its first end to its second
abbrev pub Edge : Type 0
Edge = Coordinates × Coordinates

-- the edges of a face, from each corner to the next
abbrev pub edges_of : List Coordinates → List Edge
edges_of corners = zip corners (drop 1 corners ++ take 1 corners)

-- the edge runs through the point: the point lies on the line of the edge's ends, strictly between them
abbrev pub runs_through : Edge → Coordinates → Bool
runs_through e q = is_same_direction (displacement e.0 q) (displacement q e.1)

-- how many edges run through the point the way of v
abbrev pub count_of_edges_along : List Edge → Coordinates → Direction → ℕ
count_of_edges_along edges q v = count_by (λ e. runs_through e q && is_same_direction (displacement e.0 e.1) v) edges

-- how many edges run through the point the way against v
abbrev pub count_of_edges_against : List Edge → Coordinates → Direction → ℕ
count_of_edges_against edges q v = count_by (λ e. runs_through e q && is_opposite_direction (displacement e.0 e.1) v) edges

-- the point is a corner of some face
abbrev pub is_corner : List (List Coordinates) → Coordinates → Bool
is_corner faces q = list_any (λ p. is_same_point_of_space p q) (flat_map (λ corners. corners) faces)

-- the corners of a face that is given by numbers of vertices, from 0
abbrev pub corners_at : List Coordinates → List ℕ → List Coordinates
corners_at vertices face = map (λ i. slice_index_or vertices i (record { x = pos 0; y = pos 0; z = pos 0; w = pos 1 })) face

-- faces, given by their corners, are closed: through each point strictly inside the world box that is no corner of a face, as
-- many of their edges run one way as the opposite way
abbrev pub AreClosed : LengthUnit → List (List Coordinates) → Type 0
AreClosed unit faces = (q : Coordinates) (v : Direction) → IsInWorld (in_steps unit q) → is_corner faces q ≡ false →
    count_of_edges_along (flat_map edges_of faces) q v ≡ count_of_edges_against (flat_map edges_of faces) q v

-- the same of vertices and faces as a text has them
abbrev pub IsClosedSurface : LengthUnit → List Coordinates → List (List ℕ) → Type 0
IsClosedSurface unit vertices faces = AreClosed unit (map (corners_at vertices) faces)
