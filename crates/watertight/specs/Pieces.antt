-- Elementary edges: the segments into which corners cut the edges of faces. Corners and points are in units.
use Rattle.std.specs.Prelude.{ℕ, Bool, ◌&&◌, ◌||◌, not, List, flat_map, count_by}
use Rattle.std.specs.List.{list_any}
use Rattle.plane_predicate.specs.Space.{Coordinates}
use Rattle.closed_surface.specs.Ways.{displacement, is_same_point_of_space, is_same_direction}
use Rattle.closed_surface.specs.Closed.{Edge, edges_of, runs_through}

-- the point is the edge's first end, or lies from there the way of the edge
abbrev pub lies_from_start : Edge → Coordinates → Bool
lies_from_start e p = is_same_point_of_space e.0 p || is_same_direction (displacement e.0 p) (displacement e.0 e.1)

-- the point is the edge's second end, or the edge's second end lies from it the way of the edge
abbrev pub lies_before_end : Edge → Coordinates → Bool
lies_before_end e p = is_same_point_of_space p e.1 || is_same_direction (displacement p e.1) (displacement e.0 e.1)

-- the segment runs along the edge, from a point of it to a later one
abbrev pub runs_along : Edge → Edge → Bool
runs_along segment e = lies_from_start e segment.0 && (lies_before_end e segment.1 && is_same_direction (displacement segment.0 segment.1) (displacement e.0 e.1))

-- no corner of the faces, which are given by their corners, lies strictly between the ends of the segment. Where its ends are
-- corners too, it is an elementary edge
abbrev pub has_no_corner_within : List (List Coordinates) → Edge → Bool
has_no_corner_within faces segment = not (list_any (runs_through segment) (flat_map (λ corners. corners) faces))

-- how many edges of the faces the segment runs along
abbrev pub count_of_edges_over : List (List Coordinates) → Edge → ℕ
count_of_edges_over faces segment = count_by (runs_along segment) (flat_map edges_of faces)
