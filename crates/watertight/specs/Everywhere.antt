-- Closed surfaces, with no word of the world box. Vertices and points are in units.
use Rattle.std.specs.Prelude.{◌≡◌, ℕ, ℤ, pos, ◌<ℤ◌, false, List, map, flat_map}
use Rattle.plane_predicate.specs.Space.{Coordinates}
use Rattle.closed_surface.specs.Ways.{Direction}
use Rattle.closed_surface.specs.Closed.{count_of_edges_along, count_of_edges_against, edges_of, is_corner, corners_at}

-- faces, given by their corners, are closed at every point: through each point of space that is no corner of a face, as many of
-- their edges run one way as the opposite way
abbrev pub AreClosedAtEveryPoint : List (List Coordinates) → Type 0
AreClosedAtEveryPoint faces = (q : Coordinates) (v : Direction) → pos 0 <ℤ q.w → is_corner faces q ≡ false →
    count_of_edges_along (flat_map edges_of faces) q v ≡ count_of_edges_against (flat_map edges_of faces) q v

-- the same of vertices and faces as a text has them
abbrev pub IsClosedAtEveryPoint : List Coordinates → List (List ℕ) → Type 0
IsClosedAtEveryPoint vertices faces = AreClosedAtEveryPoint (map (corners_at vertices) faces)
