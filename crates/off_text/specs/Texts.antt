-- The one 4OFF text of convex polygons.
use Rattle.std.specs.Prelude.{◌≡◌, ℕ, ◌+◌, Bool, not, ◌&&◌, ◌||◌, List, [], ◌∷◌, ◌++◌, map, flat_map, take, drop, filter, length, int_lt}
use Rattle.std.specs.List.{list_any, position_or_len}
use Rattle.std.specs.Ordering.{int_eq}
use Rattle.plane_predicate.specs.declared.unit.Unit.{Unit as LengthUnit}
use Rattle.plane_predicate.specs.Space.{Coordinates, has_same_numbers}
use Rattle.plane_predicate.specs.InUnits.{in_units}
use Rattle.plane_polygon.specs.Polygons.{Outline, edge_count, AreReducedFrom}
use Rattle.plane_polygon.specs.Parts.{corners}
use Rattle.off_text.specs.Reading.{off_text}

-- the order of corners: by x, then by y, z and w, as whole numbers
abbrev pub comes_before : Coordinates → Coordinates → Bool
comes_before p q = int_lt p.x q.x || int_eq p.x q.x && (int_lt p.y q.y || int_eq p.y q.y && (int_lt p.z q.z || int_eq p.z q.z && int_lt p.w q.w))

-- no corner comes before p
abbrev pub is_least : List Coordinates → Coordinates → Bool
is_least corners p = not (list_any (λ q. comes_before q p) corners)

-- the place of the first least corner, from 0
abbrev pub place_of_least : List Coordinates → ℕ
place_of_least corners = position_or_len (is_least corners) corners

-- the same round of corners, from the least one on
abbrev pub from_least : List Coordinates → List Coordinates
from_least corners = drop (place_of_least corners) corners ++ take (place_of_least corners) corners

-- each point once, by first appearance
abbrev pub distinct_points : List Coordinates → List Coordinates
distinct_points [] = []
distinct_points (p ∷ points) = p ∷ filter (λ q. not (has_same_numbers p q)) (distinct_points points)

-- the number of a point among numbered vertices, from 0
abbrev pub vertex_number : List Coordinates → Coordinates → ℕ
vertex_number vertices p = position_or_len (has_same_numbers p) vertices

-- the corners of faces, as they are printed: each face from its least corner on
abbrev pub printed_corners : List (List Coordinates) → List (List Coordinates)
printed_corners faces = map from_least faces

-- the vertices by first appearance, face by face
abbrev pub vertices_of : List (List Coordinates) → List Coordinates
vertices_of faces = distinct_points (flat_map (λ corners. corners) (printed_corners faces))

-- the faces as numbers of vertices
abbrev pub numbered_faces : List (List Coordinates) → List (List ℕ)
numbered_faces faces = map (map (vertex_number (vertices_of faces))) (printed_corners faces)

-- the text of faces that are given by their corners in units, reduced and counterclockwise seen from the side that they face
abbrev pub text_of_faces : List (List Coordinates) → List ℕ
text_of_faces faces = off_text (vertices_of faces) (numbered_faces faces)

-- the most corners of all faces of a text together
abbrev pub most_corners : ℕ
most_corners = 200000

-- the most vertices of a text
abbrev pub most_vertices : ℕ
most_vertices = 60000

-- how many corners polygons have together
abbrev pub corner_count : List Outline → ℕ
corner_count [] = 0
corner_count (s ∷ polygons) = edge_count s + corner_count polygons

-- the corners of a polygon in units
abbrev pub corners_in_units : LengthUnit → Outline → List Coordinates
corners_in_units unit s = map (in_units unit) (corners s)

-- these are the corners of these polygons in units, reduced
abbrev pub AreCornersOf : LengthUnit → List Outline → List (List Coordinates) → Type 0
AreCornersOf unit [] [] = Unit {0}
AreCornersOf unit (s ∷ polygons) (found ∷ faces) = AreReducedFrom (corners_in_units unit s) found × AreCornersOf unit polygons faces
AreCornersOf unit [] (found ∷ faces) = ⊥
AreCornersOf unit (s ∷ polygons) [] = ⊥

-- the bytes are the text of these polygons
pub record IsTextOf (unit : LengthUnit) (polygons : List Outline) (bytes : List ℕ) : Type 0 where
  pub faces : List (List Coordinates)
  pub corners : AreCornersOf unit polygons faces
  pub spelled : bytes ≡ text_of_faces faces

-- the polygons have a number of vertices with this property
pub record HasVertices (unit : LengthUnit) (P : ℕ → Type 0) (polygons : List Outline) : Type 0 where
  pub faces : List (List Coordinates)
  pub corners : AreCornersOf unit polygons faces
  pub count : P (length (vertices_of faces))
