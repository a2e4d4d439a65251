-- How vertices are numbered, one after another.
use Rattle.std.specs.Prelude.{◌≡◌, ℕ, ◌^◌, ◌<◌, Bool, ℤ, pos, int_rem, unsigned_abs, List, [], ◌∷◌, ◌++◌, map, flat_map, All}
use Rattle.std.specs.Ordering.{int_eq}
use Rattle.indexmap.specs.IndexSet.{insert_key}
use Rattle.plane_predicate.specs.declared.unit.Unit.{Unit as LengthUnit}
use Rattle.plane_predicate.specs.Space.{Coordinates, IsPointTimes, HasNoCommonFactor, has_same_numbers}
use Rattle.plane_predicate.specs.InUnits.{in_units}
use Rattle.plane_polygon.specs.Polygons.{Outline, AreReducedFrom, IsPolygon}
use Rattle.plain_text.specs.Decimals.{numeral}
use Rattle.off_text.specs.Reading.{face_line}
use Rattle.off_text.specs.Texts.{corners_in_units, from_least, vertex_number, AreCornersOf, vertices_of, numbered_faces}
use Rattle.plain_text.specs.Separators.{space}

-- the numbers of a vertex of the program, which are written in decimal digits: each fits 128 bits with its sign changed
pub record HasVertexSizes (p : Coordinates) : Type 0 where
  pub x_size : unsigned_abs p.x < 2 ^ 127
  pub y_size : unsigned_abs p.y < 2 ^ 127
  pub z_size : unsigned_abs p.z < 2 ^ 127
  pub w_size : unsigned_abs p.w < 2 ^ 127

-- the number is even
abbrev pub is_even : ℤ → Bool
is_even x = int_eq (int_rem x (pos 2)) (pos 0)

-- the vertex is a corner in units, without a common factor where the corner has none
pub record IsVertexAt (unit : LengthUnit) (p v : Coordinates) : Type 0 where
  pub times : IsPointTimes (in_units unit p) v
  pub reduced : HasNoCommonFactor p → HasNoCommonFactor v

-- the vertices once these points are numbered too
abbrev pub with_points : List Coordinates → List Coordinates → List Coordinates
with_points vertices [] = vertices
with_points vertices (p ∷ points) = with_points (insert_key has_same_numbers vertices p) points

-- a polygon's corners are numbered too, and these are their numbers
pub record AddsFace (unit : LengthUnit) (s : Outline) (old new : List Coordinates) (face : List ℕ) : Type 0 where
  pub polygon : IsPolygon s
  pub found : List Coordinates
  pub corners : AreReducedFrom (corners_in_units unit s) found
  pub grows : new ≡ with_points old (from_least found)
  pub numbers : face ≡ map (vertex_number new) (from_least found)

-- the vertices and the faces of the text of these polygons
pub record AreNumberedFaces (unit : LengthUnit) (polygons : List Outline) (vertices : List Coordinates) (faces : List (List ℕ)) : Type 0 where
  pub all_polygons : All IsPolygon polygons
  pub found : List (List Coordinates)
  pub corners : AreCornersOf unit polygons found
  pub vertices_are : vertices ≡ vertices_of found
  pub faces_are : faces ≡ numbered_faces found

-- a vertex's number as a face's line has it
abbrev pub number_word : ℕ → List ℕ
number_word i = space ++ numeral i

-- the vertices of the text of these polygons, and the lines of its faces
pub record HaveLines (unit : LengthUnit) (polygons : List Outline) (vertices : List Coordinates) (lines : List ℕ) : Type 0 where
  pub faces : List (List ℕ)
  pub numbered : AreNumberedFaces unit polygons vertices faces
  pub lines_are : lines ≡ flat_map face_line faces
