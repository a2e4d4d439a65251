-- Faces by the numbers of their vertices, and their lines.
use Rattle.std.specs.Prelude.{◌≡◌, ℕ, List, [], ◌∷◌, ◌++◌, map, flat_map, length, take, drop}
use Rattle.plane_predicate.specs.declared.unit.Unit.{Unit as LengthUnit}
use Rattle.plane_predicate.specs.Space.{Coordinates}
use Rattle.plane_polygon.specs.Polygons.{Outline}
use Rattle.off_text.specs.declared.numbering.FaceNumbers.{FaceNumbers}
use Rattle.off_text.specs.Reading.{face_line}
use Rattle.off_text.specs.Texts.{vertex_number}
use Rattle.off_text.specs.Numbering.{AddsFace, AreNumberedFaces}

-- how many corners each face has
abbrev pub corner_counts : List (List ℕ) → List ℕ
corner_counts faces = map (λ face. length face) faces

-- the numbers of all corners, one face after another
abbrev pub all_numbers : List (List ℕ) → List ℕ
all_numbers faces = flat_map (λ face. face) faces

-- the numbers of points among numbered vertices
abbrev pub vertex_numbers : List Coordinates → List Coordinates → List ℕ
vertex_numbers vertices points = map (vertex_number vertices) points

-- a polygon's corners are numbered too, and its face goes last
pub record AddsNumbers (unit : LengthUnit) (s : Outline) (old new : List Coordinates) (before after : FaceNumbers) : Type 0 where
  pub face : List ℕ
  pub adds : AddsFace unit s old new face
  pub sides : after.sides.items ≡ before.sides.items ++ length face ∷ []
  pub numbers : after.numbers.items ≡ before.numbers.items ++ face

-- the vertices of the text of these polygons, and the numbers of its faces
pub record HaveNumbers (unit : LengthUnit) (polygons : List Outline) (vertices : List Coordinates) (all : FaceNumbers) : Type 0 where
  pub faces : List (List ℕ)
  pub numbered : AreNumberedFaces unit polygons vertices faces
  pub sides : all.sides.items ≡ corner_counts faces
  pub numbers : all.numbers.items ≡ all_numbers faces

-- the lines of faces that have the given number of corners, one face after another, by these numbers of vertices
abbrev pub lines_from : List ℕ → List ℕ → List ℕ
lines_from [] numbers = []
lines_from (count ∷ sides) numbers = face_line (take count numbers) ++ lines_from sides (drop count numbers)

-- the lines of faces
abbrev pub lines_of : FaceNumbers → List ℕ
lines_of faces = lines_from faces.sides.items faces.numbers.items
