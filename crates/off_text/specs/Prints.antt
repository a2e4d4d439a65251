-- Texts whose faces are polygons.
use Rattle.std.specs.Prelude.{◌≡◌, ◌↔◌, ℕ, ◌<◌, List, [], ◌∷◌, length}
use Rattle.plane_predicate.specs.declared.unit.Unit.{Unit as LengthUnit}
use Rattle.plane_predicate.specs.Space.{Coefficients, Coordinates, IsPlane, IsPointTimes}
use Rattle.plane_predicate.specs.InUnits.{in_steps, in_units}
use Rattle.plane_polygon.specs.Polygons.{Outline, edge_count, corner as corner_of, IsStrictlyWithin}
use Rattle.plane_polygon.specs.Parts.{corners as all_corners}
use Rattle.closed_surface.specs.Closed.{corners_at}
use Rattle.closed_surface.specs.Printing.{IsRoundOf}
use Rattle.off_text.specs.Reading.{IsOffText}
use Rattle.off_text.specs.Boundaries.{face_corner, FacesPlane, FaceCovers}
use Rattle.off_text.specs.Vertices.{AreVerticesOf}

-- the point is a corner of the polygon in units, by numbers of its own
pub record IsPrintedCornerOf (unit : LengthUnit) (s : Outline) (p : Coordinates) : Type 0 where
  pub place : ℕ
  pub within : place < edge_count s
  pub times : IsPointTimes (in_units unit (corner_of s place)) p

-- the printed face covers exactly the points strictly within the polygon, facing no other plane
abbrev pub CoversPolygon : LengthUnit → List Coordinates → Outline → List ℕ → Type 0
CoversPolygon unit vertices s face = (n : Coefficients) (p : Coordinates) → IsPlane s.plane → IsPlane n → FaceCovers unit vertices n p face ↔ ((s.plane ≡ n) × IsStrictlyWithin s (in_steps unit p))

-- the printed face is the polygon: its corners are the polygon's, in order from one of them on, it faces the polygon's plane,
-- and it covers exactly the points strictly within the polygon, facing no other plane
pub record IsPrintedFaceOf (unit : LengthUnit) (vertices : List Coordinates) (s : Outline) (face : List ℕ) : Type 0 where
  pub corners : (i : ℕ) → i < length face → IsPrintedCornerOf unit s (face_corner vertices face i)
  pub round : IsRoundOf unit (all_corners s) (corners_at vertices face)
  pub facing : FacesPlane unit vertices s.plane face
  pub covering : CoversPolygon unit vertices s face

-- each printed face is the polygon at its place
abbrev pub ArePrintedFacesOf : LengthUnit → List Coordinates → List Outline → List (List ℕ) → Type 0
ArePrintedFacesOf unit vertices [] [] = Unit {0}
ArePrintedFacesOf unit vertices (s ∷ polygons) (face ∷ faces) = IsPrintedFaceOf unit vertices s face × ArePrintedFacesOf unit vertices polygons faces
ArePrintedFacesOf unit vertices [] (face ∷ faces) = ⊥
ArePrintedFacesOf unit vertices (s ∷ polygons) [] = ⊥

-- each printed face covers the points of the polygon at its place
abbrev pub CoverPolygons : LengthUnit → List Coordinates → List Outline → List (List ℕ) → Type 0
CoverPolygons unit vertices [] [] = Unit {0}
CoverPolygons unit vertices (s ∷ polygons) (face ∷ faces) = CoversPolygon unit vertices s face × CoverPolygons unit vertices polygons faces
CoverPolygons unit vertices [] (face ∷ faces) = ⊥
CoverPolygons unit vertices (s ∷ polygons) [] = ⊥

-- the bytes are a 4OFF text whose faces are these polygons, one after another. Its vertices are different points, each a corner
-- of a face
pub record Prints (unit : LengthUnit) (polygons : List Outline) (bytes : List ℕ) : Type 0 where
  pub vertices : List Coordinates
  pub faces : List (List ℕ)
  pub read : IsOffText bytes vertices faces
  pub own_vertices : AreVerticesOf faces vertices
  pub drawn : ArePrintedFacesOf unit vertices polygons faces
