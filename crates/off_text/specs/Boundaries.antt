-- What the faces of a 4OFF text face and cover, and how many of them. Vertices and points are in units, and planes in grid
-- steps.
use Rattle.std.specs.Prelude.{◌≡◌, ◌≢◌, ℕ, ◌<◌, Bool, true, false, List, [], length, slice_index, slice_index_or, pos, ◌<ℤ◌}
use Rattle.plane_predicate.specs.declared.unit.Unit.{Unit as LengthUnit}
use Rattle.plane_predicate.specs.Space.{Coefficients, Coordinates, value, orientation_seen_from, origin}
use Rattle.plane_predicate.specs.InUnits.{in_steps}
use Rattle.plane_predicate.specs.Indices.{index_after}

-- corner i of a face, counted from 0
abbrev pub face_corner : List Coordinates → List ℕ → ℕ → Coordinates
face_corner vertices face i = slice_index_or vertices (slice_index face i) origin

-- the same corner in grid steps
abbrev pub grid_corner : LengthUnit → List Coordinates → List ℕ → ℕ → Coordinates
grid_corner unit vertices face i = in_steps unit (face_corner vertices face i)

-- the face faces n: its corners are on n, and each other corner lies strictly left of each way from a corner to the next
pub record FacesPlane (unit : LengthUnit) (vertices : List Coordinates) (n : Coefficients) (face : List ℕ) : Type 0 where
  pub on : (i : ℕ) → i < length face → value n (grid_corner unit vertices face i) ≡ pos 0
  pub left : (i j : ℕ) → i < length face → j < length face → j ≢ i → j ≢ index_after (length face) i →
      pos 0 <ℤ orientation_seen_from n (grid_corner unit vertices face i) (grid_corner unit vertices face (index_after (length face) i)) (grid_corner unit vertices face j)

-- the face faces n and covers the point: the point is on n, and strictly left of each way from a corner to the next
pub record FaceCovers (unit : LengthUnit) (vertices : List Coordinates) (n : Coefficients) (p : Coordinates) (face : List ℕ) : Type 0 where
  pub faces : FacesPlane unit vertices n face
  pub on : value n (in_steps unit p) ≡ pos 0
  pub left : (i : ℕ) → i < length face → pos 0 <ℤ orientation_seen_from n (grid_corner unit vertices face i) (grid_corner unit vertices face (index_after (length face) i)) (in_steps unit p)

-- exactly one of the faces has it
pub record ExactlyOne (P : List ℕ → Type 0) (faces : List (List ℕ)) : Type 0 where
  pub index : ℕ
  pub within : index < length faces
  pub has : P (slice_index_or faces index [])
  pub only : (i : ℕ) → i < length faces → P (slice_index_or faces i []) → i ≡ index

-- none of the faces has it
abbrev pub NoneHas : (List ℕ → Type 0) → List (List ℕ) → Type 0
NoneHas P faces = (i : ℕ) → i < length faces → P (slice_index_or faces i []) → ⊥

-- exactly one where the test is true, and none where it is false
abbrev pub OneExactlyWhere : Bool → (List ℕ → Type 0) → List (List ℕ) → Type 0
OneExactlyWhere true P faces = ExactlyOne P faces
OneExactlyWhere false P faces = NoneHas P faces
