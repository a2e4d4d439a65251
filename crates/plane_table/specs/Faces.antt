-- Faces over a list of planes: polygons whose planes are named by number.
use Rattle.std.specs.Prelude.{◌≡◌, ℕ, ◌+◌, ◌||◌, List, [], ◌∷◌, length, map, All}
use Rattle.plane_predicate.specs.Space.{Coefficients, Coordinates, value}
use Rattle.plane_predicate.specs.Sides.{side_of, is_side_ahead, is_side_behind}
use Rattle.plane_predicate.specs.declared.sides.Side.{Side}
use Rattle.plane_polygon.specs.Polygons.{Outline, corner, IsPolygon}
use Rattle.plane_polygon.specs.declared.classes.Class.TheVariants.{Across}
use Rattle.plane_polygon.specs.Parts.{class_by_sides, class_of, corners, is_behind, is_ahead}
use Rattle.plane_table.specs.declared.faces.Face.{Face}
use Rattle.plane_table.specs.declared.sorting.CornerSide.{CornerSide}
use Rattle.plane_table.specs.declared.sorting.CornerSides.{CornerSides}
use Rattle.plane_table.specs.Tables.{plane_named, NamesPlaneIn}

-- the outline of a face: the planes that its numbers name
abbrev pub outline_of : List Coefficients → Face → Outline
outline_of planes face = record { plane = plane_named planes face.plane; edges = map (plane_named planes) face.edges }

-- one for the face, and one for each of its edges
abbrev pub face_size : Face → ℕ
face_size face = 1 + length face.edges

-- each number of the face names a plane, and its outline is a polygon
pub record IsFaceOver (planes : List Coefficients) (face : Face) : Type 0 where
  pub plane : NamesPlaneIn planes face.plane
  pub edges : All (NamesPlaneIn planes) face.edges
  pub polygon : IsPolygon (outline_of planes face)

-- whether a point is strictly behind a plane, and whether it is strictly ahead of it
abbrev pub side_against : Coefficients → Coordinates → CornerSide
side_against m p = record { is_behind = is_behind m p; is_ahead = is_ahead m p }

-- the side of a plane on which corner i of a face lies
abbrev pub IsSideAt : List Coefficients → Face → Coefficients → ℕ → Side → Type 0
IsSideAt planes face m i side = side ≡ side_of (value m (corner (outline_of planes face) i))

-- how an outline lies against a plane, and on which side of the plane each of its corners lies
pub record AreSidesOf (s : Outline) (m : Coefficients) (sides : CornerSides) : Type 0 where
  pub class : sides.class ≡ class_of s m
  pub corners : sides.corners.items ≡ map (side_against m) (corners s)

-- how an outline lies against a plane, and, where it is across, on which side of the plane each of its corners lies
pub record AreSidesWhereAcross (s : Outline) (m : Coefficients) (sides : CornerSides) : Type 0 where
  pub class : sides.class ≡ class_of s m
  pub corners : sides.class ≡ Across → sides.corners.items ≡ map (side_against m) (corners s)

-- a corner on a side
abbrev pub corner_on : Side → CornerSide
corner_on side = record { is_behind = is_side_behind side; is_ahead = is_side_ahead side }

-- how a face lies whose four corners lie on these sides, in order
pub record AreFourSides (first second third fourth : Side) (sides : CornerSides) : Type 0 where
  pub class : sides.class ≡ class_by_sides (is_side_behind first || (is_side_behind second || (is_side_behind third || is_side_behind fourth)))
      (is_side_ahead first || (is_side_ahead second || (is_side_ahead third || is_side_ahead fourth)))
  pub corners : sides.class ≡ Across → sides.corners.items ≡ corner_on first ∷ corner_on second ∷ corner_on third ∷ corner_on fourth ∷ []
