-- What is asked of the points and faces of a polyhedron.
use Rattle.std.specs.Prelude.{◌≡◌, ℕ, ◌+◌, ◌<◌, ◌≤◌, ℤ, pos, unsigned_abs, List, length, map, All}
use Rattle.plane_predicate.specs.declared.unit.Unit.{Unit as LengthUnit}
use Rattle.plane_predicate.specs.Space.{Coefficients, point_at}
use Rattle.plane_predicate.specs.InUnits.{in_steps}
use Rattle.int_transform.specs.Maps.{coordinate_list}
use Rattle.primitives.specs.Shapes.{Mesh, value_at_point, HasTriangle, IsPlaneOfFace, IsOnOnePlane}
use Rattle.primitives.specs.DirectedEdges.{all_edges, AreMetBothWays, IsClockwise}

-- at most 128 points, and at most 64 faces of at most 64 corners each
pub record IsWithinLimits (points : List (List ℤ)) (faces : List (List ℕ)) : Type 0 where
  pub points_most : length points ≤ 128
  pub faces_most : length faces ≤ 64
  pub corners_most : All (λ f. length f ≤ 64) faces

-- at least 4 faces, of at least 3 corners each
pub record HasEnoughCorners (faces : List (List ℕ)) : Type 0 where
  pub faces_least : 4 ≤ length faces
  pub corners_least : All (λ f. 3 ≤ length f) faces

-- each corner of a face is a number below the given number of points
abbrev pub AreCornersThere : ℕ → List (List ℕ) → Type 0
AreCornersThere points faces = All (λ f. All (λ i. i < points) f) faces

-- a point that is written in units, in grid steps
abbrev pub grid_point_of : LengthUnit → List ℤ → List ℤ
grid_point_of unit p = coordinate_list (in_steps unit (point_at p))

-- points in units, counted in grid steps
abbrev pub grid_points_of : LengthUnit → List (List ℤ) → List (List ℤ)
grid_points_of unit points = map (grid_point_of unit) points

-- a face whose corners don't lie on one line, but on one plane
pub record IsFlatFace (points : List (List ℤ)) (face : List ℕ) : Type 0 where
  pub triangle : HasTriangle points face
  pub plane : Coefficients
  pub directed : 0 < unsigned_abs plane.a + unsigned_abs plane.b + unsigned_abs plane.c
  pub on : All (λ i. value_at_point points plane i ≡ pos 0) face

-- each way from one point to the next along a face is met exactly once in its direction and exactly once in the other
abbrev pub IsClosedMesh : List (List ℤ) → List (List ℕ) → Type 0
IsClosedMesh points faces = AreMetBothWays (all_edges points faces)

-- a plane through a face, from ahead of which the face goes round clockwise, with no point of a face ahead
pub record HasOuterPlane (mesh : Mesh) (face : List ℕ) : Type 0 where
  pub plane : Coefficients
  pub is : IsPlaneOfFace mesh face plane
  pub clockwise : IsClockwise mesh.points face plane

-- each face is convex, with no point of a face ahead of it, and not all points of the faces are on one plane
pub record IsConvexMesh (mesh : Mesh) : Type 0 where
  pub faces : All (HasOuterPlane mesh) mesh.faces
  pub solid : IsOnOnePlane mesh → ⊥
