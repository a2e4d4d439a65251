-- Shapes as points and faces, and the planes of their faces.
use Rattle.std.specs.Prelude.{◌≡◌, ℕ, ◌+◌, ◌<◌, ◌≤◌, ℤ, pos, ◌<ℤ◌, ◌≤ℤ◌, unsigned_abs, List, [], get_or, length, All}
use Rattle.plane_predicate.specs.Space.{Coefficients, Coordinates, point_at, value, AreCollinear}
use Rattle.int_transform.specs.Maps.{HasSafeCoordinates}

-- points, and faces as lists of numbers of points, from 0
pub record Mesh : Type 0 where
  pub points : List (List ℤ)
  pub faces : List (List ℕ)

-- the point with this number
abbrev pub mesh_point : List (List ℤ) → ℕ → Coordinates
mesh_point points i = point_at (get_or points i [])

-- the value of a plane at the point with this number
abbrev pub value_at_point : List (List ℤ) → Coefficients → ℕ → ℤ
value_at_point points m i = value m (mesh_point points i)

-- the plane of a face goes through the face's points and is turned so that no point of any face is ahead of it
pub record IsPlaneOfFace (mesh : Mesh) (face : List ℕ) (m : Coefficients) : Type 0 where
  pub directed : 0 < unsigned_abs m.a + unsigned_abs m.b + unsigned_abs m.c
  pub on : All (λ i. value_at_point mesh.points m i ≡ pos 0) face
  pub none_ahead : All (λ f. All (λ i. value_at_point mesh.points m i ≤ℤ pos 0) f) mesh.faces

-- a point is strictly behind the plane of a face
pub record IsBehindFace (mesh : Mesh) (p : Coordinates) (face : List ℕ) : Type 0 where
  pub plane : Coefficients
  pub is : IsPlaneOfFace mesh face plane
  pub behind : value plane p <ℤ pos 0

-- a point inside a shape is strictly behind the plane of each face
abbrev pub IsInside : Mesh → Coordinates → Type 0
IsInside mesh p = All (IsBehindFace mesh p) mesh.faces

-- three corners of a face that are not on one line, by their places in the face
pub record HasTriangle (points : List (List ℤ)) (face : List ℕ) : Type 0 where
  pub first : ℕ
  pub second : ℕ
  pub third : ℕ
  pub first_in : first < length face
  pub second_in : second < length face
  pub third_in : third < length face
  pub apart : AreCollinear (mesh_point points (get_or face first 0)) (mesh_point points (get_or face second 0)) (mesh_point points (get_or face third 0)) → ⊥

-- a face plane that some point of a face is strictly behind
pub record HasBodyBehind (mesh : Mesh) (face : List ℕ) : Type 0 where
  pub plane : Coefficients
  pub is : IsPlaneOfFace mesh face plane
  pub at_face : ℕ
  pub at : ℕ
  pub at_face_in : at_face < length mesh.faces
  pub at_in : at < length (get_or mesh.faces at_face [])
  pub behind : value_at_point mesh.points plane (get_or (get_or mesh.faces at_face []) at 0) <ℤ pos 0

-- a face of a shape: its points are there and not on one line, and it has a plane with the body behind it
pub record IsFaceOfShape (mesh : Mesh) (face : List ℕ) : Type 0 where
  pub there : All (λ i. i < length mesh.points) face
  pub triangle : HasTriangle mesh.points face
  pub body : HasBodyBehind mesh face

-- what a shape keeps: at least one face, and coordinates at most 2^53 - 1 in size
pub record IsShape (mesh : Mesh) : Type 0 where
  pub some : 0 < length mesh.faces
  pub faces : All (IsFaceOfShape mesh) mesh.faces
  pub safe : All (λ p. HasSafeCoordinates (point_at p)) mesh.points

-- coordinates at most 65,535 in size
pub record IsPointInRange (p : Coordinates) : Type 0 where
  pub x_size : unsigned_abs p.x ≤ 65535
  pub y_size : unsigned_abs p.y ≤ 65535
  pub z_size : unsigned_abs p.z ≤ 65535

-- all points of the faces are on one plane
pub record IsOnOnePlane (mesh : Mesh) : Type 0 where
  pub plane : Coefficients
  pub directed : 0 < unsigned_abs plane.a + unsigned_abs plane.b + unsigned_abs plane.c
  pub on : All (λ f. All (λ i. value_at_point mesh.points plane i ≡ pos 0) f) mesh.faces

-- a plane through a face, on whose one side no point lies strictly
pub record HasFreeSide (points : List (List ℤ)) (face : List ℕ) : Type 0 where
  pub plane : Coefficients
  pub directed : 0 < unsigned_abs plane.a + unsigned_abs plane.b + unsigned_abs plane.c
  pub on : All (λ i. value_at_point points plane i ≡ pos 0) face
  pub none_ahead : All (λ p. value plane (point_at p) ≤ℤ pos 0) points

-- points and faces that make a shape: coordinates at most 65,535 in size, some face, corners that are there and not on one
-- line, each face with all points on one side, and not all on one plane
pub record MakesShape (mesh : Mesh) : Type 0 where
  pub range : All (λ p. IsPointInRange (point_at p)) mesh.points
  pub some : 0 < length mesh.faces
  pub there : All (λ f. All (λ i. i < length mesh.points) f) mesh.faces
  pub triangles : All (HasTriangle mesh.points) mesh.faces
  pub sides : All (HasFreeSide mesh.points) mesh.faces
  pub solid : IsOnOnePlane mesh → ⊥
