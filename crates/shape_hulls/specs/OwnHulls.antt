-- Shapes as the hulls of their points, before and after they are placed.
use Rattle.std.specs.Prelude.{◌≡◌, ◌↔◌, ℕ, ◌<◌, ℤ, pos, ◌<ℤ◌, List, [], get_or, length, map, flat_map, All}
use Rattle.plane_predicate.specs.Space.{Coefficients, Coordinates}
use Rattle.int_transform.specs.declared.affine.Affine.{Affine}
use Rattle.primitives.specs.Placing.{moved_mesh, ArePlanesOf}
use Rattle.primitives.specs.Shapes.{Mesh, IsFaceOfShape, IsInside, IsShape}
use Rattle.scad_hull.specs.Combinations.{IsInnerCombination}

-- a point is inside the shape exactly where it is a combination of the shape's points with weights above 0: the shape is
-- their convex hull, without its boundary
pub record IsHullOfItsPoints (mesh : Mesh) : Type 0 where
  pub inside : (q : Coordinates) → pos 0 <ℤ q.w → IsInside mesh q ↔ IsInnerCombination mesh.points q

-- the points of the faces: each corner of each face, in order. A point that is listed and no corner of a face isn't among them
abbrev pub corner_points : Mesh → List (List ℤ)
corner_points mesh = flat_map (λ f. map (λ i. get_or mesh.points i []) f) mesh.faces

-- a point is inside the shape exactly where it is a combination of its faces' points with weights above 0: the shape is
-- their convex hull, without its boundary
pub record IsHullOfItsCorners (mesh : Mesh) : Type 0 where
  pub inside : (q : Coordinates) → pos 0 <ℤ q.w → IsInside mesh q ↔ IsInnerCombination (corner_points mesh) q

-- a point that is a corner of some face
pub record IsFaceCorner (faces : List (List ℕ)) (i : ℕ) : Type 0 where
  pub face : ℕ
  pub at : ℕ
  pub face_in : face < length faces
  pub at_in : at < length (get_or faces face [])
  pub is : get_or (get_or faces face []) at 0 ≡ i

-- each point of a mesh is a corner of some face
abbrev pub AreAllCorners : Mesh → Type 0
AreAllCorners mesh = (i : ℕ) → i < length mesh.points → IsFaceCorner mesh.faces i

-- the planes of a shape where a map places it, which leaves its faces faces of a body
pub record ArePlacedPlanes (mesh : Mesh) (f : Affine) (planes : List Coefficients) : Type 0 where
  pub shape : IsShape mesh
  pub solid : All (IsFaceOfShape (moved_mesh f mesh)) mesh.faces
  pub planes_are : ArePlanesOf (moved_mesh f mesh) mesh.faces planes
