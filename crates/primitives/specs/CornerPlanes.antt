-- Planes through three corners of a face.
use Rattle.std.specs.Prelude.{◌≡◌, ℕ, ◌<◌, ℤ, List, get_or, length}
use Rattle.plane_predicate.specs.Space.{Coefficients, plane_of_points, AreCollinear}
use Rattle.primitives.specs.Shapes.{mesh_point}

-- the plane is that of three corners of the face, which are not on one line: the very numbers that they give
pub record IsCornerPlane (points : List (List ℤ)) (face : List ℕ) (m : Coefficients) : Type 0 where
  pub first : ℕ
  pub second : ℕ
  pub third : ℕ
  pub first_in : first < length face
  pub second_in : second < length face
  pub third_in : third < length face
  pub is : m ≡ plane_of_points (mesh_point points (get_or face first 0)) (mesh_point points (get_or face second 0)) (mesh_point points (get_or face third 0))
  pub apart : AreCollinear (mesh_point points (get_or face first 0)) (mesh_point points (get_or face second 0)) (mesh_point points (get_or face third 0)) → ⊥
