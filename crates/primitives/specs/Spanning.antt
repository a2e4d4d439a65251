-- Corners of a face that are not on one line, and planes through them.
use Rattle.std.specs.Prelude.{◌≡◌, ℕ, ◌<◌, ℤ, pos, List, get_or, length}
use Rattle.plane_predicate.specs.Space.{Coefficients, plane_of_points, AreCollinear, IsPlaneTimes}
use Rattle.primitives.specs.declared.spanning.Triangle.{Triangle}
use Rattle.primitives.specs.Shapes.{mesh_point}

-- three corners of the face, which are not on one line, give the numbers of this plane, all times one number above 0
pub record SpansFace (points : List (List ℤ)) (face : List ℕ) (m : Coefficients) : Type 0 where
  pub first : ℕ
  pub second : ℕ
  pub third : ℕ
  pub first_in : first < length face
  pub second_in : second < length face
  pub third_in : third < length face
  pub times : IsPlaneTimes (plane_of_points (mesh_point points (get_or face first 0)) (mesh_point points (get_or face second 0)) (mesh_point points (get_or face third 0))) m
  pub apart : AreCollinear (mesh_point points (get_or face first 0)) (mesh_point points (get_or face second 0)) (mesh_point points (get_or face third 0)) → ⊥

-- three corners of the face that are not on one line, by their places in the face
pub record IsTriangle (points : List (List ℤ)) (face : List ℕ) (t : Triangle) : Type 0 where
  pub first_in : t.first < length face
  pub second_in : t.second < length face
  pub third_in : t.third < length face
  pub apart : AreCollinear (mesh_point points (get_or face t.first 0)) (mesh_point points (get_or face t.second 0)) (mesh_point points (get_or face t.third 0)) → ⊥

-- a corner of the face that is not on one line with the first corner and a second one, by their places in the face
pub record IsThird (points : List (List ℤ)) (face : List ℕ) (second third : ℕ) : Type 0 where
  pub within : third < length face
  pub apart : AreCollinear (mesh_point points (get_or face 0 0)) (mesh_point points (get_or face second 0)) (mesh_point points (get_or face third 0)) → ⊥

-- the direction of a plane is 0
pub record HasNoDirection (m : Coefficients) : Type 0 where
  pub a : m.a ≡ pos 0
  pub b : m.b ≡ pos 0
  pub c : m.c ≡ pos 0
