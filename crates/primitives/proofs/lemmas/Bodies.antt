-- What shows that a face is one of a shape.
use Rattle.std.proofs.Common.{◌≡◌, ℕ, ◌+◌, ◌<◌, List, [], length, get_or, pos, ◌<ℤ◌, ◌≤ℤ◌, unsigned_abs, All}
use Rattle.plane_predicate.specs.Space.{Coefficients}
use Rattle.primitives.specs.Shapes.{Mesh, value_at_point, HasTriangle, IsFaceOfShape}

-- a point of a face that is strictly behind a plane
pub record HasFar (mesh : Mesh) (m : Coefficients) : Type 0 where
  pub at_face : ℕ
  pub at : ℕ
  pub at_face_in : at_face < length mesh.faces
  pub at_in : at < length (get_or mesh.faces at_face [])
  pub behind : value_at_point mesh.points m (get_or (get_or mesh.faces at_face []) at 0) <ℤ pos 0

-- a face with a plane that no point at all is ahead of
pub record IsOutside (mesh : Mesh) (face : List ℕ) : Type 0 where
  pub there : All (λ (i : ℕ). i < length mesh.points) face
  pub triangle : HasTriangle mesh.points face
  pub plane : Coefficients
  pub directed : 0 < unsigned_abs plane.a + unsigned_abs plane.b + unsigned_abs plane.c
  pub on : All (λ (i : ℕ). value_at_point mesh.points plane i ≡ pos 0) face
  pub within : (i : ℕ) → i < length mesh.points → value_at_point mesh.points plane i ≤ℤ pos 0
  pub far : HasFar mesh plane

pub outside_is_face : (mesh : Mesh) → All (λ (f : List ℕ). All (λ (i : ℕ). i < length mesh.points) f) mesh.faces → (face : List ℕ) → IsOutside mesh face → IsFaceOfShape mesh face
outside_is_face mesh there face h = record {
  there = h.there;
  triangle = h.triangle;
  body = record {
    plane = h.plane;
    is = record { directed = h.directed; on = h.on; none_ahead = λ k d lt. λ j e in_face. h.within _ (there k d lt j e in_face) };
    at_face = h.far.at_face;
    at = h.far.at;
    at_face_in = h.far.at_face_in;
    at_in = h.far.at_in;
    behind = h.far.behind;
  };
}
