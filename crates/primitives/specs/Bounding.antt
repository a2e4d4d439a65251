-- Faces that bound a convex solid.
use Rattle.std.specs.Prelude.{ℕ, pos, ◌<ℤ◌, ◌≤ℤ◌, List, All, Any}
use Rattle.plane_predicate.specs.Space.{Coefficients, opposite_of}
use Rattle.primitives.specs.Shapes.{Mesh, value_at_point, HasBodyBehind}
use Rattle.primitives.specs.Checks.{HasOuterPlane}
use Rattle.primitives.specs.DirectedEdges.{IsClockwise}

-- from ahead of a plane the face goes round clockwise, no point of a face is ahead of it, and some point is ahead of
-- its opposite
pub record IsOuterPlane (mesh : Mesh) (face : List ℕ) (m : Coefficients) : Type 0 where
  pub none_ahead : All (λ f. All (λ i. value_at_point mesh.points m i ≤ℤ pos 0) f) mesh.faces
  pub some_behind : Any (λ f. Any (λ i. pos 0 <ℤ value_at_point mesh.points (opposite_of m) i) f) mesh.faces
  pub clockwise : IsClockwise mesh.points face m

-- a face that is convex and has the body behind it
pub record IsFaceOfBody (mesh : Mesh) (face : List ℕ) : Type 0 where
  pub outer : HasOuterPlane mesh face
  pub body : HasBodyBehind mesh face
