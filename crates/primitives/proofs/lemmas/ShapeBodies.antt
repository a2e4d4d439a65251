-- Faces with a free side each, of which not all points are on one plane, have the body behind them.
use Rattle.std.proofs.Common.{◌≡◌, ◌⊎◌, inl, inr, ℕ, zero, suc, ◌<◌, List, [], ◌∷◌, length, get_or, refl, All, arith, ℤ, pos, negsuc, ◌<ℤ◌, ◌≤ℤ◌}
use Rattle.std.specs.List.{AllByRecursion}
use Rattle.std.proofs.lemmas.List.Elements.{All-from_recursion}
use Rattle.plane_predicate.specs.Space.{Coordinates, point_at, IsInReach}
use Rattle.plane_predicate.proofs.lemmas.IntegerRing.{sums}
use Rattle.plane_predicate.proofs.lemmas.Signs.{signs}
use Rattle.int_transform.specs.Maps.{HasSafeCoordinates}
use Rattle.primitives.specs.Shapes.{Mesh, value_at_point, HasBodyBehind, HasFreeSide, IsPlaneOfFace, IsPointInRange, IsShape, MakesShape}
use Rattle.primitives.specs.GridSizes.{IsWithinGridLimits}

-- a corner at which a number isn't 0
pub record IsOther (f : ℕ → ℤ) (face : List ℕ) : Type 0 where
  pub at : ℕ
  pub within : at < length face
  pub off : f (get_or face at 0) ≡ pos 0 → ⊥

is_zero : (x : ℤ) → (x ≡ pos 0) ⊎ (x ≡ pos 0 → ⊥)
is_zero (pos zero) = inl refl
is_zero (pos (suc n)) = inr (λ e. omega (arith, sums, e))
is_zero (negsuc n) = inr (λ e. omega (arith, sums, e))

other_corner : (f : ℕ → ℤ) (face : List ℕ) → AllByRecursion (λ i. f i ≡ pos 0) face ⊎ IsOther f face
other_corner f [] = inl tt
other_corner f (i ∷ face) = elim (is_zero (f i)) [
  | inr off ↦ inr (record { at = 0; within = omega arith; off = off })
  | inl here ↦ elim (other_corner f face) [ inl all ↦ inl (here, all) | inr o ↦ inr (record { at = suc o.at; within = omega (arith, o.within); off = o.off }) ]
]

-- a face with such a corner
pub record IsOtherFace (f : ℕ → ℤ) (faces : List (List ℕ)) : Type 0 where
  pub face : ℕ
  pub within : face < length faces
  pub corner : IsOther f (get_or faces face [])

other_face : (f : ℕ → ℤ) (faces : List (List ℕ)) → AllByRecursion (λ g. All (λ i. f i ≡ pos 0) g) faces ⊎ IsOtherFace f faces
other_face f [] = inl tt
other_face f (g ∷ faces) = elim (other_corner f g) [
  | inr o ↦ inr (record { face = 0; within = omega arith; corner = o })
  | inl here ↦ elim (other_face f faces) [
    | inl all ↦ inl (All-from_recursion (λ i. f i ≡ pos 0) g here, all)
    | inr o ↦ inr (record { face = suc o.face; within = omega (arith, o.within); corner = o.corner })
  ]
]

below_by : (x : ℤ) → x ≤ℤ pos 0 → (x ≡ pos 0 → ⊥) → x <ℤ pos 0
below_by x h n = elim (signs x) [ inl below ↦ below | inr other ↦ elim other [ inl none ↦ absurd (n none) | inr above ↦ absurd (omega (arith, sums, h, above)) ] ]

face_plane : (mesh : Mesh) → MakesShape mesh → (face : List ℕ) (s : HasFreeSide mesh.points face) → IsPlaneOfFace mesh face s.plane
face_plane mesh m face s = record { directed = s.directed; on = s.on; none_ahead = λ f d hf i e hi. s.none_ahead (get_or (get_or mesh.faces f d) i e) [] (m.there f d hf i e hi) }

has_body : (mesh : Mesh) → MakesShape mesh → (face : List ℕ) → HasFreeSide mesh.points face → HasBodyBehind mesh face
has_body mesh m face s = elim (other_face (value_at_point mesh.points s.plane) mesh.faces) [
  | inl all ↦ absurd (m.solid (record { plane = s.plane; directed = s.directed; on = All-from_recursion (λ g. All (λ i. value_at_point mesh.points s.plane i ≡ pos 0) g) mesh.faces all }))
  | inr o ↦ (
      let is = face_plane mesh m face s in
      record {
        plane = s.plane;
        is = is;
        at_face = o.face;
        at = o.corner.at;
        at_face_in = o.within;
        at_in = o.corner.within;
        behind = below_by (value_at_point mesh.points s.plane (get_or (get_or mesh.faces o.face []) o.corner.at 0)) (is.none_ahead o.face [] o.within o.corner.at 0 o.corner.within) o.corner.off;
      })
]

safe_by : (p : Coordinates) → IsPointInRange p → HasSafeCoordinates p
safe_by p h = record { x_size = omega (arith, h.x_size); y_size = omega (arith, h.y_size); z_size = omega (arith, h.z_size) }

pub same_mesh : (p q : List (List ℤ)) (f g : List (List ℕ)) → p ≡ q → f ≡ g → let m : Mesh = record { points = p; faces = f } in m ≡ record { points = q; faces = g }
same_mesh p q f g ep ef = λ i. record { points = ep i; faces = ef i }

-- what a shape keeps
pub shape_of : (mesh : Mesh) → MakesShape mesh → IsShape mesh
shape_of mesh m = record {
  some = m.some;
  faces = λ k d lt. record { there = m.there k d lt; triangle = m.triangles k d lt; body = has_body mesh m (get_or mesh.faces k d) (m.sides k d lt) };
  safe = λ k d lt. safe_by (point_at (get_or mesh.points k d)) (m.range k d lt);
}

-- points within reach, and in range, are on the grid
grid_by : (p : List ℤ) → IsInReach (point_at p) → IsWithinGridLimits (point_at p)
grid_by p h = record { x_size = omega (arith, h.x_size); y_size = omega (arith, h.y_size); z_size = omega (arith, h.z_size) }

pub reach_on_grid : (points : List (List ℤ)) → All (λ p. IsInReach (point_at p)) points → All (λ p. IsWithinGridLimits (point_at p)) points
reach_on_grid points h = λ k d lt. grid_by (get_or points k d) (h k d lt)

pub range_on_grid : (points : List (List ℤ)) → All (λ p. IsPointInRange (point_at p)) points → All (λ p. IsWithinGridLimits (point_at p)) points
range_on_grid points h = λ k d lt. (let r = h k d lt in record { x_size = omega (arith, r.x_size); y_size = omega (arith, r.y_size); z_size = omega (arith, r.z_size) })
