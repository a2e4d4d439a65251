-- Solids whose faces are bounded.
use Rattle.std.proofs.Common.{◌≡◌, ℕ, ◌+◌, ◌<◌, List, [], get_or, length, refl, sym, ap, ◌∙◌, subst, All, arith, ℤ, pos, ◌*ℤ◌, unsigned_abs}
use Rattle.plane_predicate.specs.Space.{Coefficients, Coordinates, point_at, value}
use Rattle.int_transform.specs.Maps.{HasSafeCoordinates}
use Rattle.primitives.specs.Shapes.{Mesh, mesh_point, value_at_point, HasBodyBehind, HasTriangle, IsShape}
use Rattle.primitives.proofs.lemmas.Moves.{cancelled}
use Rattle.plane_predicate.proofs.lemmas.IntegerRing.{mul_comm_ℤ, zero_mul}
use Rattle.primitives.proofs.lemmas.OnePlane.{nowhere, not_zero_below}
use Rattle.primitives.specs.Bounding.{IsFaceOfBody}
use Rattle.std.proofs.lemmas.List.{length-map}
use Rattle.plane_predicate.specs.declared.unit.Unit.{Unit as LengthUnit}
use Rattle.primitives.specs.Polyhedra.{polyhedron_of, IsPolyhedron}
use Rattle.primitives.proofs.PolyhedronGrids.{are_on_grid}
use Rattle.primitives.specs.Checks.{grid_point_of, AreCornersThere, IsConvexMesh, IsFlatFace}
use Rattle.primitives.specs.GridSizes.{IsWithinGridLimits}
use Rattle.primitives.specs.CornerPlanes.{IsCornerPlane}
use Rattle.primitives.proofs.lemmas.ThroughCorners.{no_size, proportion, spanned, spanned_directed, spanned_holds}

spans_triangle : (points : List (List ℤ)) (face : List ℕ) (t : HasTriangle points face) → IsCornerPlane points face (spanned points face t.first t.second t.third)
spans_triangle points face t = record { first = t.first; second = t.second; third = t.third; first_in = t.first_in; second_in = t.second_in; third_in = t.third_in; is = refl; apart = t.apart }

-- a face with the body behind it: not all points of the faces are on one plane
not_one_plane : (mesh : Mesh) (face : List ℕ) → HasTriangle mesh.points face → HasBodyBehind mesh face → (k : Coefficients) → 0 < unsigned_abs k.a + unsigned_abs k.b + unsigned_abs k.c → All (λ (i : ℕ). value_at_point mesh.points k i ≡ pos 0) face →
    All (λ (f : List ℕ). All (λ (i : ℕ). value_at_point mesh.points k i ≡ pos 0) f) mesh.faces → ⊥
not_one_plane mesh face t b k directed on all =
    let n = spanned mesh.points face t.first t.second t.third in
    let s = spans_triangle mesh.points face t in
    let q = mesh_point mesh.points (get_or (get_or mesh.faces b.at_face []) b.at 0) in
    let zero_at : value n q ≡ pos 0 = spanned_holds mesh.points face k n directed on s q (all b.at_face [] b.at_face_in b.at 0 b.at_in) in
    let everywhere : (p : Coordinates) → value n p ≡ pos 0 = λ p.
    cancelled (value b.plane q) (value n p) (not_zero_below (value b.plane q) b.behind) (sym (proportion mesh.points face b.plane n b.is.on s p q) ∙ ap (λ (z : ℤ). value b.plane p *ℤ z) zero_at ∙ mul_comm_ℤ (value b.plane p) (pos 0) ∙ zero_mul (value b.plane p)) in
    let none = nowhere n everywhere in
    no_size n.a n.b n.c (spanned_directed mesh.points face n s) none.0 none.1 none.2

pub convex_by : (mesh : Mesh) → 0 < length mesh.faces → All (IsFlatFace mesh.points) mesh.faces → All (IsFaceOfBody mesh) mesh.faces → IsConvexMesh mesh
convex_by mesh some flat h = record {
  faces = λ k d lt. (h k d lt).outer;
  solid = λ p. not_one_plane mesh (get_or mesh.faces 0 []) (flat 0 [] some).triangle (h 0 [] some).body p.plane p.directed (p.on 0 [] some) p.on;
}

safe_by : (p : Coordinates) → IsWithinGridLimits p → HasSafeCoordinates p
safe_by p h = record { x_size = omega (arith, h.x_size); y_size = omega (arith, h.y_size); z_size = omega (arith, h.z_size) }

-- what a shape keeps
pub shape_by : (mesh : Mesh) → 0 < length mesh.faces → AreCornersThere (length mesh.points) mesh.faces → All (λ (p : List ℤ). IsWithinGridLimits (point_at p)) mesh.points → All (IsFlatFace mesh.points) mesh.faces → All (HasBodyBehind mesh) mesh.faces → IsShape mesh
shape_by mesh some there grid flat body = record {
  some = some;
  faces = λ k d lt. record { there = there k d lt; triangle = (flat k d lt).triangle; body = body k d lt };
  safe = λ k d lt. safe_by (point_at (get_or mesh.points k d)) (grid k d lt);
}

pub shape_of : (unit : LengthUnit) (points : List (List ℤ)) (faces : List (List ℕ)) → IsPolyhedron unit points faces → All (HasBodyBehind (polyhedron_of unit points faces)) faces → IsShape (polyhedron_of unit points faces)
shape_of unit points faces h body =
    shape_by (polyhedron_of unit points faces) (omega (arith, h.written.corners.faces_least))
    (subst (λ (n : ℕ). AreCornersThere n faces) (sym (length-map points (grid_point_of unit))) h.written.there)
    (are_on_grid unit points h.written.range) h.surface.flat body
