-- What shows that a shape is the hull of its points: no plane that none of its points is ahead of has a point inside on it or
-- ahead.
use Rattle.std.proofs.Common.{◌≡◌, ℕ, ◌<◌, List, [], length, get_or, subst, arith, ℤ, pos, ◌<ℤ◌, ◌≤ℤ◌, All}
use Rattle.std.proofs.lemmas.List.{get_or_default}
use Rattle.plane_predicate.specs.Space.{Coefficients, Coordinates, point_at, value}
use Rattle.plane_predicate.proofs.lemmas.IntegerRing.{sums}
use Rattle.primitives.specs.Shapes.{Mesh, mesh_point, value_at_point, IsPlaneOfFace, IsInside, IsShape}
use Rattle.primitives.proofs.lemmas.FacePlanes.{far, behind_each as behind_face}
use Rattle.scad_hull.specs.Combinations.{IsInnerCombination}
use Rattle.scad_hull.specs.Hulls.{AreOnOnePlane}
use Rattle.scad_hull.proofs.lemmas.Inner.{behind_each, inner}
use Rattle.scad_hull.proofs.lemmas.Turns.{Bounds}
use Rattle.shape_hulls.specs.OwnHulls.{AreAllCorners, IsHullOfItsPoints}

pub none_ahead : (mesh : Mesh) (face : List ℕ) (m : Coefficients) → IsPlaneOfFace mesh face m → AreAllCorners mesh → (i : ℕ) → i < length mesh.points → value_at_point mesh.points m i ≤ℤ pos 0
none_ahead mesh face m h all i lt = let c = all i lt in subst (λ (k : ℕ). value_at_point mesh.points m k ≤ℤ pos 0) c.is (h.none_ahead c.face [] c.face_in c.at 0 c.at_in)

-- what holds of points by their numbers holds of them whatever stands for points that aren't there
each_point : (points : List (List ℤ)) (m : Coefficients) → ((i : ℕ) → i < length points → value_at_point points m i ≤ℤ pos 0) → All (λ p. value m (point_at p) ≤ℤ pos 0) points
each_point points m h = λ k d lt. subst (λ (p : List ℤ). value m (point_at p) ≤ℤ pos 0) (get_or_default points k [] d lt) (h k lt)

most_none : (x : ℤ) → x ≡ pos 0 → x ≤ℤ pos 0
most_none x e = omega (arith, sums, e)

pub none_below : (x : ℤ) → x ≡ pos 0 → x <ℤ pos 0 → ⊥
none_below x e h = omega (arith, sums, e, h)

-- the points of a shape are not all on one plane
not_on_one_plane : (mesh : Mesh) → IsShape mesh → AreOnOnePlane mesh.points → ⊥
not_on_one_plane mesh s k =
    let face : List ℕ = get_or mesh.faces 0 [] in
    let is = s.faces 0 [] s.some in
    let on : (i : ℕ) → i < length mesh.points → value_at_point mesh.points k.plane i ≡ pos 0 = λ i lt. k.on i [] lt in
    let plane : IsPlaneOfFace mesh face k.plane = record {
      directed = k.directed;
      on = λ j d lt. on (get_or face j d) (is.there j d lt);
      none_ahead = λ f d hf j e hj. most_none _ (on (get_or (get_or mesh.faces f d) j e) ((s.faces f d hf).there j e hj));
    } in
    let p = far mesh face is in
    none_below (value_at_point mesh.points k.plane p) (on p ((s.faces is.body.at_face [] is.body.at_face_in).there is.body.at 0 is.body.at_in)) (behind_face mesh face is k.plane plane (mesh_point mesh.points p) is.body.behind)

-- an inner combination of a shape's points is inside it
combined_inside : (mesh : Mesh) → IsShape mesh → AreAllCorners mesh → (q : Coordinates) → pos 0 <ℤ q.w → IsInnerCombination mesh.points q → IsInside mesh q
combined_inside mesh s all q hw c k d lt =
    let face : List ℕ = get_or mesh.faces k d in
    let is = s.faces k d lt in
    let b = is.body in
    record {
      plane = b.plane;
      is = b.is;
      behind = behind_each mesh.points q hw c b.plane (each_point mesh.points b.plane (none_ahead mesh face b.plane b.is all)) (far mesh face is) ((s.faces b.at_face [] b.at_face_in).there b.at 0 b.at_in) b.behind;
    }

pub hull_by : (mesh : Mesh) → IsShape mesh → AreAllCorners mesh → ((q : Coordinates) → pos 0 <ℤ q.w → IsInside mesh q → (m : Coefficients) → Bounds (mesh_point mesh.points) (length mesh.points) q m → ⊥) → IsHullOfItsPoints mesh
hull_by mesh s all apart = record {
  inside = λ q hw. (
    λ h. inner mesh.points q (not_on_one_plane mesh s) (λ i j k hi hj hk off m b ei ej ek. apart q hw h m b),
    λ c. combined_inside mesh s all q hw c,
  );
}
