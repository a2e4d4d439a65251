-- A polyhedron is the hull of its faces' points: a point behind all faces that a plane has on it or ahead, with no point of a
-- face ahead, would see the closed surface projected onto a plane, where its faces turn one way and their sum is 0.
use Rattle.std.proofs.Common.{◌≡◌, ℕ, zero, suc, ◌+◌, ◌<◌, List, [], ◌∷◌, length, get_or, flat_map, refl, sym, ap, ◌∙◌, subst, arith, ℤ, pos, negsuc, ◌+ℤ◌, ◌-ℤ◌, ◌*ℤ◌, ◌<ℤ◌, ◌≤ℤ◌, unsigned_abs, All}
use Rattle.std.specs.List.{AllByRecursion}
use Rattle.std.proofs.lemmas.List.{get_or_default}
use Rattle.std.proofs.lemmas.List.Elements.{recursion_from_All, All-from_recursion}
use Rattle.plane_predicate.specs.declared.unit.Unit.{Unit as LengthUnit}
use Rattle.plane_predicate.specs.Space.{Coefficients, Coordinates, inner_product, point_at, value}
use Rattle.plane_predicate.proofs.lemmas.IntegerRing.{sums}
use Rattle.plane_predicate.proofs.lemmas.Polynomials.{var, num, plus, times, minus, ring}
use Rattle.plane_predicate.proofs.lemmas.SamePlanes.{directed_above}
use Rattle.plane_predicate.proofs.lemmas.Signs.{signs, least_least, least_most, most_most}
use Rattle.primitives.specs.declared.ways.DirectedEdge.{DirectedEdge}
use Rattle.primitives.specs.Checks.{HasOuterPlane}
use Rattle.primitives.specs.Polyhedra.{polyhedron_of, IsPolyhedron, IsSurface}
use Rattle.primitives.specs.Shapes.{mesh_point, value_at_point, Mesh, IsBehindFace, IsInside, IsShape}
use Rattle.primitives.specs.DirectedEdges.{all_edges, edges_of_mesh_face}
use Rattle.primitives.proofs.lemmas.FacePlanes.{behind_body, behind_each as behind_face}
use Rattle.primitives.proofs.lemmas.OnePlane.{some_direction}
use Rattle.primitives.proofs.lemmas.ConvexShapes.{polyhedron_is_shape}
use Rattle.scad_hull.specs.Combinations.{IsInnerCombination}
use Rattle.scad_hull.specs.Hulls.{AreOnOnePlane}
use Rattle.scad_hull.proofs.lemmas.Alternative.{point_less, value_point_less}
use Rattle.scad_hull.proofs.lemmas.Inner.{behind_each, inner}
use Rattle.scad_hull.proofs.lemmas.Members.{all_weaker}
use Rattle.scad_hull.proofs.lemmas.Turns.{Bounds}
use Rattle.shape_hulls.specs.OwnHulls.{corner_points, AreAllCorners, IsHullOfItsCorners, IsHullOfItsPoints}
use Rattle.plane_predicate.specs.Sums.{sum_over}
use Rattle.shape_hulls.proofs.Axes.{no_times}
use Rattle.closed_faces.proofs.lemmas.Edges.{all_ways_total, once_each}
use Rattle.shape_hulls.proofs.FacePoints.{at_corners, bounded, each_point, place_in, place_is, place_of, AtCorners}
use Rattle.shape_hulls.proofs.Insides.{hull_by}
use Rattle.shape_hulls.proofs.Projected.{face_turns, least_face, spin_back, turn_of, IsSeen, IsView}
use Rattle.shape_hulls.proofs.Seen.{depth}
use Rattle.shape_hulls.proofs.Shares.{scale, HasScale}
use Rattle.closed_faces.proofs.lemmas.Sums.{first_zero, total_flat}

-- no point of a face is ahead of a plane
abbrev HasNoneAhead : Mesh → Coefficients → Type 0
HasNoneAhead mesh m = AtCorners mesh (λ p. value m (point_at p) ≤ℤ pos 0)

-- ---- the view of one face
deep : (v w u : ℤ) → pos 0 <ℤ v → pos 0 <ℤ w → u ≤ℤ pos 0 → pos 0 <ℤ (v -ℤ w *ℤ u)
deep v w u hv hw hu = omega (arith, sums, hv, least_most w u (omega (arith, sums, hw)) hu)

depths : (mesh : Mesh) (q : Coordinates) (m : Coefficients) → pos 0 <ℤ q.w → HasNoneAhead mesh m → pos 0 <ℤ value m q → AllByRecursion (λ p. pos 0 <ℤ depth m q (point_at p)) (corner_points mesh)
depths mesh q m hw none ahead =
    all_weaker (λ p. value m (point_at p) ≤ℤ pos 0) (λ p. pos 0 <ℤ depth m q (point_at p)) (λ p h. deep (value m q) q.w (value m (point_at p)) ahead hw h) (corner_points mesh)
    (each_point mesh (λ p. value m (point_at p) ≤ℤ pos 0) none)

-- a plane with a point ahead, and a point of weight 1 that isn't ahead, has a direction
some_way : (a b c d x y z w u v t : ℤ) → pos 0 <ℤ w → pos 0 <ℤ (a *ℤ x +ℤ b *ℤ y +ℤ c *ℤ z -ℤ d *ℤ w) → (a *ℤ u +ℤ b *ℤ v +ℤ c *ℤ t -ℤ d *ℤ pos 1) ≤ℤ pos 0 → a ≡ pos 0 → b ≡ pos 0 → c ≡ pos 0 → ⊥
some_way a b c d x y z w u v t hw ahead most ea eb ec =
    let one : d *ℤ pos 1 ≡ d = ring (d ∷ []) (times (var 0) (num (pos 1))) (var 0) refl in
    omega (arith, sums, ahead, no_times a x ea, no_times b y eb, no_times c z ec, least_least d w (omega (arith, sums, most, no_times a u ea, no_times b v eb, no_times c t ec, one)) (omega (arith, sums, hw)))

-- the face's plane that the check of convexity found has the point strictly behind
behind_outer : (mesh : Mesh) → IsShape mesh → (q : Coordinates) → IsInside mesh q → (k : ℕ) → k < length mesh.faces → (h : HasOuterPlane mesh (get_or mesh.faces k [])) → value h.plane q <ℤ pos 0
behind_outer mesh shape q inside k lt h =
    let face : List ℕ = get_or mesh.faces k [] in
    let is = shape.faces k [] lt in
    let b = inside k [] lt in
    behind_face mesh face is h.plane h.is q (behind_body mesh face is b.plane b.is q b.behind)

corner_count : (mesh : Mesh) → IsShape mesh → (k : ℕ) → k < length mesh.faces → 0 < length (get_or mesh.faces k [])
corner_count mesh shape k lt = omega (arith, (shape.faces k [] lt).triangle.first_in)

view : (mesh : Mesh) → IsShape mesh → (surface : IsSurface mesh) → (q : Coordinates) → pos 0 <ℤ q.w → IsInside mesh q → (m : Coefficients) → HasNoneAhead mesh m → pos 0 <ℤ value m q → (s : HasScale (λ p. depth m q (point_at p)) (corner_points mesh)) →
    (k : ℕ) → (lt : k < length mesh.faces) → IsView mesh.points (get_or mesh.faces k []) (surface.convex.faces k [] lt).plane m q s.factor s.common
view mesh shape surface q hw inside m none ahead s k lt =
    let outer = surface.convex.faces k [] lt in
    let p = point_at (get_or mesh.points (get_or (get_or mesh.faces k []) 0 0) []) in
    record {
      weight = hw;
      common = s.above;
      square = directed_above m (some_direction m.a m.b m.c (some_way m.a m.b m.c m.d q.x q.y q.z q.w p.x p.y p.z hw ahead (none k [] lt 0 0 (corner_count mesh shape k lt))));
      seen = λ i hi. at_corners mesh (IsSeen m q s.factor s.common) s.each k [] lt i 0 hi;
      directed = outer.is.directed;
      on = outer.is.on;
      clockwise = outer.clockwise;
      behind = behind_outer mesh shape q inside k lt outer;
    }

first_face_zero : (f : List ℕ → ℤ) (faces : List (List ℕ)) → 0 < length faces → AllByRecursion (λ face. pos 0 ≤ℤ f face) faces → sum_over f faces ≡ pos 0 → f (get_or faces 0 []) ≡ pos 0
first_face_zero f [] some h e = absurd (omega (arith, some))
first_face_zero f (face ∷ faces) some h e = first_zero f face faces h e

least_by_default : (f : List ℕ → ℤ) (faces : List (List ℕ)) → ((k : ℕ) → k < length faces → pos 0 ≤ℤ f (get_or faces k [])) → All (λ face. pos 0 ≤ℤ f face) faces
least_by_default f faces h = λ k d lt. subst (λ (face : List ℕ). pos 0 ≤ℤ f face) (get_or_default faces k [] d lt) (h k lt)

-- a point inside isn't ahead of a plane that no point of a face is ahead of
not_ahead : (mesh : Mesh) → IsShape mesh → IsSurface mesh → (q : Coordinates) → pos 0 <ℤ q.w → IsInside mesh q → (m : Coefficients) → HasNoneAhead mesh m → pos 0 <ℤ value m q → ⊥
not_ahead mesh shape surface q hw inside m none ahead =
    let s = scale (λ p. depth m q (point_at p)) (corner_points mesh) (depths mesh q m hw none ahead) in
    let f : DirectedEdge → ℤ = turn_of s.factor m q in
    let round : List ℕ → ℤ = λ face. sum_over f (edges_of_mesh_face mesh.points face) in
    let closed : sum_over round mesh.faces ≡ pos 0 =
    sym (total_flat f (edges_of_mesh_face mesh.points) mesh.faces)
    ∙ all_ways_total (all_edges mesh.points mesh.faces) f (λ w. spin_back s.factor m q w.from w.to) (once_each (all_edges mesh.points mesh.faces) surface.closed) in
    let v = view mesh shape surface q hw inside m none ahead s in
    let least : AllByRecursion (λ face. pos 0 ≤ℤ round face) mesh.faces =
    recursion_from_All (λ face. pos 0 ≤ℤ round face) mesh.faces
    (least_by_default round mesh.faces (λ k lt. least_face mesh.points (get_or mesh.faces k []) (surface.convex.faces k [] lt).plane m q s.factor s.common (v k lt) (corner_count mesh shape k lt))) in
    face_turns mesh.points (get_or mesh.faces 0 []) (surface.convex.faces 0 [] shape.some).plane m q s.factor s.common (v 0 shape.some) (shape.faces 0 [] shape.some).triangle
    (first_face_zero round mesh.faces shape.some least closed)

-- ---- a point on the plane
size_least : (u : ℤ) → (pos 0 -ℤ u) ≤ℤ pos (unsigned_abs u)
size_least (pos n) = omega (arith, sums)
size_least (negsuc n) = omega (arith, sums)

-- the point q, taken k times, and away from a point p
abbrev away : ℕ → Coordinates → List ℤ → Coordinates
away k q p = point_less (pos k) q (pos 1) (point_at p)

still_behind : (k : ℕ) (v u x : ℤ) → x ≡ pos k *ℤ v -ℤ pos 1 *ℤ u → v <ℤ pos 0 → unsigned_abs u < k → x <ℤ pos 0
still_behind k v u x e hv hk =
    let most = least_most (pos k) (v +ℤ pos 1) (omega (arith, sums)) (omega (arith, sums, hv)) in
    let first = ring (pos k ∷ v ∷ []) (times (var 0) (plus (var 1) (num (pos 1)))) (plus (times (var 0) (var 1)) (var 0)) refl in
    let second = ring (u ∷ []) (times (num (pos 1)) (var 0)) (var 0) refl in
    omega (arith, sums, e, most, first, second, hk, size_least u)

face_behind : (mesh : Mesh) (q : Coordinates) (p : List ℤ) (face : List ℕ) → IsBehindFace mesh q face → (b : ℕ) × ((k : ℕ) → b < k → IsBehindFace mesh (away k q p) face)
face_behind mesh q p face h = (
  unsigned_abs (value h.plane (point_at p)),
  λ k lt. record {
    plane = h.plane;
    is = h.is;
    behind = still_behind k (value h.plane q) (value h.plane (point_at p)) (value h.plane (away k q p)) (value_point_less h.plane (pos k) q (pos 1) (point_at p)) h.behind lt;
  },
)

weight_above : (k : ℕ) (w : ℤ) → pos 0 <ℤ w → 1 < k → pos 0 <ℤ (pos k *ℤ w -ℤ pos 1 *ℤ pos 1)
weight_above k w hw hk =
    let least = least_least (pos k) (w -ℤ pos 1) (omega (arith, sums)) (omega (arith, sums, hw)) in
    let first = ring (pos k ∷ w ∷ []) (times (var 0) (minus (var 1) (num (pos 1)))) (minus (times (var 0) (var 1)) (var 0)) refl in
    omega (arith, sums, least, first, hk)

now_ahead : (k : ℕ) (v u x : ℤ) → x ≡ pos k *ℤ v -ℤ pos 1 *ℤ u → pos 0 ≤ℤ v → u <ℤ pos 0 → pos 0 <ℤ x
now_ahead k v u x e hv hu =
    let second = ring (u ∷ []) (times (num (pos 1)) (var 0)) (var 0) refl in
    omega (arith, sums, e, hu, second, least_least (pos k) v (omega (arith, sums)) hv)

-- nor on one, with some point of weight 1 behind it
pub not_on : (mesh : Mesh) → IsShape mesh → IsSurface mesh → (q : Coordinates) → pos 0 <ℤ q.w → IsInside mesh q → (m : Coefficients) → HasNoneAhead mesh m → pos 0 ≤ℤ value m q → (p : List ℤ) → value m (point_at p) <ℤ pos 0 → ⊥
not_on mesh shape surface q hw inside m none at p below =
    let b = bounded (λ k. IsBehindFace mesh (away k q p)) mesh.faces
    (all_weaker (IsBehindFace mesh q) (λ face. (b : ℕ) × ((k : ℕ) → b < k → IsBehindFace mesh (away k q p) face)) (face_behind mesh q p) mesh.faces (recursion_from_All (IsBehindFace mesh q) mesh.faces inside)) in
    let k = suc (suc b.0) in
    not_ahead mesh shape surface (away k q p) (weight_above k q.w hw (omega arith)) (All-from_recursion (IsBehindFace mesh (away k q p)) mesh.faces (b.1 k (omega arith))) m none
    (now_ahead k (value m q) (value m (point_at p)) (value m (away k q p)) (value_point_less m (pos k) q (pos 1) (point_at p)) at below)

-- ---- the hull of the faces' points
not_on_one_plane : (mesh : Mesh) → IsSurface mesh → AreOnOnePlane (corner_points mesh) → ⊥
not_on_one_plane mesh surface h = surface.convex.solid (record {
  plane = h.plane;
  directed = h.directed;
  on = at_corners mesh (λ p. value h.plane (point_at p) ≡ pos 0) (recursion_from_All (λ p. value h.plane (point_at p) ≡ pos 0) (corner_points mesh) h.on);
})

most_points : (points : List (List ℤ)) (m : Coefficients) → ((i : ℕ) → i < length points → value_at_point points m i ≤ℤ pos 0) → All (λ p. value m (point_at p) ≤ℤ pos 0) points
most_points points m h = λ k d lt. subst (λ (p : List ℤ). value m (point_at p) ≤ℤ pos 0) (get_or_default points k [] d lt) (h k lt)

inside_combined : (mesh : Mesh) → IsShape mesh → IsSurface mesh → (q : Coordinates) → pos 0 <ℤ q.w → IsInside mesh q → IsInnerCombination (corner_points mesh) q
inside_combined mesh shape surface q hw inside =
    inner (corner_points mesh) q (not_on_one_plane mesh surface) (λ i j k hi hj hk apart m b ei ej ek.
    not_on mesh shape surface q hw inside m
    (at_corners mesh (λ p. value m (point_at p) ≤ℤ pos 0) (recursion_from_All (λ p. value m (point_at p) ≤ℤ pos 0) (corner_points mesh) (most_points (corner_points mesh) m b.most)))
    b.at (get_or (corner_points mesh) b.far []) b.behind)

combined_inside : (mesh : Mesh) → IsShape mesh → (q : Coordinates) → pos 0 <ℤ q.w → IsInnerCombination (corner_points mesh) q → IsInside mesh q
combined_inside mesh shape q hw c k d lt =
    let b = (shape.faces k d lt).body in
    record {
      plane = b.plane;
      is = b.is;
      behind = behind_each (corner_points mesh) q hw c b.plane
          (All-from_recursion (λ p. value b.plane (point_at p) ≤ℤ pos 0) (corner_points mesh) (each_point mesh (λ p. value b.plane (point_at p) ≤ℤ pos 0) b.is.none_ahead))
          (place_of mesh b.at_face b.at) (place_in mesh b.at_face b.at b.at_face_in b.at_in)
          (subst (λ (p : List ℤ). value b.plane (point_at p) <ℤ pos 0) (sym (place_is mesh b.at_face b.at b.at_face_in b.at_in)) b.behind);
    }

pub surface_is_hull : (mesh : Mesh) → IsShape mesh → IsSurface mesh → IsHullOfItsCorners mesh
surface_is_hull mesh shape surface = record { inside = λ q hw. (inside_combined mesh shape surface q hw, combined_inside mesh shape q hw) }

-- and of all points, where each is a corner of a face
pub surface_is_hull_of_points : (mesh : Mesh) → IsShape mesh → IsSurface mesh → AreAllCorners mesh → IsHullOfItsPoints mesh
surface_is_hull_of_points mesh shape surface all =
    hull_by mesh shape all (λ q hw inside m b.
    not_on mesh shape surface q hw inside m (λ k d lt i e hi. b.most (get_or (get_or mesh.faces k d) i e) ((shape.faces k d lt).there i e hi)) b.at (get_or mesh.points b.far []) b.behind)

-- ---- polyhedra
pub polyhedron_is_hull : (unit : LengthUnit) (points : List (List ℤ)) (faces : List (List ℕ)) → IsPolyhedron unit points faces → IsHullOfItsCorners (polyhedron_of unit points faces)
polyhedron_is_hull unit points faces h = surface_is_hull (polyhedron_of unit points faces) (polyhedron_is_shape unit points faces h) h.surface

pub polyhedron_is_hull_of_points : (unit : LengthUnit) (points : List (List ℤ)) (faces : List (List ℕ)) → IsPolyhedron unit points faces → AreAllCorners (polyhedron_of unit points faces) → IsHullOfItsPoints (polyhedron_of unit points faces)
polyhedron_is_hull_of_points unit points faces h = surface_is_hull_of_points (polyhedron_of unit points faces) (polyhedron_is_shape unit points faces h) h.surface
