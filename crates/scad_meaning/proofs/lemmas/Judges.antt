-- A judge that is always right: each check of shapes can be decided.
use Rattle.std.proofs.Common.{◌≡◌, ◌⊎◌, inl, inr, ⊎_elim, ℕ, ◌<◌, ◌≤◌, ◌%◌, ℤ, pos, ◌<ℤ◌, ◌≤ℤ◌, unsigned_abs, Bool, true, false, List, [], ◌∷◌, length, get_or, All, Any, Some, None, refl, ap, ap₂, subst, arith}
use Rattle.std.proofs.lemmas.Int.{by_lt_z}
use Rattle.std.proofs.lemmas.List.{get_or_default}
use Rattle.text_place.specs.declared.fault.FaultKind.{FaultKind}
use Rattle.text_place.specs.declared.fault.FaultKind.TheVariants.{BadSize, NotOnGrid, TooLarge, OutOfRange, LongList, FewPoints, NotConvex}
use Rattle.plane_predicate.specs.declared.unit.Unit.{Unit as LengthUnit}
use Rattle.plane_predicate.specs.Space.{Coefficients, point_at, opposite_of, inner_product, plane_of_points}
use Rattle.primitives.specs.Shapes.{Mesh, mesh_point, value_at_point, HasTriangle, IsPointInRange, IsOnOnePlane}
use Rattle.primitives.specs.Sizes.{AreSizes, IsSizeFault, IsAtLeastOne, IsEven, IsSafe, AreOnGrid, length_in_grid_steps}
use Rattle.primitives.specs.Polygons.{polygon_of, IsWrittenPolygon, IsPolygonFault, IsFlatPointInRange, IsConvexPolygon, GoesLeft, GoesRight, HasCorner, orientation, polygon_point, x_of, y_of}
use Rattle.round_four.specs.Circles.{IsCircleSize, IsCircleFault}
use Rattle.round_four.specs.Cylinders.{AreCylinderSizes, IsCylinderFault, HasBody, AreFourInRange, IsOnGrid as IsCentredOnGrid, IsCylinderInRange}
use Rattle.primitives.specs.declared.ways.DirectedEdge.{DirectedEdge}
use Rattle.primitives.specs.Checks.{IsWithinLimits, HasEnoughCorners, AreCornersThere, IsFlatFace, IsClosedMesh, HasOuterPlane, IsConvexMesh}
use Rattle.primitives.specs.DirectedEdges.{missing_edge, reversed_edge, all_edges, edges_of_mesh_face, IsMetOnce, HasNoneLeft}
use Rattle.primitives.specs.CornerPlanes.{IsCornerPlane}
use Rattle.primitives.specs.Bounding.{IsOuterPlane, IsFaceOfBody}
use Rattle.primitives.specs.Polyhedra.{polyhedron_of, IsPolyhedron, IsFaultOf, IsFirstToFail, polyhedron_checks, polyhedron_faults}
use Rattle.primitives.proofs.lemmas.ThroughCorners.{flat_by, flat_on}
use Rattle.primitives.proofs.lemmas.OuterPlanes.{one_plane, bounded_spanned, bounded_opposite}
use Rattle.primitives.proofs.lemmas.Solids.{convex_by}
use Rattle.scad_modules.specs.Effects.{SolidCall, cube_call, polyhedron_call, cylinder_call, FlatCall, square_call, polygon_call, circle_call}
use Rattle.scad_design.specs.Designs.{DesignTree}
use Rattle.scad_meaning.specs.Verdicts.{Verdict, Judge, IsRightJudge, IsSolidVerdict, IsFlatVerdict, IsHeightVerdict, IsHullVerdict}
use Rattle.scad_meaning.proofs.HullVerdicts.{hull_verdict, HullVerdict}
use Rattle.scad_meaning.proofs.Triangles.{decided_point_range, at_place, decided_triangle}
use Rattle.scad_design.proofs.lemmas.Deciding.{Decided, decided_by, decided_both, decided_either, decided_not, decided_at_most, decided_same, decided_at_most_ℤ, decided_same_ℤ, decided_same_list, decided_all_below, decided_some_below, all_or_any, decided_all, decided_any, decided_below, decided_less_ℤ, all_or_one_below, at_most_or_more}
use Rattle.plane_predicate.specs.Indices.{index_after}

-- sides and heights
long_or_short : (s : ℤ) → IsAtLeastOne s ⊎ (s <ℤ pos 1)
long_or_short s = by_lt_z s (pos 1) (λ h. inr h) (λ h. inl h)

even_or_odd_number : (n : ℕ) → (n % 2 ≡ 0) ⊎ (n % 2 ≡ 1)
even_or_odd_number n = ⊎_elim (λ h. inl h) (λ h. inr (omega (arith, h))) (decided_same (n % 2) 0)

even_or_odd : (unit : LengthUnit) (s : ℤ) → IsEven unit s ⊎ (unsigned_abs (length_in_grid_steps unit s) % 2 ≡ 1)
even_or_odd unit s = even_or_odd_number (unsigned_abs (length_in_grid_steps unit s))

decided_safe : (n : ℤ) → Decided (IsSafe n)
decided_safe n = decided_by (λ h. record { size = h }) (λ h. h.size) (decided_at_most (unsigned_abs n) 9007199254740991)

-- on the grid, or some odd one of what is centred
on_grid_or_odd : (unit : LengthUnit) (center : Bool) (sides : List ℤ) → AreOnGrid unit center sides
    ⊎ ((center ≡ true) × Any (λ s. unsigned_abs (length_in_grid_steps unit s) % 2 ≡ 1) sides)
on_grid_or_odd unit false sides = inl tt
on_grid_or_odd unit true sides =
    ⊎_elim (λ h. inl h) (λ h. inr (refl, h)) (all_or_any (IsEven unit) (λ s. unsigned_abs (length_in_grid_steps unit s) % 2 ≡ 1) (even_or_odd unit) sides)

abbrev SizeVerdict : LengthUnit → Bool → List ℤ → Type 0
SizeVerdict unit center sides = AreSizes unit center sides ⊎ ((kind : FaultKind) × IsSizeFault unit center sides kind)

size_verdict : (unit : LengthUnit) (center : Bool) (sides : List ℤ) → SizeVerdict unit center sides
size_verdict unit center sides =
    ⊎_elim (λ long.
    ⊎_elim (λ grid.
    ⊎_elim (λ safe. inl (record { long = long; on_grid = grid; safe = safe }))
    (λ some. inr (TooLarge, (long, grid, some)))
    (all_or_any (λ s. IsSafe (length_in_grid_steps unit s)) (λ s. IsSafe (length_in_grid_steps unit s) → ⊥) (λ s. decided_safe (length_in_grid_steps unit s)) sides))
    (λ odd. inr (NotOnGrid, (long, odd.0, odd.1)))
    (on_grid_or_odd unit center sides))
    (λ some. inr (BadSize, some))
    (all_or_any IsAtLeastOne (λ s. s <ℤ pos 1) long_or_short sides)

-- polygons
decided_in_range : (p : List ℤ) → Decided (IsFlatPointInRange p)
decided_in_range p =
    decided_by (λ h. record { x_size = h.0; y_size = h.1 }) (λ h. (h.x_size, h.y_size))
    (decided_both (decided_at_most (unsigned_abs (x_of p)) 65535) (decided_at_most (unsigned_abs (y_of p)) 65535))

decided_left : (points : List (List ℤ)) → Decided (GoesLeft points)
decided_left points =
    decided_all_below (length points) (λ i. All (λ r. pos 0 ≤ℤ orientation (polygon_point points i) (polygon_point points (index_after (length points) i)) r) points)
    (λ i h. decided_all (λ r. pos 0 ≤ℤ orientation (polygon_point points i) (polygon_point points (index_after (length points) i)) r) (λ r. decided_at_most_ℤ (pos 0) (orientation (polygon_point points i) (polygon_point points (index_after (length points) i)) r)) points)

decided_right : (points : List (List ℤ)) → Decided (GoesRight points)
decided_right points =
    decided_all_below (length points) (λ i. All (λ r. pos 0 ≤ℤ orientation (polygon_point points (index_after (length points) i)) (polygon_point points i) r) points)
    (λ i h. decided_all (λ r. pos 0 ≤ℤ orientation (polygon_point points (index_after (length points) i)) (polygon_point points i) r) (λ r. decided_at_most_ℤ (pos 0) (orientation (polygon_point points (index_after (length points) i)) (polygon_point points i) r)) points)

abbrev SomeCorner : List (List ℤ) → Type 0
SomeCorner points = (i : ℕ) × (i < length points) × ((j : ℕ) × (j < length points) × ((k : ℕ) × (k < length points)
    × (orientation (polygon_point points i) (polygon_point points j) (polygon_point points k) ≡ pos 0 → ⊥)))

decided_corner : (points : List (List ℤ)) → Decided (HasCorner points)
decided_corner points =
    decided_by {P = SomeCorner points}
    (λ h. record { first = h.0; second = h.2.0; third = h.2.2.0; first_in = h.1; second_in = h.2.1; third_in = h.2.2.1; apart = h.2.2.2 })
    (λ h. (h.first, h.first_in, (h.second, h.second_in, (h.third, h.third_in, h.apart))))
    (decided_some_below (length points) (λ i. (j : ℕ) × (j < length points) × ((k : ℕ) × (k < length points) × (orientation (polygon_point points i) (polygon_point points j) (polygon_point points k) ≡ pos 0 → ⊥)))
    (λ i h. decided_some_below (length points) (λ j. (k : ℕ) × (k < length points) × (orientation (polygon_point points i) (polygon_point points j) (polygon_point points k) ≡ pos 0 → ⊥))
    (λ j h. decided_some_below (length points) (λ k. orientation (polygon_point points i) (polygon_point points j) (polygon_point points k) ≡ pos 0 → ⊥)
    (λ k h. decided_not (decided_same_ℤ (orientation (polygon_point points i) (polygon_point points j) (polygon_point points k)) (pos 0))))))

decided_convex : (points : List (List ℤ)) → Decided (IsConvexPolygon points)
decided_convex points =
    decided_by (λ h. record { goes = h.0; corner = h.1 }) (λ h. (h.goes, h.corner))
    (decided_both (decided_either (decided_left points) (decided_right points)) (decided_corner points))

more_than : (m n : ℕ) → (m ≤ n → ⊥) → n < m
more_than m n h = ⊎_elim (λ k. absurd (h k)) (λ k. k) (at_most_or_more m n)

abbrev PolygonVerdict : LengthUnit → List (List ℤ) → Type 0
PolygonVerdict unit points = IsWrittenPolygon unit points ⊎ ((kind : FaultKind) × IsPolygonFault unit points kind)

polygon_verdict : (unit : LengthUnit) (points : List (List ℤ)) → PolygonVerdict unit points
polygon_verdict unit points =
    ⊎_elim (λ most.
    ⊎_elim (λ least.
    ⊎_elim (λ range.
    ⊎_elim (λ convex. inl (record { most = most; least = least; range = range; convex = convex }))
    (λ h. inr (NotConvex, (most, least, range, h)))
    (decided_convex (polygon_of unit points)))
    (λ some. inr (OutOfRange, (most, least, some)))
    (all_or_any IsFlatPointInRange (λ p. IsFlatPointInRange p → ⊥) decided_in_range points))
    (λ h. inr (FewPoints, more_than 3 (length points) h))
    (decided_at_most 3 (length points)))
    (λ h. inr (LongList, more_than (length points) 64 h))
    (decided_at_most (length points) 64)

-- circles and cylinders
abbrev CircleVerdict : LengthUnit → ℤ → Type 0
CircleVerdict unit radius = IsCircleSize unit radius ⊎ ((kind : FaultKind) × IsCircleFault unit radius kind)

circle_verdict : (unit : LengthUnit) (radius : ℤ) → CircleVerdict unit radius
circle_verdict unit radius =
    ⊎_elim (λ long.
    ⊎_elim (λ range. inl (record { long = long; range = range }))
    (λ h. inr (OutOfRange, (long, h)))
    (decided_at_most (unsigned_abs (length_in_grid_steps unit radius)) 65535))
    (λ short. inr (BadSize, short))
    (long_or_short radius)

decided_body : (height low high : ℤ) → Decided (HasBody height low high)
decided_body height low high =
    decided_by (λ h. record { long = h.0; low_least = h.1.0; high_least = h.1.1.0; some = λ a b. h.1.1.1 (a, b) })
    (λ h. (h.long, (h.low_least, (h.high_least, λ both. h.some both.0 both.1))))
    (decided_both (decided_at_most_ℤ (pos 1) height)
    (decided_both (decided_at_most_ℤ (pos 0) low)
    (decided_both (decided_at_most_ℤ (pos 0) high)
    (decided_not (decided_both (decided_same_ℤ low (pos 0)) (decided_same_ℤ high (pos 0)))))))

height_on_grid_or_odd : (unit : LengthUnit) (center : Bool) (height : ℤ) → IsCentredOnGrid unit center height ⊎ ((center ≡ true) × (unsigned_abs (length_in_grid_steps unit height) % 2 ≡ 1))
height_on_grid_or_odd unit false height = inl tt
height_on_grid_or_odd unit true height = ⊎_elim (λ h. inl h) (λ h. inr (refl, h)) (even_or_odd unit height)

decided_near : (a b c d : ℤ) → Decided (AreFourInRange a b c d)
decided_near a b c d =
    decided_by (λ h. record { first = h.0; second = h.1.0; third = h.1.1.0; fourth = h.1.1.1 }) (λ h. (h.first, (h.second, (h.third, h.fourth))))
    (decided_both (decided_at_most (unsigned_abs a) 65535)
    (decided_both (decided_at_most (unsigned_abs b) 65535)
    (decided_both (decided_at_most (unsigned_abs c) 65535) (decided_at_most (unsigned_abs d) 65535))))

abbrev CylinderVerdict : LengthUnit → Bool → ℤ → ℤ → ℤ → Type 0
CylinderVerdict unit center height low high =
    AreCylinderSizes unit center height low high ⊎ ((kind : FaultKind) × IsCylinderFault unit center height low high kind)

decided_cylinder_range : (unit : LengthUnit) (center : Bool) (height low high : ℤ) → Decided (IsCylinderInRange unit center height low high)
decided_cylinder_range unit center height low high = decided_near _ _ _ _

cylinder_verdict : (unit : LengthUnit) (center : Bool) (height low high : ℤ) → CylinderVerdict unit center height low high
cylinder_verdict unit center height low high =
    ⊎_elim (λ body.
    ⊎_elim (λ grid.
    ⊎_elim (λ range. inl (record { body = body; on_grid = grid; range = range }))
    (λ h. inr (OutOfRange, (body, grid, h)))
    (decided_cylinder_range unit center height low high))
    (λ odd. inr (NotOnGrid, (body, odd.0, odd.1)))
    (height_on_grid_or_odd unit center height))
    (λ h. inr (BadSize, h))
    (decided_body height low high)

-- polyhedra: what is asked of points and faces as they are written
decided_limits : (points : List (List ℤ)) (faces : List (List ℕ)) → Decided (IsWithinLimits points faces)
decided_limits points faces =
    decided_by (λ h. record { points_most = h.0; faces_most = h.1.0; corners_most = h.1.1 }) (λ h. (h.points_most, (h.faces_most, h.corners_most)))
    (decided_both (decided_at_most (length points) 128)
    (decided_both (decided_at_most (length faces) 64) (decided_all (λ f. length f ≤ 64) (λ f. decided_at_most (length f) 64) faces)))

decided_enough : (faces : List (List ℕ)) → Decided (HasEnoughCorners faces)
decided_enough faces =
    decided_by (λ h. record { faces_least = h.0; corners_least = h.1 }) (λ h. (h.faces_least, h.corners_least))
    (decided_both (decided_at_most 4 (length faces)) (decided_all (λ f. 3 ≤ length f) (λ f. decided_at_most 3 (length f)) faces))

decided_there : (points : ℕ) (faces : List (List ℕ)) → Decided (AreCornersThere points faces)
decided_there points faces = decided_all (λ f. All (λ i. i < points) f) (λ f. decided_all (λ i. i < points) (λ i. decided_below i points) f) faces

-- a face whose corners don't lie on one line spans a plane
abbrev plane_by : (points : List (List ℤ)) (face : List ℕ) → HasTriangle points face → Coefficients
plane_by points face t = plane_of_points (at_place points face t.first) (at_place points face t.second) (at_place points face t.third)

spans : (points : List (List ℤ)) (face : List ℕ) (t : HasTriangle points face) → IsCornerPlane points face (plane_by points face t)
spans points face t = record {
  first = t.first;
  second = t.second;
  third = t.third;
  first_in = t.first_in;
  second_in = t.second_in;
  third_in = t.third_in;
  is = refl;
  apart = t.apart;
}

-- flat exactly where all corners are on that plane
decided_flat : (points : List (List ℤ)) (face : List ℕ) → Decided (IsFlatFace points face)
decided_flat points face =
    ⊎_elim (λ t.
    decided_by (λ on. flat_by points face (plane_by points face t) (spans points face t) on)
    (λ flat. flat_on points face (plane_by points face t) (spans points face t) flat)
    (decided_all (λ i. value_at_point points (plane_by points face t) i ≡ pos 0) (λ i. decided_same_ℤ (value_at_point points (plane_by points face t) i) (pos 0)) face))
    (λ none. inr (λ flat. none flat.triangle))
    (decided_triangle points face)

-- each way is met once in both directions
abbrev make_way : List ℤ → List ℤ → DirectedEdge
make_way from to = record { from = from; to = to }

same_way : (v w : DirectedEdge) → (v.from ≡ w.from) × (v.to ≡ w.to) → v ≡ w
same_way v w h = ap₂ (λ (a b : List ℤ). make_way a b) h.0 h.1

decided_same_way : (v w : DirectedEdge) → Decided (v ≡ w)
decided_same_way v w =
    decided_by (same_way v w) (λ e. (ap (λ (x : DirectedEdge). x.from) e, ap (λ (x : DirectedEdge). x.to) e))
    (decided_both (decided_same_list v.from w.from) (decided_same_list v.to w.to))

only_one : (P Q : Type 0) → Decided P → Decided Q → Decided (P → Q)
only_one P Q p (inl q) = inl (λ _. q)
only_one P Q (inl p) (inr n) = inr (λ h. n (h p))
only_one P Q (inr m) (inr n) = inl (λ p. absurd (m p))

abbrev OnceAt : List DirectedEdge → DirectedEdge → ℕ → Type 0
OnceAt ways w i = (get_or ways i missing_edge ≡ w) × ((k : ℕ) → k < length ways → get_or ways k missing_edge ≡ w → k ≡ i)

decided_once : (ways : List DirectedEdge) (w : DirectedEdge) → Decided (IsMetOnce ways w)
decided_once ways w =
    decided_by {P = (i : ℕ) × (i < length ways) × OnceAt ways w i}
    (λ h. record { at = h.0; at_in = h.1; is = h.2.0; only = h.2.1 }) (λ h. (h.at, h.at_in, (h.is, h.only)))
    (decided_some_below (length ways) (OnceAt ways w)
    (λ i lt. decided_both (decided_same_way (get_or ways i missing_edge) w)
    (decided_all_below (length ways) (λ k. get_or ways k missing_edge ≡ w → k ≡ i)
    (λ k below. only_one (get_or ways k missing_edge ≡ w) (k ≡ i) (decided_same_way (get_or ways k missing_edge) w) (decided_same k i)))))

decided_closed : (points : List (List ℤ)) (faces : List (List ℕ)) → Decided (IsClosedMesh points faces)
decided_closed points faces =
    decided_all (λ w. IsMetOnce (all_edges points faces) w × IsMetOnce (all_edges points faces) (reversed_edge w))
    (λ w. decided_both (decided_once (all_edges points faces) w) (decided_once (all_edges points faces) (reversed_edge w))) (all_edges points faces)

-- convex, where all faces are flat: each face bounds the body on one of the two sides of its plane
decided_bounds : (mesh : Mesh) (face : List ℕ) (m : Coefficients) → Decided (IsOuterPlane mesh face m)
decided_bounds mesh face m =
    decided_by (λ h. record { none_ahead = h.0; some_behind = h.1.0; clockwise = h.1.1 }) (λ h. (h.none_ahead, (h.some_behind, h.clockwise)))
    (decided_both (decided_all (λ f. All (λ i. value_at_point mesh.points m i ≤ℤ pos 0) f) (λ f. decided_all (λ i. value_at_point mesh.points m i ≤ℤ pos 0) (λ i. decided_at_most_ℤ (value_at_point mesh.points m i) (pos 0)) f) mesh.faces)
    (decided_both
    (decided_any (λ f. Any (λ i. pos 0 <ℤ value_at_point mesh.points (opposite_of m) i) f) (λ f. decided_any (λ i. pos 0 <ℤ value_at_point mesh.points (opposite_of m) i) (λ i. decided_less_ℤ (pos 0) (value_at_point mesh.points (opposite_of m) i)) f) mesh.faces)
    (decided_all (HasNoneLeft mesh.points face m) (λ w. decided_all (λ i. inner_product m (plane_of_points (point_at w.from) (point_at w.to) (mesh_point mesh.points i)) ≤ℤ pos 0) (λ i. decided_at_most_ℤ (inner_product m (plane_of_points (point_at w.from) (point_at w.to) (mesh_point mesh.points i))) (pos 0)) face) (edges_of_mesh_face mesh.points face))))

-- a flat face that bounds the body, or one that makes the mesh not convex
bounded_or_not : (mesh : Mesh) (face : List ℕ) → IsFlatFace mesh.points face → IsFaceOfBody mesh face ⊎ (HasOuterPlane mesh face → IsOnOnePlane mesh)
bounded_or_not mesh face flat =
    ⊎_elim (λ h. inl (bounded_spanned mesh face (plane_by mesh.points face flat.triangle) (spans mesh.points face flat.triangle) flat h))
    (λ not_here. ⊎_elim
    (λ h. inl (bounded_opposite mesh face (plane_by mesh.points face flat.triangle) (spans mesh.points face flat.triangle) flat h))
    (λ not_there. inr (one_plane mesh face (plane_by mesh.points face flat.triangle) (spans mesh.points face flat.triangle) not_here not_there))
    (decided_bounds mesh face (opposite_of (plane_by mesh.points face flat.triangle))))
    (decided_bounds mesh face (plane_by mesh.points face flat.triangle))

-- for each face of a list, all of them or one
abbrev Wrong : Mesh → List ℕ → Type 0
Wrong mesh face = HasOuterPlane mesh face → IsOnOnePlane mesh

all_bounded : (mesh : Mesh) → All (IsFlatFace mesh.points) mesh.faces → All (IsFaceOfBody mesh) mesh.faces
    ⊎ ((k : ℕ) × (k < length mesh.faces) × Wrong mesh (get_or mesh.faces k []))
all_bounded mesh flat =
    ⊎_elim (λ all. inl (λ k d lt. subst (λ (f : List ℕ). IsFaceOfBody mesh f) (get_or_default mesh.faces k [] d lt) (all k lt))) (λ h. inr h)
    (all_or_one_below (length mesh.faces) (λ k. IsFaceOfBody mesh (get_or mesh.faces k [])) (λ k. Wrong mesh (get_or mesh.faces k []))
    (λ k lt. bounded_or_not mesh (get_or mesh.faces k []) (flat k [] lt)))

decided_convex_mesh : (mesh : Mesh) → 0 < length mesh.faces → All (IsFlatFace mesh.points) mesh.faces → Decided (IsConvexMesh mesh)
decided_convex_mesh mesh some flat =
    ⊎_elim (λ all. inl (convex_by mesh some flat all)) (λ h. inr (λ convex. convex.solid (h.2 (convex.faces h.0 [] h.1))))
    (all_bounded mesh flat)

abbrev PolyhedronVerdict : LengthUnit → List (List ℤ) → List (List ℕ) → Type 0
PolyhedronVerdict unit points faces =
    IsPolyhedron unit points faces ⊎ ((kind : FaultKind) × IsFaultOf (polyhedron_checks unit points faces) polyhedron_faults kind)

fails_at : (unit : LengthUnit) (points : List (List ℤ)) (faces : List (List ℕ)) (n : ℕ) → IsFirstToFail (polyhedron_checks unit points faces) n → PolyhedronVerdict unit points faces
fails_at unit points faces n h = inr (get_or polyhedron_faults n NotConvex, record { number = n; is = refl; fails = h })

some_face : (faces : List (List ℕ)) → HasEnoughCorners faces → 0 < length faces
some_face faces h = omega (arith, h.faces_least)

polyhedron_verdict : (unit : LengthUnit) (points : List (List ℤ)) (faces : List (List ℕ)) → PolyhedronVerdict unit points faces
polyhedron_verdict unit points faces =
    ⊎_elim (λ limits.
    ⊎_elim (λ corners.
    ⊎_elim (λ there.
    ⊎_elim (λ range.
    ⊎_elim (λ flat.
    ⊎_elim (λ closed.
    ⊎_elim (λ convex. inl (record {
      written = record { limits = limits; corners = corners; there = there; range = range };
      surface = record { flat = flat; closed = closed; convex = convex };
    }))
    (λ h. fails_at unit points faces 6 (limits, (corners, (there, (range, (flat, (closed, h)))))))
    (decided_convex_mesh (polyhedron_of unit points faces) (some_face faces corners) flat))
    (λ h. fails_at unit points faces 5 (limits, (corners, (there, (range, (flat, h))))))
    (decided_closed (polyhedron_of unit points faces).points faces))
    (λ h. fails_at unit points faces 4 (limits, (corners, (there, (range, h)))))
    (decided_all (IsFlatFace (polyhedron_of unit points faces).points) (decided_flat (polyhedron_of unit points faces).points) faces))
    (λ h. fails_at unit points faces 3 (limits, (corners, (there, h))))
    (decided_all (λ p. IsPointInRange (point_at p)) (λ p. decided_point_range (point_at p)) points))
    (λ h. fails_at unit points faces 2 (limits, (corners, h)))
    (decided_there (length points) faces))
    (λ h. fails_at unit points faces 1 (limits, h))
    (decided_enough faces))
    (λ h. fails_at unit points faces 0 h)
    (decided_limits points faces)

-- the judge
abbrev verdict_of : {P : Type 0} {F : FaultKind → Type 0} → P ⊎ ((kind : FaultKind) × F kind) → Verdict
verdict_of (inl p) = None
verdict_of (inr f) = Some f.0

judged_solid : LengthUnit → SolidCall → Verdict
judged_solid unit (cube_call center size) = verdict_of (size_verdict unit center size)
judged_solid unit (polyhedron_call points faces) = verdict_of (polyhedron_verdict unit points faces)
judged_solid unit (cylinder_call center height low high) = verdict_of (cylinder_verdict unit center height low high)

judged_flat : LengthUnit → FlatCall → Verdict
judged_flat unit (square_call center size) = verdict_of (size_verdict unit center size)
judged_flat unit (polygon_call points) = verdict_of (polygon_verdict unit points)
judged_flat unit (circle_call radius) = verdict_of (circle_verdict unit radius)

size_right : (unit : LengthUnit) (center : Bool) (size : List ℤ) (v : SizeVerdict unit center size) → IsSolidVerdict unit (cube_call center size) (verdict_of v)
size_right unit center size (inl h) = h
size_right unit center size (inr f) = f.1

polyhedron_right : (unit : LengthUnit) (points : List (List ℤ)) (faces : List (List ℕ)) (v : PolyhedronVerdict unit points faces) → IsSolidVerdict unit (polyhedron_call points faces) (verdict_of v)
polyhedron_right unit points faces (inl h) = h
polyhedron_right unit points faces (inr f) = f.1

cylinder_right : (unit : LengthUnit) (center : Bool) (height low high : ℤ) (v : CylinderVerdict unit center height low high) → IsSolidVerdict unit (cylinder_call center height low high) (verdict_of v)
cylinder_right unit center height low high (inl h) = h
cylinder_right unit center height low high (inr f) = f.1

square_right : (unit : LengthUnit) (center : Bool) (size : List ℤ) (v : SizeVerdict unit center size) → IsFlatVerdict unit (square_call center size) (verdict_of v)
square_right unit center size (inl h) = h
square_right unit center size (inr f) = f.1

polygon_right : (unit : LengthUnit) (points : List (List ℤ)) (v : PolygonVerdict unit points) → IsFlatVerdict unit (polygon_call points) (verdict_of v)
polygon_right unit points (inl h) = h
polygon_right unit points (inr f) = f.1

circle_right : (unit : LengthUnit) (radius : ℤ) (v : CircleVerdict unit radius) → IsFlatVerdict unit (circle_call radius) (verdict_of v)
circle_right unit radius (inl h) = h
circle_right unit radius (inr f) = f.1

height_right : (unit : LengthUnit) (center : Bool) (height : ℤ) (v : SizeVerdict unit center (height ∷ [])) → IsHeightVerdict unit center height (verdict_of v)
height_right unit center height (inl h) = h
height_right unit center height (inr f) = f.1

solid_right : (unit : LengthUnit) (call : SolidCall) → IsSolidVerdict unit call (judged_solid unit call)
unfolding judged_solid
solid_right unit (cube_call center size) = size_right unit center size (size_verdict unit center size)
solid_right unit (polyhedron_call points faces) = polyhedron_right unit points faces (polyhedron_verdict unit points faces)
solid_right unit (cylinder_call center height low high) = cylinder_right unit center height low high (cylinder_verdict unit center height low high)

flat_right : (unit : LengthUnit) (call : FlatCall) → IsFlatVerdict unit call (judged_flat unit call)
unfolding judged_flat
flat_right unit (square_call center size) = square_right unit center size (size_verdict unit center size)
flat_right unit (polygon_call points) = polygon_right unit points (polygon_verdict unit points)
flat_right unit (circle_call radius) = circle_right unit radius (circle_verdict unit radius)

hull_right : (design : DesignTree) (v : HullVerdict design) → IsHullVerdict design (verdict_of v)
hull_right design (inl h) = h
hull_right design (inr f) = f.1

abbrev the_judge : Judge
the_judge = record {
  solid = judged_solid;
  flat = judged_flat;
  height = λ unit center height. verdict_of (size_verdict unit center (height ∷ []));
  hull = λ design. verdict_of (hull_verdict design);
}

pub some_judge : (judge : Judge) × IsRightJudge judge
some_judge = (
  the_judge,
  record {
    solid = solid_right;
    flat = flat_right;
    height = λ unit center height. height_right unit center height (size_verdict unit center (height ∷ []));
    hull = λ design. hull_right design (hull_verdict design);
  },
)
