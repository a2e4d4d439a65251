-- Each face of a shape within reach has a plane that the program can keep: without a common factor, and with small numbers.
use Rattle.std.proofs.Common.{◌≡◌, ⊎_elim, ℕ, suc, ◌+◌, ◌/◌, ◌<◌, ◌≤◌, List, [], ◌∷◌, length, get_or, map, sym, subst, arith, ℤ, pos, ◌-ℤ◌, ◌*ℤ◌, neg_ℤ, ◌<ℤ◌, ◌≤ℤ◌, unsigned_abs, inl, inr, All, Any}
use Rattle.std.specs.List.{AllZip}
use Rattle.std.specs.Int.{IsGcd}
use Rattle.std.proofs.lemmas.Int.{by_lt_z}
use Rattle.std.proofs.lemmas.List.{get_or-map, length-map}
use Rattle.std.proofs.lemmas.List.Elements.{All-cons, All-head, All-nil, All-tail}
use Rattle.plane_predicate.specs.Space.{Coefficients, Coordinates, point_at, minor, opposite_of, plane_of_points, AreCollinear, AreQuotients, IsCommonFactor, IsInReach, IsPlane, IsPlaneTimes}
use Rattle.plane_predicate.proofs.lemmas.Coprime.{euclid}
use Rattle.plane_predicate.proofs.lemmas.Divisions.{common_of, quotient, quotient_negative, quotients_of}
use Rattle.plane_predicate.proofs.lemmas.Opposites.{opposite_is_plane}
use Rattle.plane_predicate.proofs.lemmas.Sizes.{size_difference, size_dot, size_minor}
use Rattle.plane_predicate.proofs.lemmas.ThroughPoints.{reduced_is_plane, reduced_is_times}
use Rattle.int_transform.specs.declared.affine.Affine.{Affine}
use Rattle.int_transform.specs.Maps.{coordinate_list, image}
use Rattle.primitives.specs.Shapes.{Mesh, mesh_point, value_at_point, IsFaceOfShape, IsPlaneOfFace}
use Rattle.primitives.specs.Spanning.{SpansFace}
use Rattle.primitives.proofs.lemmas.FacePlanes.{found, spanned_as_it_is, spanned_opposite}
use Rattle.primitives.proofs.lemmas.OnePlane.{some_direction}
use Rattle.scad_design.proofs.lemmas.Deciding.{all_or_any}
use Prim.Native.Nat.{◌∣◌}

-- ---- numbers divided by their greatest common divisor
some_gcd : (u v : ℕ) → (g : ℕ) × IsGcd u v g
some_gcd u v = let r = euclid (λ _. Unit {0}) (λ m n _ _. tt) (suc v) u v (omega arith) tt tt in (r.0, r.2)

some_factor : (x y z w : ℕ) → (g : ℕ) × IsCommonFactor x y z w g
some_factor x y z w =
    let a = some_gcd x y in
    let b = some_gcd z w in
    let g = some_gcd a.0 b.0 in
    (g.0, common_of x y z w a.0 b.0 g.0 a.1 b.1 g.1)

some_quotient : (x : ℤ) (by : ℕ) → by ∣ unsigned_abs x → (q : ℤ) × (x ≡ pos by *ℤ q)
some_quotient x by d = by_lt_z x (pos 0) (λ below. (neg_ℤ (pos (unsigned_abs x / by)), quotient_negative x by d below))
    (λ least. (pos (unsigned_abs x / by), quotient x by d least))

some_reduced : (m : Coefficients) → unsigned_abs m.a ≤ 134152200 → unsigned_abs m.b ≤ 134152200 → unsigned_abs m.c ≤ 134152200 → unsigned_abs m.d ≤ 1648059777000 →
    0 < unsigned_abs m.a + unsigned_abs m.b + unsigned_abs m.c → (n : Coefficients) × IsPlane n × IsPlaneTimes m n
some_reduced m ha hb hc hd directed =
    let f = some_factor (unsigned_abs m.a) (unsigned_abs m.b) (unsigned_abs m.c) (unsigned_abs m.d) in
    let a = some_quotient m.a f.0 f.1.divides_x in
    let b = some_quotient m.b f.0 f.1.divides_y in
    let c = some_quotient m.c f.0 f.1.divides_z in
    let d = some_quotient m.d f.0 f.1.divides_w in
    let n : Coefficients = record { a = a.0; b = b.0; c = c.0; d = d.0 } in
    let q : AreQuotients m.a m.b m.c m.d n.a n.b n.c n.d = quotients_of m.a m.b m.c m.d a.0 b.0 c.0 d.0 f.0 (omega (arith, directed)) f.1 a.1 b.1 c.1 d.1 in
    (n, reduced_is_plane m.a m.b m.c m.d n ha hb hc hd directed q, reduced_is_times m n q)

-- ---- the plane through three points within reach
record IsNear (p : Coordinates) : Type 0 where
  x_size : unsigned_abs p.x ≤ 4095
  y_size : unsigned_abs p.y ≤ 4095
  z_size : unsigned_abs p.z ≤ 4095

near : (at : List ℤ) → IsInReach (point_at at) → IsNear (point_at at)
near at h = record { x_size = omega (arith, h.x_size); y_size = omega (arith, h.y_size); z_size = omega (arith, h.z_size) }

apart : (x y : ℤ) → unsigned_abs x ≤ 4095 → unsigned_abs y ≤ 4095 → unsigned_abs (x -ℤ y) ≤ 8190
apart x y h k = omega (arith, size_difference x y, h, k)

part_size : (p q s t u v : ℤ) → unsigned_abs p ≤ 4095 → unsigned_abs q ≤ 4095 → unsigned_abs s ≤ 4095 → unsigned_abs t ≤ 4095 → unsigned_abs u ≤ 4095 → unsigned_abs v ≤ 4095 →
    unsigned_abs (minor (s -ℤ p) (t -ℤ q) (u -ℤ p) (v -ℤ q)) ≤ 134152200
part_size p q s t u v hp hq hs ht hu hv =
    size_minor (s -ℤ p) (t -ℤ q) (u -ℤ p) (v -ℤ q) 8190 8190 (apart s p hs hp) (apart t q ht hq) (apart u p hu hp) (apart v q hv hq)

plane_through : (p q r : Coordinates) → IsNear p → IsNear q → IsNear r → (AreCollinear p q r → ⊥) → (n : Coefficients) × IsPlane n × IsPlaneTimes (plane_of_points p q r) n
plane_through p q r hp hq hr not_on_line =
    let m = plane_of_points p q r in
    let a = part_size p.y p.z q.y q.z r.y r.z hp.y_size hp.z_size hq.y_size hq.z_size hr.y_size hr.z_size in
    let b = part_size p.z p.x q.z q.x r.z r.x hp.z_size hp.x_size hq.z_size hq.x_size hr.z_size hr.x_size in
    let c = part_size p.x p.y q.x q.y r.x r.y hp.x_size hp.y_size hq.x_size hq.y_size hr.x_size hr.y_size in
    some_reduced m a b c (size_dot m.a m.b m.c p.x p.y p.z 134152200 4095 a b c hp.x_size hp.y_size hp.z_size)
    (some_direction m.a m.b m.c (λ ea eb ec. not_on_line (record { a = ea; b = eb; c = ec })))

-- ---- the planes of faces within reach
abbrev pub AreInReach : List (List ℤ) → Type 0
AreInReach points = All (λ p. IsInReach (point_at p)) points

some_face_plane : (mesh : Mesh) → AreInReach mesh.points → (face : List ℕ) → IsFaceOfShape mesh face → (m : Coefficients) × IsPlane m × IsPlaneOfFace mesh face m
some_face_plane mesh reach face is =
    let t = is.triangle in
    let near_corner = λ (i : ℕ) (lt : i < length face). near (get_or mesh.points (get_or face i 0) []) (reach (get_or face i 0) [] (is.there i 0 lt)) in
    let n = plane_through (mesh_point mesh.points (get_or face t.first 0)) (mesh_point mesh.points (get_or face t.second 0)) (mesh_point mesh.points (get_or face t.third 0))
    (near_corner t.first t.first_in) (near_corner t.second t.second_in) (near_corner t.third t.third_in) t.apart in
    let spans : SpansFace mesh.points face n.0 = record {
      first = t.first;
      second = t.second;
      third = t.third;
      first_in = t.first_in;
      second_in = t.second_in;
      third_in = t.third_in;
      times = n.2;
      apart = t.apart;
    } in
    ⊎_elim (λ none. (n.0, n.1, spanned_as_it_is mesh face is n.0 spans none))
    (λ some.
    let f = found (λ c. pos 0 <ℤ value_at_point mesh.points n.0 c) mesh.faces some in
    (opposite_of n.0, opposite_is_plane n.0 n.1, spanned_opposite mesh face is n.0 spans f.face f.at f.face_in f.at_in f.holds))
    (all_or_any (All (λ c. value_at_point mesh.points n.0 c ≤ℤ pos 0)) (λ f. Any (λ c. pos 0 <ℤ value_at_point mesh.points n.0 c) f)
    (all_or_any (λ c. value_at_point mesh.points n.0 c ≤ℤ pos 0) (λ c. pos 0 <ℤ value_at_point mesh.points n.0 c)
    (λ c. by_lt_z (pos 0) (value_at_point mesh.points n.0 c) (λ above. inr above) (λ most. inl most))) mesh.faces)

pub some_face_planes : (mesh : Mesh) → AreInReach mesh.points → (faces : List (List ℕ)) → All (IsFaceOfShape mesh) faces → (all : List Coefficients) × All IsPlane all × AllZip (IsPlaneOfFace mesh) faces all
some_face_planes mesh reach [] are = ([], All-nil IsPlane, tt)
some_face_planes mesh reach (face ∷ faces) are =
    let m = some_face_plane mesh reach face (All-head (IsFaceOfShape mesh) face faces are) in
    let all = some_face_planes mesh reach faces (All-tail (IsFaceOfShape mesh) face faces are) in
    (m.0 ∷ all.0, All-cons IsPlane m.0 all.0 m.1 all.1, (m.2, all.2))

-- moved points are in reach where the images are
pub images_are_in_reach : (f : Affine) (points : List (List ℤ)) → All (λ p. IsInReach (image f (point_at p))) points → AreInReach (map (λ p. coordinate_list (image f (point_at p))) points)
images_are_in_reach f points h k d lt =
    let move : List ℤ → List ℤ = λ p. coordinate_list (image f (point_at p)) in
    let there : k < length points = omega (arith, length-map points move, lt) in
    subst (λ (p : List ℤ). IsInReach (point_at p)) (sym (get_or-map move points k [] d there)) (h k [] there)
