-- Shapes moved by an affine map that is not singular.
use Rattle.std.proofs.Common.{◌≡◌, ℕ, ◌+◌, ◌<◌, List, [], ◌∷◌, length, get_or, map, refl, sym, ap, ◌∙◌, subst, arith, ℤ, pos, ◌+ℤ◌, ◌-ℤ◌, ◌*ℤ◌, ◌<ℤ◌, ◌≤ℤ◌, unsigned_abs, All, Any, ◌↔◌}
use Rattle.std.specs.List.{AllZip}
use Rattle.std.proofs.lemmas.List.{get_or-map, get_or_default, length-map}
use Rattle.plane_predicate.specs.Space.{Coefficients, Coordinates, point_at, value, AreCollinear, IsInReach, ComesInReach}
use Rattle.plane_predicate.proofs.lemmas.IntegerRing.{sums, mul_comm_ℤ, zero_mul}
use Rattle.plane_predicate.proofs.lemmas.Polynomials.{var, num, plus, times, minus, ring}
use Rattle.plane_predicate.proofs.lemmas.Signs.{pos_neg, least_most}
use Rattle.int_transform.specs.declared.affine.Affine.{Affine}
use Rattle.int_transform.specs.Maps.{coordinate_list, determinant_of, image}
use Rattle.primitives.specs.Shapes.{Mesh, mesh_point, value_at_point, HasTriangle, IsBehindFace, IsFaceOfShape, IsPlaneOfFace, IsInside, IsShape}
use Rattle.primitives.specs.Placing.{moved_mesh, ArePlanesOf, IsBehindAll}
use Rattle.primitives.proofs.lemmas.Distinct.{all_from_distinct, all_of_distinct, some_distinct}
use Rattle.primitives.proofs.lemmas.FacePlanes.{behind_body, behind_each}
use Rattle.primitives.proofs.lemmas.Lists.{zip_first, zip_second}
use Rattle.primitives.proofs.lemmas.Moves.{collinear_before, plane_follows, pulled, value-pulled, Follows}
use Rattle.primitives.proofs.lemmas.OnePlane.{not_zero_below, some_direction}

-- ---- planes with a direction
flat_at : (a b c d x y z w : ℤ) → a ≡ pos 0 → b ≡ pos 0 → c ≡ pos 0 → d ≡ pos 0 → a *ℤ x +ℤ b *ℤ y +ℤ c *ℤ z -ℤ d *ℤ w ≡ pos 0
flat_at a b c d x y z w ea eb ec ed =
    rw (ea, eb, ec, ed) (ring (x ∷ y ∷ z ∷ w ∷ []) (minus (plus (plus (times (num (pos 0)) (var 0)) (times (num (pos 0)) (var 1))) (times (num (pos 0)) (var 2))) (times (num (pos 0)) (var 3))) (num (pos 0)) refl)

flat_offset : (a b c d x y z : ℤ) → a ≡ pos 0 → b ≡ pos 0 → c ≡ pos 0 → a *ℤ x +ℤ b *ℤ y +ℤ c *ℤ z -ℤ d *ℤ pos 1 ≡ pos 0 → d ≡ pos 0
flat_offset a b c d x y z ea eb ec e =
    let h : pos 0 *ℤ x +ℤ pos 0 *ℤ y +ℤ pos 0 *ℤ z -ℤ d *ℤ pos 1 ≡ pos 0 = rw (ea, eb, ec) at e in
    let r = ring (x ∷ y ∷ z ∷ d ∷ []) (minus (plus (plus (times (num (pos 0)) (var 0)) (times (num (pos 0)) (var 1))) (times (num (pos 0)) (var 2))) (times (var 3) (num (pos 1)))) (minus (num (pos 0)) (var 3)) refl in
    omega (arith, sums, r, h)

-- a plane on a point of weight 1 and off another point has a direction
directed_by : (m : Coefficients) (p : List ℤ) (q : Coordinates) → value m (point_at p) ≡ pos 0 → value m q <ℤ pos 0 → 0 < unsigned_abs m.a + unsigned_abs m.b + unsigned_abs m.c
directed_by m p q on off =
    some_direction m.a m.b m.c (λ ea eb ec. not_zero_below (value m q) off (flat_at m.a m.b m.c m.d q.x q.y q.z q.w ea eb ec (flat_offset m.a m.b m.c m.d (get_or p 0 (pos 0)) (get_or p 1 (pos 0)) (get_or p 2 (pos 0)) ea eb ec on)))

-- ---- corners
pub corner-moved_mesh : (f : Affine) (points : List (List ℤ)) (i : ℕ) → i < length points → mesh_point (map (λ (p : List ℤ). coordinate_list (image f (point_at p))) points) i ≡ image f (mesh_point points i)
corner-moved_mesh f points i lt = ap point_at (get_or-map (λ (p : List ℤ). coordinate_list (image f (point_at p))) points i [] [] lt)

-- the corners of all faces are there
abbrev pub AreThere : Mesh → List ℕ → Type 0
AreThere mesh face = All (λ (i : ℕ). i < length mesh.points) face

faces_there : (mesh : Mesh) → All (IsFaceOfShape mesh) mesh.faces → All (AreThere mesh) mesh.faces
faces_there mesh h = λ k d lt. (h k d lt).there

-- the value of a plane at a moved corner
value-moved_mesh : (f : Affine) (mesh : Mesh) (m : Coefficients) (i : ℕ) → i < length mesh.points → value_at_point (moved_mesh f mesh).points m i ≡ value m (image f (mesh_point mesh.points i))
value-moved_mesh f mesh m i lt = ap (value m) (corner-moved_mesh f mesh.points i lt)

times_zero : (x y z : ℤ) → x ≡ y *ℤ z → z ≡ pos 0 → x ≡ pos 0
times_zero x y z e h = e ∙ ap (λ (n : ℤ). y *ℤ n) h ∙ mul_comm_ℤ y (pos 0) ∙ zero_mul y

times_most : (x y z : ℤ) → x ≡ y *ℤ z → pos 0 <ℤ y → z ≤ℤ pos 0 → x ≤ℤ pos 0
times_most x y z e hy hz = subst (λ (n : ℤ). n ≤ℤ pos 0) (sym e) (least_most y z (omega (arith, sums, hy)) hz)

times_below : (x y z : ℤ) → x ≡ y *ℤ z → pos 0 <ℤ y → z <ℤ pos 0 → x <ℤ pos 0
times_below x y z e hy hz = subst (λ (n : ℤ). n <ℤ pos 0) (sym e) (pos_neg y z hy hz)

-- ---- face planes
pub plane_after : (f : Affine) (mesh : Mesh) (face : List ℕ) → All (AreThere mesh) mesh.faces → AreThere mesh face → 0 < length face → (m : Coefficients) (n : Follows f m) → IsPlaneOfFace mesh face m → (p : Coordinates) → value m p <ℤ pos 0 → IsPlaneOfFace (moved_mesh f mesh) face n.plane
plane_after f mesh face all there some m n h p below =
    let on : All (λ (i : ℕ). value_at_point (moved_mesh f mesh).points n.plane i ≡ pos 0) face = λ k d lt. times_zero _ n.by (value_at_point mesh.points m (get_or face k d)) (value-moved_mesh f mesh n.plane (get_or face k d) (there k d lt) ∙ n.times (mesh_point mesh.points (get_or face k d))) (h.on k d lt) in
    record {
      directed = directed_by n.plane (get_or (moved_mesh f mesh).points (get_or face 0 0) []) (image f p) (on 0 0 some) (times_below _ n.by (value m p) (n.times p) n.above below);
      on = on;
      none_ahead = λ g e hg k d hk.
          let i = get_or (get_or mesh.faces g e) k d in
          times_most _ n.by (value_at_point mesh.points m i) (value-moved_mesh f mesh n.plane i (all g e hg k d hk) ∙ n.times (mesh_point mesh.points i)) n.above (h.none_ahead g e hg k d hk);
    }

pub plane_before : (f : Affine) (mesh : Mesh) (face : List ℕ) → All (AreThere mesh) mesh.faces → AreThere mesh face → 0 < length face → (m : Coefficients) → IsPlaneOfFace (moved_mesh f mesh) face m → (p : Coordinates) → value m (image f p) <ℤ pos 0 → IsPlaneOfFace mesh face (pulled m f)
plane_before f mesh face all there some m h p below =
    let on : All (λ (i : ℕ). value_at_point mesh.points (pulled m f) i ≡ pos 0) face = λ k d lt. value-pulled m f (mesh_point mesh.points (get_or face k d)) ∙ sym (value-moved_mesh f mesh m (get_or face k d) (there k d lt)) ∙ h.on k d lt in
    record {
      directed = directed_by (pulled m f) (get_or mesh.points (get_or face 0 0) []) p (on 0 0 some) (subst (λ (n : ℤ). n <ℤ pos 0) (sym (value-pulled m f p)) below);
      on = on;
      none_ahead = λ g e hg k d hk.
          let i = get_or (get_or mesh.faces g e) k d in
          subst (λ (n : ℤ). n ≤ℤ pos 0) (value-moved_mesh f mesh m i (all g e hg k d hk) ∙ sym (value-pulled m f (mesh_point mesh.points i))) (h.none_ahead g e hg k d hk);
    }

-- ---- faces
same_line : (p q r a b c : Coordinates) → p ≡ a → q ≡ b → r ≡ c → AreCollinear p q r → AreCollinear a b c
same_line p q r a b c ep eq er h = subst (λ (z : Coordinates). AreCollinear a b z) er (subst (λ (z : Coordinates). AreCollinear a z r) eq (subst (λ (z : Coordinates). AreCollinear z q r) ep h))

triangle_after : (f : Affine) (mesh : Mesh) (face : List ℕ) → (determinant_of f ≡ pos 0 → ⊥) → AreThere mesh face → HasTriangle mesh.points face → HasTriangle (moved_mesh f mesh).points face
triangle_after f mesh face regular there t =
    let i = get_or face t.first 0 in let j = get_or face t.second 0 in let k = get_or face t.third 0 in
    let a : List ℤ = get_or mesh.points i [] in let b : List ℤ = get_or mesh.points j [] in let c : List ℤ = get_or mesh.points k [] in
    record {
      first = t.first;
      second = t.second;
      third = t.third;
      first_in = t.first_in;
      second_in = t.second_in;
      third_in = t.third_in;
      apart = λ h. t.apart (collinear_before f (get_or a 0 (pos 0)) (get_or a 1 (pos 0)) (get_or a 2 (pos 0)) (get_or b 0 (pos 0)) (get_or b 1 (pos 0)) (get_or b 2 (pos 0)) (get_or c 0 (pos 0)) (get_or c 1 (pos 0)) (get_or c 2 (pos 0)) regular
          (same_line _ _ _ _ _ _ (corner-moved_mesh f mesh.points i (there t.first 0 t.first_in)) (corner-moved_mesh f mesh.points j (there t.second 0 t.second_in)) (corner-moved_mesh f mesh.points k (there t.third 0 t.third_in)) h));
    }

some_corner : (points : List (List ℤ)) (face : List ℕ) → HasTriangle points face → 0 < length face
some_corner points face t = omega (arith, t.first_in)

pub face_after : (f : Affine) (mesh : Mesh) → (determinant_of f ≡ pos 0 → ⊥) → All (IsFaceOfShape mesh) mesh.faces → (face : List ℕ) → IsFaceOfShape mesh face → IsFaceOfShape (moved_mesh f mesh) face
face_after f mesh regular all face is =
    let n = plane_follows f is.body.plane regular in
    let i = get_or (get_or mesh.faces is.body.at_face []) is.body.at 0 in
    record {
      there = λ k d lt. subst (λ (n : ℕ). get_or face k d < n) (sym (length-map mesh.points (λ (p : List ℤ). coordinate_list (image f (point_at p))))) (is.there k d lt);
      triangle = triangle_after f mesh face regular is.there is.triangle;
      body = record {
        plane = n.plane;
        is = plane_after f mesh face (faces_there mesh all) is.there (some_corner mesh.points face is.triangle) is.body.plane n is.body.is (mesh_point mesh.points i) is.body.behind;
        at_face = is.body.at_face;
        at = is.body.at;
        at_face_in = is.body.at_face_in;
        at_in = is.body.at_in;
        behind = times_below _ n.by (value_at_point mesh.points is.body.plane i) (value-moved_mesh f mesh n.plane i (faces_there mesh all is.body.at_face [] is.body.at_face_in is.body.at 0 is.body.at_in) ∙ n.times (mesh_point mesh.points i)) n.above is.body.behind;
      };
    }

pub faces_after : (f : Affine) (mesh : Mesh) → (determinant_of f ≡ pos 0 → ⊥) → All (IsFaceOfShape mesh) mesh.faces → All (IsFaceOfShape (moved_mesh f mesh)) mesh.faces
faces_after f mesh regular all = λ k d lt. face_after f mesh regular all (get_or mesh.faces k d) (all k d lt)

-- ---- points inside
pub inside-moved_mesh : (f : Affine) (mesh : Mesh) → (determinant_of f ≡ pos 0 → ⊥) → All (IsFaceOfShape mesh) mesh.faces → (p : Coordinates) → IsInside mesh p ↔ IsInside (moved_mesh f mesh) (image f p)
inside-moved_mesh f mesh regular all p = (
  λ h k d lt.
      let face = get_or mesh.faces k d in let is = all k d lt in let b = h k d lt in let n = plane_follows f b.plane regular in
      record {
        plane = n.plane;
        is = plane_after f mesh face (faces_there mesh all) is.there (some_corner mesh.points face is.triangle) b.plane n b.is p b.behind;
        behind = times_below _ n.by (value b.plane p) (n.times p) n.above b.behind;
      },
  λ h k d lt.
      let face = get_or mesh.faces k d in let is = all k d lt in let b = h k d lt in
      record {
        plane = pulled b.plane f;
        is = plane_before f mesh face (faces_there mesh all) is.there (some_corner mesh.points face is.triangle) b.plane b.is p b.behind;
        behind = subst (λ (n : ℤ). n <ℤ pos 0) (sym (value-pulled b.plane f p)) b.behind;
      },
)

-- a face, and a point behind its plane
pub record IsFaceBefore (mesh : Mesh) (p : Coordinates) (face : List ℕ) : Type 0 where
  pub is : IsFaceOfShape mesh face
  pub behind : IsBehindFace mesh p face

pub inside-planes : (mesh : Mesh) → All (IsFaceOfShape mesh) mesh.faces → (planes : List Coefficients) → ArePlanesOf mesh mesh.faces planes → (p : Coordinates) → IsInside mesh p ↔ IsBehindAll planes p
inside-planes mesh all planes h p =
    let P : Coefficients → Type 0 = λ m. value m p <ℤ pos 0 in (
      λ inside. subst (All P) (sym h.first) (all_of_distinct P h.all (zip_second (IsPlaneOfFace mesh) (IsFaceBefore mesh p) P
          (λ face m r b. behind_each mesh face b.is m r p (behind_body mesh face b.is b.behind.plane b.behind.is p b.behind.behind)) mesh.faces h.all h.each
          (λ k d lt. record { is = all k d lt; behind = inside k d lt }))),
      λ behind. zip_first (IsPlaneOfFace mesh) (IsBehindFace mesh p) P (λ face m r b. record { plane = m; is = r; behind = b }) mesh.faces h.all h.each (all_from_distinct P h.all (subst (All P) h.first behind)),
    )

-- ---- the planes of placed points
pub planes_meet_reach : (mesh : Mesh) → All (IsFaceOfShape mesh) mesh.faces → All (λ (p : List ℤ). IsInReach (point_at p)) mesh.points → (planes : List Coefficients) → ArePlanesOf mesh mesh.faces planes → All ComesInReach planes
planes_meet_reach mesh all reach planes h =
    subst (All ComesInReach) (sym h.first) (all_of_distinct ComesInReach h.all (zip_second (IsPlaneOfFace mesh) (IsFaceOfShape mesh) ComesInReach
    (λ face m r is. record { point = mesh_point mesh.points (get_or face 0 0); reach = reach (get_or face 0 0) [] (is.there 0 0 (some_corner mesh.points face is.triangle)); on = r.on 0 0 (some_corner mesh.points face is.triangle) }) mesh.faces h.all h.each all))

-- ---- a placed shape, by its points and faces
pub record IsPlaced (f : Affine) (mesh : Mesh) (points : List (List ℤ)) (faces : List (List ℕ)) : Type 0 where
  pub shape : IsShape mesh
  pub regular : 0 < length mesh.points → determinant_of f ≡ pos 0 → ⊥
  pub points_are : points ≡ (moved_mesh f mesh).points
  pub faces_are : faces ≡ mesh.faces

pub some_points : (mesh : Mesh) → IsShape mesh → 0 < length mesh.points
some_points mesh h = let is = h.faces 0 [] h.some in omega (arith, is.there 0 0 (some_corner mesh.points (get_or mesh.faces 0 []) is.triangle))

same_mesh : (f : Affine) (mesh : Mesh) (points : List (List ℤ)) (faces : List (List ℕ)) → IsPlaced f mesh points faces → let m : Mesh = record { points = points; faces = faces } in moved_mesh f mesh ≡ m
same_mesh f mesh points faces h = λ i. record { points = sym h.points_are i; faces = sym h.faces_are i }

pub placed_faces : (f : Affine) (mesh : Mesh) (points : List (List ℤ)) (faces : List (List ℕ)) → IsPlaced f mesh points faces → All (IsFaceOfShape (record { points = points; faces = faces })) faces
placed_faces f mesh points faces h =
    subst (λ (m : Mesh). All (IsFaceOfShape m) m.faces) (same_mesh f mesh points faces h) (faces_after f mesh (h.regular (some_points mesh h.shape)) h.shape.faces)

planes_placed : (f : Affine) (mesh : Mesh) (points : List (List ℤ)) (faces : List (List ℕ)) (planes : List Coefficients) → IsPlaced f mesh points faces → ArePlanesOf (record { points = points; faces = faces }) faces planes → ArePlanesOf (moved_mesh f mesh) mesh.faces planes
planes_placed f mesh points faces planes h r = subst (λ (m : Mesh). ArePlanesOf m m.faces planes) (sym (same_mesh f mesh points faces h)) r

pub inside-placed : (f : Affine) (mesh : Mesh) (points : List (List ℤ)) (faces : List (List ℕ)) (planes : List Coefficients) → IsPlaced f mesh points faces → ArePlanesOf (record { points = points; faces = faces }) faces planes → (p : Coordinates) → IsInside mesh p ↔ IsBehindAll planes (image f p)
inside-placed f mesh points faces planes h r p =
    let regular = h.regular (some_points mesh h.shape) in
    let first = inside-moved_mesh f mesh regular h.shape.faces p in
    let second = inside-planes (moved_mesh f mesh) (faces_after f mesh regular h.shape.faces) planes (planes_placed f mesh points faces planes h r) (image f p) in
    (λ inside. second.0 (first.0 inside), λ behind. first.1 (second.1 behind))

some_planes : (mesh : Mesh) (faces : List (List ℕ)) (all : List Coefficients) → AllZip (IsPlaneOfFace mesh) faces all → 0 < length faces → 0 < length all
some_planes mesh [] all h lt = absurd (omega (arith, lt))
some_planes mesh (face ∷ faces) [] h lt = absurd h
some_planes mesh (face ∷ faces) (m ∷ all) h lt = omega arith

pub some_placed : (f : Affine) (mesh : Mesh) (points : List (List ℤ)) (faces : List (List ℕ)) (planes : List Coefficients) → IsPlaced f mesh points faces → ArePlanesOf (record { points = points; faces = faces }) faces planes → 0 < length planes
some_placed f mesh points faces planes h r =
    let q = planes_placed f mesh points faces planes h r in
    subst (λ (ps : List Coefficients). 0 < length ps) (sym q.first) (some_distinct q.all (some_planes (moved_mesh f mesh) mesh.faces q.all q.each h.shape.some))

pub reach_placed : (f : Affine) (mesh : Mesh) (points : List (List ℤ)) (faces : List (List ℕ)) (planes : List Coefficients) → IsPlaced f mesh points faces → ArePlanesOf (record { points = points; faces = faces }) faces planes → All (λ (p : List ℤ). IsInReach (point_at p)) points → All ComesInReach planes
reach_placed f mesh points faces planes h r reach =
    planes_meet_reach (moved_mesh f mesh) (faces_after f mesh (h.regular (some_points mesh h.shape)) h.shape.faces) (subst (All (λ (p : List ℤ). IsInReach (point_at p))) h.points_are reach) planes (planes_placed f mesh points faces planes h r)

-- ---- the points of a placed shape
pub images_in_reach : (f : Affine) (points images : List (List ℤ)) → images ≡ map (λ (p : List ℤ). coordinate_list (image f (point_at p))) points → All (λ (p : List ℤ). IsInReach (point_at p)) images → All (λ (p : List ℤ). IsInReach (image f (point_at p))) points
images_in_reach f points images e h k d lt =
    let g = (λ (p : List ℤ). coordinate_list (image f (point_at p))) in
    let lt' : k < length images = omega (arith, ap length e, length-map points g) in
    subst (λ (p : List ℤ). IsInReach (point_at p)) (ap (λ (ps : List (List ℤ)). get_or ps k []) e ∙ get_or-map g points k d [] lt) (h k [] lt')

pub image_past_reach : (f : Affine) (points images : List (List ℤ)) → images ≡ map (λ (p : List ℤ). coordinate_list (image f (point_at p))) points → Any (λ (p : List ℤ). IsInReach (point_at p) → ⊥) images → Any (λ (p : List ℤ). IsInReach (image f (point_at p)) → ⊥) points
image_past_reach f points images e h =
    let g = (λ (p : List ℤ). coordinate_list (image f (point_at p))) in
    let lt : h.0 < length points = omega (arith, ap length e, length-map points g, h.2) in
    let same : h.1 ≡ g (get_or points h.0 []) = sym h.3 ∙ ap (λ (ps : List (List ℤ)). get_or ps h.0 h.1) e ∙ get_or-map g points h.0 [] h.1 lt in
    (h.0, get_or points h.0 [], lt, get_or_default points h.0 (get_or points h.0 []) [] lt, λ reach. h.4 (subst (λ (p : List ℤ). IsInReach (point_at p)) (sym same) reach))
