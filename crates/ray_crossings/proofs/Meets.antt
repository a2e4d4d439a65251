-- A way that leads from behind a plane to ahead of it goes through a face that faces the plane exactly where the face covers
-- the point at which the way meets the plane.
use Rattle.std.proofs.Common.{◌≡◌, ℕ, zero, suc, ◌<◌, ◌≤◌, true, ◌&&◌, List, [], ◌∷◌, length, slice_index_or, sym, ap, ◌∙◌, subst, arith, ℤ, pos, ◌+ℤ◌, ◌-ℤ◌, ◌*ℤ◌, ◌<ℤ◌, neg_ℤ, int_lt}
use Rattle.std.specs.List.{list_all}
use Rattle.std.proofs.Math.IntN.{*ℤ-zero}
use Rattle.std.proofs.lemmas.Bool.{and_parts, and_from}
use Rattle.plane_predicate.specs.declared.unit.Unit.{Unit as LengthUnit}
use Rattle.plane_predicate.specs.Space.{Coefficients, Coordinates, value, orientation_seen_from, inner_product}
use Rattle.plane_predicate.specs.Units.{grid_steps_per_unit}
use Rattle.plane_predicate.specs.InUnits.{in_steps}
use Rattle.plane_predicate.proofs.lemmas.IntegerRing.{sums, mul_comm_ℤ, mul_neg_left}
use Rattle.plane_predicate.proofs.lemmas.InUnits.{steps_above}
use Rattle.plane_predicate.proofs.lemmas.Identities.{combine, volume, dependent}
use Rattle.plane_predicate.proofs.lemmas.Signs.{pos_pos, pos_neg, pos_cancel, neg_cancel}
use Rattle.plane_polygon.proofs.lemmas.Hull.{after_inside, after_below}
use Rattle.closed_surface.specs.Closed.{edges_of, corners_at}
use Rattle.closed_surface.proofs.lemmas.Numbers.{below, below_back}
use Rattle.closed_surface.proofs.lemmas.Each.{Each}
use Rattle.off_text.specs.Boundaries.{face_corner, grid_corner, FacesPlane, FaceCovers}
use Rattle.off_text.proofs.lemmas.Rounded.{below_three, not_two}
use Rattle.ray_crossings.specs.Crossings.{plane_facing, orientation_to_face, passes_left, goes_through}
use Rattle.ray_crossings.proofs.Volumes.{height_volume, volume_in_steps, value_between, turn_between}
use Rattle.ray_crossings.proofs.Parts.{times_above, left_is}
use Rattle.ray_crossings.proofs.Counts.{each_edge, all_edges}
use Rattle.plane_predicate.specs.Indices.{index_after}

-- ---- numbers
first_of_four : (t u v s a b c d y : ℤ) → t *ℤ a -ℤ u *ℤ b +ℤ v *ℤ c -ℤ s *ℤ d ≡ y → b ≡ pos 0 → c ≡ pos 0 → d ≡ pos 0 → t *ℤ a ≡ y
first_of_four t u v s a b c d y e hb hc hd =
    omega (arith, sums, e, ap (λ (x : ℤ). u *ℤ x) hb ∙ *ℤ-zero u, ap (λ (x : ℤ). v *ℤ x) hc ∙ *ℤ-zero v, ap (λ (x : ℤ). s *ℤ x) hd ∙ *ℤ-zero s)

negative_below : (x y : ℤ) → x ≡ pos 0 -ℤ y → x <ℤ pos 0 → pos 0 <ℤ y
negative_below x y e h = omega (arith, sums)

negative_above : (x y : ℤ) → x ≡ pos 0 -ℤ y → pos 0 <ℤ x → y <ℤ pos 0
negative_above x y e h = omega (arith, sums)

below_negative : (x y : ℤ) → x ≡ pos 0 -ℤ y → pos 0 <ℤ y → x <ℤ pos 0
below_negative x y e h = omega (arith, sums)

above_negative : (x y : ℤ) → x ≡ pos 0 -ℤ y → y <ℤ pos 0 → pos 0 <ℤ x
above_negative x y e h = omega (arith, sums)

-- what the orientation_seen_from at the meeting point is, by the turns at both ends
at_meeting : (n vol va vb ta tb t3 t4 vp vq u v t : ℤ) → tb *ℤ va -ℤ ta *ℤ vb +ℤ t3 *ℤ vp -ℤ t4 *ℤ vq ≡ pos 0 -ℤ vol *ℤ n → vp ≡ pos 0 → vq ≡ pos 0 →
    u ≡ vb → v ≡ neg_ℤ va → t ≡ u *ℤ ta +ℤ v *ℤ tb → t ≡ n *ℤ vol
at_meeting n vol va vb ta tb t3 t4 vp vq u v t e hp hq hu hv ht =
    omega (
      arith,
      sums,
      e,
      ht,
      ap (λ (x : ℤ). x *ℤ ta) hu,
      ap (λ (x : ℤ). x *ℤ tb) hv,
      mul_neg_left va tb,
      mul_comm_ℤ tb va,
      mul_comm_ℤ ta vb,
      mul_comm_ℤ vol n,
      ap (λ (x : ℤ). t3 *ℤ x) hp ∙ *ℤ-zero t3,
      ap (λ (x : ℤ). t4 *ℤ x) hq ∙ *ℤ-zero t4,
    )

pub on_meeting : (va vb u v t : ℤ) → u ≡ vb → v ≡ neg_ℤ va → t ≡ u *ℤ va +ℤ v *ℤ vb → t ≡ pos 0
on_meeting va vb u v t hu hv ht =
    omega (arith, sums, ht, ap (λ (x : ℤ). x *ℤ va) hu, ap (λ (x : ℤ). x *ℤ vb) hv, mul_neg_left va vb, mul_comm_ℤ vb va)

module _ (unit : LengthUnit) (n : Coefficients) (directed : pos 0 <ℤ inner_product n n) where
  abbrev s : ℤ
  s = grid_steps_per_unit unit

  abbrev val : Coordinates → ℤ
  val p = value n (in_steps unit p)

  abbrev grid_volume : Coordinates → Coordinates → Coordinates → Coordinates → ℤ
  grid_volume a b p q = volume (in_steps unit a) (in_steps unit b) (in_steps unit p) (in_steps unit q)

  cubed_above : (x : ℤ) → int_lt (pos 0) (s *ℤ (s *ℤ (s *ℤ x))) ≡ int_lt (pos 0) x
  cubed_above x = times_above s (s *ℤ (s *ℤ x)) (steps_above unit) ∙ times_above s (s *ℤ x) (steps_above unit) ∙ times_above s x (steps_above unit)

  grid_above : (a b p q : Coordinates) → pos 0 <ℤ grid_volume a b p q → pos 0 <ℤ volume a b p q
  grid_above a b p q h =
      let v = volume a b p q in
      pos_cancel s v (steps_above unit) (pos_cancel s (s *ℤ v) (steps_above unit) (pos_cancel s (s *ℤ (s *ℤ v)) (steps_above unit)
      (subst (λ (x : ℤ). pos 0 <ℤ x) (volume_in_steps unit a b p q) h)))

  grid_below : (a b p q : Coordinates) → grid_volume a b p q <ℤ pos 0 → volume a b p q <ℤ pos 0
  grid_below a b p q h =
      let v = volume a b p q in
      neg_cancel s v (steps_above unit) (neg_cancel s (s *ℤ v) (steps_above unit) (neg_cancel s (s *ℤ (s *ℤ v)) (steps_above unit)
      (subst (λ (x : ℤ). x <ℤ pos 0) (volume_in_steps unit a b p q) h)))

  -- ---- heights over three corners
  module _ (p q r : Coordinates) (wp : pos 0 <ℤ p.w) (hp : val p ≡ pos 0) (hq : val q ≡ pos 0) (hr : val r ≡ pos 0)
      (turns : pos 0 <ℤ orientation_seen_from n (in_steps unit p) (in_steps unit q) (in_steps unit r)) (x : Coordinates) where
    abbrev around : ℤ
    around = orientation_seen_from n (in_steps unit p) (in_steps unit q) (in_steps unit r)

    by_volume : around *ℤ val x ≡ pos 0 -ℤ inner_product n n *ℤ grid_volume x p q r
    by_volume =
        first_of_four around
        (orientation_seen_from n (in_steps unit x) (in_steps unit q) (in_steps unit r)) (orientation_seen_from n (in_steps unit x) (in_steps unit p) (in_steps unit r)) (orientation_seen_from n (in_steps unit x) (in_steps unit p) (in_steps unit q))
        (val x) (val p) (val q) (val r) (pos 0 -ℤ inner_product n n *ℤ grid_volume x p q r)
        (dependent n n (in_steps unit x) (in_steps unit p) (in_steps unit q) (in_steps unit r) ∙ ap (λ (y : ℤ). pos 0 -ℤ y) (mul_comm_ℤ (grid_volume x p q r) (inner_product n n))) hp hq hr

    low_height : val x <ℤ pos 0 → orientation_seen_from (plane_facing p x) p q r <ℤ pos 0
    low_height h =
        below_negative (orientation_seen_from (plane_facing p x) p q r) (p.w *ℤ volume x p q r) (height_volume x p q r)
        (pos_pos p.w (volume x p q r) wp (grid_above x p q r (pos_cancel (inner_product n n) (grid_volume x p q r) directed
        (negative_below (around *ℤ val x) (inner_product n n *ℤ grid_volume x p q r) by_volume (pos_neg around (val x) turns h)))))

    high_height : pos 0 <ℤ val x → pos 0 <ℤ orientation_seen_from (plane_facing p x) p q r
    high_height h =
        above_negative (orientation_seen_from (plane_facing p x) p q r) (p.w *ℤ volume x p q r) (height_volume x p q r)
        (pos_neg p.w (volume x p q r) wp (grid_below x p q r (neg_cancel (inner_product n n) (grid_volume x p q r) directed
        (negative_above (around *ℤ val x) (inner_product n n *ℤ grid_volume x p q r) by_volume (pos_pos around (val x) turns h)))))

  -- ---- an edge, and the meeting point
  module _ (a b : Coordinates) (wa : pos 0 <ℤ a.w) (u v : ℤ) (hu : u ≡ val b) (hv : v ≡ neg_ℤ (val a)) where
    pub meeting_on : val (combine u a v b) ≡ pos 0
    meeting_on = on_meeting (val a) (val b) u v (val (combine u a v b)) hu hv (value_between unit n u a v b)

    module _ (p q : Coordinates) (hp : val p ≡ pos 0) (hq : val q ≡ pos 0) where
      abbrev meeting_turn : ℤ
      meeting_turn = orientation_seen_from n (in_steps unit p) (in_steps unit q) (in_steps unit (combine u a v b))

      pub turn_volume : meeting_turn ≡ inner_product n n *ℤ grid_volume a b p q
      turn_volume =
          at_meeting (inner_product n n) (grid_volume a b p q) (val a) (val b)
          (orientation_seen_from n (in_steps unit a) (in_steps unit p) (in_steps unit q)) (orientation_seen_from n (in_steps unit b) (in_steps unit p) (in_steps unit q))
          (orientation_seen_from n (in_steps unit a) (in_steps unit b) (in_steps unit q)) (orientation_seen_from n (in_steps unit a) (in_steps unit b) (in_steps unit p))
          (val p) (val q) u v meeting_turn
          (dependent n n (in_steps unit a) (in_steps unit b) (in_steps unit p) (in_steps unit q)) hp hq hu hv (turn_between unit n p q u a v b)

      passes_where : passes_left a b (p, q) ≡ int_lt (pos 0) meeting_turn
      passes_where =
          left_is a b (p, q) wa ∙ sym (cubed_above (volume a b p q)) ∙ ap (λ (x : ℤ). int_lt (pos 0) x) (sym (volume_in_steps unit a b p q))
          ∙ sym (times_above (inner_product n n) (grid_volume a b p q) directed) ∙ ap (λ (x : ℤ). int_lt (pos 0) x) (sym turn_volume)

-- ---- the corners of a face
origin_weight : pos 0 <ℤ pos 1
origin_weight = omega (arith, sums)

pub vertex_weight : (vertices : List Coordinates) → Each (λ p. pos 0 <ℤ p.w) vertices → (i : ℕ) →
    pos 0 <ℤ (slice_index_or vertices i (record { x = pos 0; y = pos 0; z = pos 0; w = pos 1 })).w
vertex_weight [] h i = origin_weight
vertex_weight (p ∷ vertices) h zero = h.0
vertex_weight (p ∷ vertices) h (suc i) = vertex_weight vertices h.1 i

module _ (unit : LengthUnit) (vertices : List Coordinates) (weights : Each (λ p. pos 0 <ℤ p.w) vertices) (n : Coefficients) (directed : pos 0 <ℤ inner_product n n) where
  abbrev side : Coordinates → ℤ
  side p = value n (in_steps unit p)

  -- ---- the height over a face has the sign of its plane's value
  first_turn : (face : List ℕ) → 3 ≤ length face → FacesPlane unit vertices n face → pos 0 <ℤ orientation_seen_from n (grid_corner unit vertices face 0) (grid_corner unit vertices face 1) (grid_corner unit vertices face 2)
  first_turn face three h =
      subst (λ (j : ℕ). pos 0 <ℤ orientation_seen_from n (grid_corner unit vertices face 0) (grid_corner unit vertices face j) (grid_corner unit vertices face 2))
      (after_inside (length face) 0 (omega arith))
      (h.left 0 2 (below_three 0 (length face) three (omega arith)) (below_three 2 (length face) three (omega arith)) (omega arith) (not_two (length face) three))

  pub height_behind : (face : List ℕ) → 3 ≤ length face → FacesPlane unit vertices n face → (x : Coordinates) → side x <ℤ pos 0 → orientation_to_face (corners_at vertices face) x <ℤ pos 0
  height_behind [] three h x b = absurd (omega arith)
  height_behind (i ∷ []) three h x b = absurd (omega arith)
  height_behind (i ∷ j ∷ []) three h x b = absurd (omega arith)
  height_behind (i ∷ j ∷ k ∷ face) three h x b =
      low_height unit n directed (face_corner vertices (i ∷ j ∷ k ∷ face) 0) (face_corner vertices (i ∷ j ∷ k ∷ face) 1) (face_corner vertices (i ∷ j ∷ k ∷ face) 2)
      (vertex_weight vertices weights i) (h.on 0 (omega arith)) (h.on 1 (omega arith)) (h.on 2 (omega arith)) (first_turn (i ∷ j ∷ k ∷ face) three h) x b

  pub height_ahead : (face : List ℕ) → 3 ≤ length face → FacesPlane unit vertices n face → (x : Coordinates) → pos 0 <ℤ side x → pos 0 <ℤ orientation_to_face (corners_at vertices face) x
  height_ahead [] three h x b = absurd (omega arith)
  height_ahead (i ∷ []) three h x b = absurd (omega arith)
  height_ahead (i ∷ j ∷ []) three h x b = absurd (omega arith)
  height_ahead (i ∷ j ∷ k ∷ face) three h x b =
      high_height unit n directed (face_corner vertices (i ∷ j ∷ k ∷ face) 0) (face_corner vertices (i ∷ j ∷ k ∷ face) 1) (face_corner vertices (i ∷ j ∷ k ∷ face) 2)
      (vertex_weight vertices weights i) (h.on 0 (omega arith)) (h.on 1 (omega arith)) (h.on 2 (omega arith)) (first_turn (i ∷ j ∷ k ∷ face) three h) x b

  -- ---- going through the face is covering the meeting point
  module _ (a b : Coordinates) (wa : pos 0 <ℤ a.w) (low : side a <ℤ pos 0) (high : pos 0 <ℤ side b) (u v : ℤ) (hu : u ≡ side b) (hv : v ≡ neg_ℤ (side a))
      (face : List ℕ) (three : 3 ≤ length face) where
    abbrev meeting_point : Coordinates
    meeting_point = combine u a v b

    passes_edge : FacesPlane unit vertices n face → (i : ℕ) → i < length face →
        passes_left a b (face_corner vertices face i, face_corner vertices face (index_after (length face) i))
        ≡ int_lt (pos 0) (orientation_seen_from n (grid_corner unit vertices face i) (grid_corner unit vertices face (index_after (length face) i)) (in_steps unit meeting_point))
    passes_edge h i l =
        passes_where unit n directed a b wa u v hu hv (face_corner vertices face i) (face_corner vertices face (index_after (length face) i))
        (h.on i l) (h.on (index_after (length face) i) (after_below (length face) i l))

    pub through_covers : FacesPlane unit vertices n face → goes_through a b (corners_at vertices face) ≡ true → FaceCovers unit vertices n meeting_point face
    through_covers h e =
        let corners = corners_at vertices face in
        let all = list_all (passes_left a b) (edges_of corners) in
        let k = and_parts (int_lt (pos 0) (orientation_to_face corners b)) all
        (and_parts (int_lt (orientation_to_face corners a) (pos 0)) (int_lt (pos 0) (orientation_to_face corners b) && all) e).1 in record {
          faces = h;
          on = meeting_on unit n directed a b wa u v hu hv;
          left = λ i l. below_back (pos 0) _ (sym (passes_edge h i l) ∙ each_edge (passes_left a b) vertices face (omega arith) k.1 i l);
        }

    pub covers_through : FaceCovers unit vertices n meeting_point face → goes_through a b (corners_at vertices face) ≡ true
    covers_through c =
        let corners = corners_at vertices face in
        let all = list_all (passes_left a b) (edges_of corners) in
        and_from (int_lt (orientation_to_face corners a) (pos 0)) (int_lt (pos 0) (orientation_to_face corners b) && all)
        (below (orientation_to_face corners a) (pos 0) (height_behind face three c.faces a low))
        (and_from (int_lt (pos 0) (orientation_to_face corners b)) all (below (pos 0) (orientation_to_face corners b) (height_ahead face three c.faces b high))
        (all_edges (passes_left a b) vertices face (omega arith) (λ i l. passes_edge c.faces i l ∙ below (pos 0) _ (c.left i l))))
