-- A way that stays ahead of a plane which has no vertex ahead of it crosses no face, and touches no edge.
use Rattle.std.proofs.Common.{◌≡◌, ◌≢◌, inl, inr, ℕ, suc, ◌+◌, ◌-◌, ◌<◌, ◌≤◌, Bool, true, false, not, List, [], ◌∷◌, length, slice_index, slice_index_or, refl, sym, ap, ap₂, ◌∙◌, subst, true≢false, arith, ℤ, pos, ◌+ℤ◌, ◌-ℤ◌, ◌*ℤ◌, ◌<ℤ◌, ◌≤ℤ◌, neg_ℤ, int_lt, All}
use Rattle.std.specs.List.{list_all, list_any}
use Rattle.std.proofs.lemmas.Bool.{or_parts, or_right, and_from}
use Rattle.plane_predicate.specs.declared.unit.Unit.{Unit as LengthUnit}
use Rattle.plane_predicate.specs.Space.{Coefficients, Coordinates, value, orientation_seen_from, inner_product}
use Rattle.plane_predicate.specs.Units.{grid_steps_per_unit}
use Rattle.plane_predicate.specs.InUnits.{in_steps}
use Rattle.plane_predicate.proofs.lemmas.IntegerRing.{sums}
use Rattle.plane_predicate.proofs.lemmas.InUnits.{steps_above}
use Rattle.plane_predicate.proofs.lemmas.Identities.{combine, volume, turn_back, turn_round}
use Rattle.plane_predicate.proofs.lemmas.Signs.{signs, most_cancel, least_most, most_most}
use Rattle.plane_polygon.proofs.lemmas.FourPoints.{four_points}
use Rattle.plane_polygon.proofs.lemmas.Hull.{after_below, after_inside, after_last}
use Rattle.csg_tree.specs.HalfSpaceTrees.{Tree, holds, sides_of}
use Rattle.csg_tree.specs.ProperTrees.{HasFullLeaves}
use Rattle.closed_surface.specs.Closed.{Edge, edges_of, corners_at}
use Rattle.closed_surface.specs.Near.{indicator}
use Rattle.closed_surface.proofs.lemmas.Each.{Each, each_both, each_from_all, total_zero}
use Rattle.closed_surface.proofs.lemmas.Numbers.{below, at_least, zero_at_least, false_by}
use Rattle.off_text.specs.Boundaries.{face_corner, grid_corner, FacesPlane}
use Rattle.off_text.specs.Reading.{IsPrintedFace}
use Rattle.off_text.specs.Bounding.{IsBoundary, IsBoundaryFace}
use Rattle.watertight.proofs.lemmas.Inner.{turning_point}
use Rattle.ray_crossings.specs.Crossings.{orientation_to_face, passes_left, passes_right, passes_clear, goes_through, crossing}
use Rattle.ray_crossings.specs.Positions.{IsOffFacePlanes}
use Rattle.ray_crossings.proofs.Volumes.{volume_in_steps, value_between}
use Rattle.ray_crossings.proofs.Parts.{sum_above}
use Rattle.ray_crossings.proofs.Counts.{each_edge}
use Rattle.ray_crossings.proofs.Meets.{turn_volume, meeting_on, through_covers}
use Rattle.ray_crossings.proofs.Single.{weights, directed, low_side, high_side, parted}
use Rattle.ray_crossings.proofs.Clear.{right_is, times_below}
use Rattle.ray_crossings.proofs.Moving.{told_clear}
use Rattle.plane_predicate.specs.Indices.{index_after}

-- ---- a point of a face, its border too, is behind or on each plane that no corner is ahead of
between : (t u v s a b c d : ℤ) → pos 0 ≤ℤ t → u ≤ℤ pos 0 → pos 0 ≤ℤ v → pos 0 <ℤ s → a ≤ℤ pos 0 → b ≤ℤ pos 0 → c ≤ℤ pos 0 →
    t *ℤ a -ℤ u *ℤ b +ℤ v *ℤ c -ℤ s *ℤ d ≡ pos 0 → d ≤ℤ pos 0
between t u v s a b c d ht hu hv hs ha hb hc e =
    most_cancel s d hs (omega (arith, sums, e, least_most t a ht ha, most_most u b hu hb, least_most v c hv hc))

module _ (unit : LengthUnit) (vertices : List Coordinates) (face : List ℕ) (three : 3 ≤ length face) (n : Coefficients) (is_directed : pos 0 <ℤ inner_product n n)
    (h : FacesPlane unit vertices n face) (q : Coordinates) (on : value n (in_steps unit q) ≡ pos 0)
    (left : (i : ℕ) → i < length face → pos 0 ≤ℤ orientation_seen_from n (grid_corner unit vertices face i) (grid_corner unit vertices face (index_after (length face) i)) (in_steps unit q)) where
  abbrev spot : ℕ → Coordinates
  spot i = grid_corner unit vertices face i

  abbrev here : Coordinates
  here = in_steps unit q

  abbrev around : ℕ → ℤ
  around i = orientation_seen_from n (spot 0) (spot i) here

  left_to : (i j : ℕ) → i < length face → index_after (length face) i ≡ j → pos 0 ≤ℤ orientation_seen_from n (spot i) (spot j) here
  left_to i j l e = subst (λ (k : ℕ). pos 0 ≤ℤ orientation_seen_from n (spot i) (spot k) here) e (left i l)

  back : pos 0 ≤ℤ orientation_seen_from n (spot (length face - 1)) (spot 0) here
  back = left_to (length face - 1) 0 (omega arith) (after_last (length face) (length face - 1) (omega arith))

  last : around (length face - 1) ≤ℤ pos 0
  last = omega (arith, sums, back, turn_back n (spot (length face - 1)) (spot 0) here)

  last_by_sum : around (1 + suc (length face - 3)) ≤ℤ pos 0
  last_by_sum = let e : length face - 1 ≡ 1 + suc (length face - 3) = omega arith in subst (λ (k : ℕ). around k ≤ℤ pos 0) e last

  fan : (i : ℕ) → 1 ≤ i → suc i < length face → pos 0 <ℤ orientation_seen_from n (spot 0) (spot i) (spot (suc i))
  fan i low high =
      let e = after_inside (length face) i high in
      let apart : 0 ≢ index_after (length face) i = subst (λ (k : ℕ). 0 ≢ k) (sym e) (omega arith) in
      subst (λ (v : ℤ). pos 0 <ℤ v) (turn_round n (spot 0) (spot i) (spot (suc i)))
      (subst (λ (k : ℕ). pos 0 <ℤ orientation_seen_from n (spot i) (spot k) (spot 0)) e (h.left i 0 (omega arith) (omega arith) (omega arith) apart))

  pub none_ahead : (m : Coefficients) → ((i : ℕ) → i < length face → value m (spot i) ≤ℤ pos 0) → value m here ≤ℤ pos 0
  none_ahead m corners =
      let w = turning_point around 1 (length face - 3) (left_to 0 1 (omega arith) (after_inside (length face) 0 (omega arith))) last_by_sum in
      let i = w.0 in
      let high : suc i < length face = omega (arith, w.2, three) in
      let e = after_inside (length face) i high in
      between (orientation_seen_from n (spot i) (spot (suc i)) here) (orientation_seen_from n (spot 0) (spot (suc i)) here) (orientation_seen_from n (spot 0) (spot i) here) (orientation_seen_from n (spot 0) (spot i) (spot (suc i)))
      (value m (spot 0)) (value m (spot i)) (value m (spot (suc i))) (value m here)
      (left_to i (suc i) (omega (arith, high)) e) w.4 w.3 (fan i w.1 high)
      (corners 0 (omega arith)) (corners i (omega (arith, high))) (corners (suc i) high)
      (four_points n is_directed (spot 0) (spot i) (spot (suc i)) here (h.on 0 (omega arith)) (h.on i (omega (arith, high))) (h.on (suc i) high) on m)

-- ---- tests
none_passes : (t : Edge → Bool) (es : List Edge) → list_any t es ≡ false → list_all (λ e. not (t e)) es ≡ true
none_passes t [] e = refl
none_passes t (x ∷ es) e =
    let p = or_parts (t x) (list_any t es) e in
    and_from (not (t x)) (list_all (λ y. not (t y)) es) (ap not p.0) (none_passes t es p.1)

false_of : (b : Bool) → not b ≡ true → b ≡ false
false_of true e = absurd (true≢false (sym e))
false_of false e = refl

not_least : (x : ℤ) → int_lt x (pos 0) ≡ false → pos 0 ≤ℤ x
not_least x e = elim (signs x) [
  | inl l ↦ absurd (true≢false (sym (below x (pos 0) l) ∙ e))
  | inr (inl z) ↦ zero_at_least x z
  | inr (inr g) ↦ at_least x g
]

ahead_not_behind : (x : ℤ) → pos 0 <ℤ x → x ≤ℤ pos 0 → ⊥
ahead_not_behind x h k = omega (arith, sums)

same_number : (x y : Bool) → pos 0 ≡ indicator x -ℤ indicator y → x ≡ y
same_number true true e = refl
same_number true false e = absurd (omega (arith, sums, e))
same_number false true e = absurd (omega (arith, sums, e))
same_number false false e = refl

above_negative : (x : ℤ) → x <ℤ pos 0 → pos 0 <ℤ neg_ℤ x
above_negative x h = omega (arith, sums)

-- ---- the way stays ahead of k
module _ (unit : LengthUnit) (bytes : List ℕ) (f : Tree) (full : HasFullLeaves f) (text : IsBoundary unit bytes f) (k : Coefficients)
    (behind : All (λ (v : Coordinates). value k (in_steps unit v) ≤ℤ pos 0) text.vertices) where
  abbrev at : Coefficients → Coordinates → ℤ
  at m p = value m (in_steps unit p)

  abbrev IsFaceThere : List ℕ → Type 0
  IsFaceThere face = IsBoundaryFace unit f text.vertices face × IsPrintedFace (length text.vertices) face

  corner_behind : (face : List ℕ) → IsFaceThere face → (i : ℕ) → i < length face → value k (grid_corner unit text.vertices face i) ≤ℤ pos 0
  corner_behind face h i l = behind (slice_index face i) (record { x = pos 0; y = pos 0; z = pos 0; w = pos 1 }) (h.1.known i 0 l)

  module _ (a b : Coordinates) (oa : IsOffFacePlanes unit f a) (ob : IsOffFacePlanes unit f b) (ga : pos 0 <ℤ at k a) (gb : pos 0 <ℤ at k b) where
    module _ (face : List ℕ) (h : IsFaceThere face) (low : at h.0.plane a <ℤ pos 0) (high : pos 0 <ℤ at h.0.plane b) where
      abbrev n : Coefficients
      n = h.0.plane

      abbrev u : ℤ
      u = at h.0.plane b

      abbrev v : ℤ
      v = neg_ℤ (at h.0.plane a)

      abbrev meeting : Coordinates
      meeting = combine (at h.0.plane b) a (neg_ℤ (at h.0.plane a)) b

      is_directed : pos 0 <ℤ inner_product h.0.plane h.0.plane
      is_directed = directed unit bytes f full text n h.0.of_formula

      meeting_ahead : pos 0 <ℤ value k (in_steps unit meeting)
      meeting_ahead = sum_above u v (at k a) (at k b) (at k meeting) high (above_negative (at n a) low) (value_between unit k u a v b) ga gb

      -- not all edges have the meeting point left of them or on them
      not_in : ((i : ℕ) → i < length face →
          pos 0 ≤ℤ orientation_seen_from n (grid_corner unit text.vertices face i) (grid_corner unit text.vertices face (index_after (length face) i)) (in_steps unit meeting)) → ⊥
      not_in left =
          ahead_not_behind (value k (in_steps unit meeting)) meeting_ahead
          (none_ahead unit text.vertices face h.1.three n is_directed h.0.faces meeting (meeting_on unit n is_directed a b oa.world.weight u v refl refl) left k (corner_behind face h))

      cubed_below : (x : ℤ) → int_lt (grid_steps_per_unit unit *ℤ (grid_steps_per_unit unit *ℤ (grid_steps_per_unit unit *ℤ x))) (pos 0) ≡ int_lt x (pos 0)
      cubed_below x =
          times_below (grid_steps_per_unit unit) (grid_steps_per_unit unit *ℤ (grid_steps_per_unit unit *ℤ x)) (steps_above unit) ∙ times_below (grid_steps_per_unit unit) (grid_steps_per_unit unit *ℤ x) (steps_above unit)
          ∙ times_below (grid_steps_per_unit unit) x (steps_above unit)

      abbrev edge_turn : ℕ → ℤ
      edge_turn i = orientation_seen_from n (grid_corner unit text.vertices face i) (grid_corner unit text.vertices face (index_after (length face) i)) (in_steps unit meeting)

      right_where : (i : ℕ) → i < length face → index_after (length face) i < length face →
          passes_right a b (face_corner text.vertices face i, face_corner text.vertices face (index_after (length face) i)) ≡ int_lt (edge_turn i) (pos 0)
      right_where i l m =
          let p = face_corner text.vertices face i in let q = face_corner text.vertices face (index_after (length face) i) in
          let grid = volume (in_steps unit a) (in_steps unit b) (in_steps unit p) (in_steps unit q) in
          right_is a b (p, q) oa.world.weight ∙ sym (cubed_below (volume a b p q)) ∙ ap (λ (x : ℤ). int_lt x (pos 0)) (sym (volume_in_steps unit a b p q))
          ∙ sym (times_below (inner_product n n) grid is_directed)
          ∙ ap (λ (x : ℤ). int_lt x (pos 0)) (sym (turn_volume unit n is_directed a b oa.world.weight u v refl refl p q (h.0.faces.on i l) (h.0.faces.on (index_after (length face) i) m)))

      abbrev some_right : Bool
      some_right = list_any (passes_right a b) (edges_of (corners_at text.vertices face))

      none_right : list_any (passes_right a b) (edges_of (corners_at text.vertices face)) ≡ false → ⊥
      none_right e =
          not_in (λ i l. not_least (edge_turn i) (sym (right_where i l (after_below (length face) i l)) ∙ false_of _
          (each_edge (λ x. not (passes_right a b x)) text.vertices face (omega (arith, h.1.three)) (none_passes (passes_right a b) (edges_of (corners_at text.vertices face)) e) i l)))

      by_test : (t : Bool) → list_any (passes_right a b) (edges_of (corners_at text.vertices face)) ≡ t → passes_clear a b (corners_at text.vertices face) ≡ true
      by_test true e = or_right (list_all (passes_left a b) (edges_of (corners_at text.vertices face))) some_right e
      by_test false e = absurd (none_right e)

      is_clear : passes_clear a b (corners_at text.vertices face) ≡ true
      is_clear = by_test some_right refl

      not_through : goes_through a b (corners_at text.vertices face) ≡ true → ⊥
      not_through e =
          let c = through_covers unit text.vertices (weights unit bytes f full text) n is_directed a b oa.world.weight low high u v refl refl face h.1.three h.0.faces e in
          not_in (λ i l. at_least (edge_turn i) (c.left i l))

    clear_out : (face : List ℕ) → IsFaceThere face → orientation_to_face (corners_at text.vertices face) a <ℤ pos 0 → pos 0 <ℤ orientation_to_face (corners_at text.vertices face) b →
        passes_clear a b (corners_at text.vertices face) ≡ true
    clear_out face h x y =
        is_clear face h
        (low_side unit bytes f full text h.0.plane h.0.of_formula face h.1.three h.0.faces a oa x)
        (high_side unit bytes f full text h.0.plane h.0.of_formula face h.1.three h.0.faces b ob y)

    through_none : (face : List ℕ) → IsFaceThere face → goes_through a b (corners_at text.vertices face) ≡ false
    through_none face h =
        false_by (goes_through a b (corners_at text.vertices face))
        (λ e. let p = parted unit bytes f full text h.0.plane h.0.of_formula face h.1.three h.0.faces a b oa ob e in not_through face h p.0 p.1 e)

  each_there : Each IsFaceThere text.faces
  each_there =
      each_both (IsBoundaryFace unit f text.vertices) (IsPrintedFace (length text.vertices)) text.faces
      (each_from_all (IsBoundaryFace unit f text.vertices) text.faces text.bounding) (each_from_all (IsPrintedFace (length text.vertices)) text.faces text.read.loops)

  pub alike : (a b : Coordinates) → IsOffFacePlanes unit f a → IsOffFacePlanes unit f b → pos 0 <ℤ at k a → pos 0 <ℤ at k b →
      holds f (sides_of (in_steps unit a)) ≡ holds f (sides_of (in_steps unit b))
  alike a b oa ob ga gb =
      same_number (holds f (sides_of (in_steps unit a))) (holds f (sides_of (in_steps unit b)))
      (sym (total_zero IsFaceThere (λ face. crossing a b (corners_at text.vertices face))
      (λ face h. ap₂ (λ (x y : Bool). indicator x -ℤ indicator y) (through_none a b oa ob ga gb face h) (through_none b a ob oa gb ga face h)) text.faces each_there)
      ∙ told_clear unit bytes f full text a b oa ob
      (λ i d l. (let h : IsFaceThere (slice_index_or text.faces i d) = (text.bounding i d l, text.read.loops i d l) in record {
        out = clear_out a b oa ob ga gb (slice_index_or text.faces i d) h;
        back = clear_out b a ob oa gb ga (slice_index_or text.faces i d) h;
      })))
