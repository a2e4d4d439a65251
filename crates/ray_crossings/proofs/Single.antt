-- A way that one face plane alone parts: its crossings are the fall of the formula.
use Rattle.std.proofs.Common.{◌≡◌, ◌≢◌, inl, inr, ℕ, ◌<◌, ◌≤◌, Bool, true, false, not, ◌&&◌, if◌then◌else◌, List, [], length, slice_index_or, refl, sym, ap, ap₂, ◌∙◌, subst, true≢false, arith, ℤ, pos, ◌-ℤ◌, ◌<ℤ◌, neg_ℤ, int_lt}
use Rattle.std.specs.List.{list_all}
use Rattle.std.proofs.lemmas.Bool.{and_parts}
use Rattle.plane_predicate.specs.declared.unit.Unit.{Unit as LengthUnit}
use Rattle.plane_predicate.specs.Space.{Coefficients, Coordinates, value, inner_product, opposite_of, is_same}
use Rattle.plane_predicate.specs.InUnits.{in_steps}
use Rattle.plane_predicate.proofs.lemmas.IntegerRing.{sums}
use Rattle.plane_predicate.proofs.lemmas.Identities.{combine}
use Rattle.plane_predicate.proofs.lemmas.SamePlanes.{directed_above}
use Rattle.plane_predicate.proofs.lemmas.Signs.{signs}
use Rattle.csg_tree.specs.HalfSpaceTrees.{Tree, holds, sides_of, IsPlaneOf}
use Rattle.csg_tree.specs.FacePlanes.{IsFacePlane, IsOnOneFacePlane, sides_just_behind, sides_just_ahead, is_boundary_at}
use Rattle.csg_tree.specs.ProperTrees.{HasFullLeaves}
use Rattle.bsp_tree.proofs.lemmas.Opposites.{opposite_above, opposite_below}
use Rattle.bsp_tree.proofs.lemmas.SameNumbers.{same_equal, not_same}
use Rattle.plane_predicate.specs.Sums.{sum_over}
use Rattle.closed_surface.specs.Closed.{edges_of, corners_at}
use Rattle.closed_surface.specs.Near.{indicator}
use Rattle.closed_surface.proofs.lemmas.Each.{Each, each_weaker, each_from_all, total_difference}
use Rattle.closed_surface.proofs.lemmas.Lines.{IsEither, is_either, either_parts, either_is}
use Rattle.closed_surface.proofs.lemmas.Numbers.{below, not_below, below_back, at_least, not_zero_below, not_zero_above, not_both}
use Rattle.off_text.specs.Reading.{IsPrintedVertex}
use Rattle.off_text.specs.Boundaries.{FacesPlane, FaceCovers}
use Rattle.off_text.specs.Bounding.{IsBoundary}
use Rattle.off_text.proofs.lemmas.BesideFaces.{face_plane_is_plane}
use Rattle.ray_crossings.specs.Crossings.{orientation_to_face, passes_left, goes_through, crossings}
use Rattle.ray_crossings.specs.Positions.{IsOffFacePlanes}
use Rattle.ray_crossings.proofs.Volumes.{value_between}
use Rattle.ray_crossings.proofs.Parts.{sum_below, sum_above}
use Rattle.ray_crossings.proofs.Counts.{count_where}
use Rattle.ray_crossings.proofs.Meets.{height_behind, height_ahead, through_covers, covers_through, on_meeting}
use Rattle.ray_crossings.proofs.Sides.{holds_alike, opposite_face, opposite_same, face_off, between_world}

-- ---- choices
pub pick : (x y : Bool) (p q r s : Bool) → (x ≡ true → p ≡ s) → (y ≡ true → q ≡ s) → (x ≡ false → y ≡ false → r ≡ s) → (if x then p else if y then q else r) ≡ s
pick true y p q r s f g h = f refl
pick false true p q r s f g h = g refl
pick false false p q r s f g h = h refl refl

fall : (a b : Bool) → indicator (a && not b) -ℤ indicator (b && not a) ≡ indicator a -ℤ indicator b
fall true true = refl
fall true false = refl
fall false true = refl
fall false false = refl

above_neg : (x y : ℤ) → y ≡ neg_ℤ x → x <ℤ pos 0 → pos 0 <ℤ y
above_neg x y e h = omega (arith, sums)

same_sign_above : (x y : ℤ) → x ≡ y → pos 0 <ℤ y → pos 0 <ℤ x
same_sign_above x y e h = omega (arith, sums)

module _ (unit : LengthUnit) (bytes : List ℕ) (f : Tree) (full : HasFullLeaves f) (text : IsBoundary unit bytes f) where
  abbrev pub at : Coefficients → Coordinates → ℤ
  at m p = value m (in_steps unit p)

  abbrev face_number : ℕ → List ℕ
  face_number i = slice_index_or text.faces i []

  pub weights : Each (λ p. pos 0 <ℤ p.w) text.vertices
  weights = each_weaker IsPrintedVertex (λ p. pos 0 <ℤ p.w) (λ p h. h.weight) text.vertices (each_from_all IsPrintedVertex text.vertices text.read.points)

  pub directed : (k : Coefficients) → IsFacePlane k f → pos 0 <ℤ inner_product k k
  directed k h = directed_above k (face_plane_is_plane f k full h).directed

  -- ---- a point off all face planes is off the plane of each face
  pub height_off : (k : Coefficients) → IsFacePlane k f → (face : List ℕ) → 3 ≤ length face → FacesPlane unit text.vertices k face → (p : Coordinates) → IsOffFacePlanes unit f p →
      orientation_to_face (corners_at text.vertices face) p ≢ pos 0
  height_off k fp face three h p off = elim (signs (at k p)) [
    | inl b ↦ not_zero_below _ (height_behind unit text.vertices weights k (directed k fp) face three h p b)
    | inr (inl e) ↦ absurd (face_off unit f p off k fp e)
    | inr (inr a) ↦ not_zero_above _ (height_ahead unit text.vertices weights k (directed k fp) face three h p a)
  ]

  pub low_side : (k : Coefficients) → IsFacePlane k f → (face : List ℕ) → 3 ≤ length face → FacesPlane unit text.vertices k face → (p : Coordinates) → IsOffFacePlanes unit f p →
      orientation_to_face (corners_at text.vertices face) p <ℤ pos 0 → at k p <ℤ pos 0
  low_side k fp face three h p off b = elim (signs (at k p)) [
    | inl l ↦ l
    | inr (inl e) ↦ absurd (face_off unit f p off k fp e)
    | inr (inr a) ↦ absurd (not_both _ (height_ahead unit text.vertices weights k (directed k fp) face three h p a) b)
  ]

  pub high_side : (k : Coefficients) → IsFacePlane k f → (face : List ℕ) → 3 ≤ length face → FacesPlane unit text.vertices k face → (p : Coordinates) → IsOffFacePlanes unit f p →
      pos 0 <ℤ orientation_to_face (corners_at text.vertices face) p → pos 0 <ℤ at k p
  high_side k fp face three h p off b = elim (signs (at k p)) [
    | inl l ↦ absurd (not_both _ b (height_behind unit text.vertices weights k (directed k fp) face three h p l))
    | inr (inl e) ↦ absurd (face_off unit f p off k fp e)
    | inr (inr a) ↦ a
  ]

  -- a way that goes through a face is parted by its plane
  pub parted : (k : Coefficients) → IsFacePlane k f → (face : List ℕ) → 3 ≤ length face → FacesPlane unit text.vertices k face →
      (a b : Coordinates) → IsOffFacePlanes unit f a → IsOffFacePlanes unit f b →
      goes_through a b (corners_at text.vertices face) ≡ true → (at k a <ℤ pos 0) × (pos 0 <ℤ at k b)
  parted k fp face three h a b oa ob e =
      let corners = corners_at text.vertices face in
      let all = list_all (passes_left a b) (edges_of corners) in
      let x = and_parts (int_lt (orientation_to_face corners a) (pos 0)) (int_lt (pos 0) (orientation_to_face corners b) && all) e in
      let y = and_parts (int_lt (pos 0) (orientation_to_face corners b)) all x.1 in (
        low_side k fp face three h a oa (below_back (orientation_to_face corners a) (pos 0) x.0),
        high_side k fp face three h b ob (below_back (pos 0) (orientation_to_face corners b) y.0),
      )

  -- n alone parts a from b
  abbrev pub IsOnlyBetween : Coefficients → Coordinates → Coordinates → Type 0
  IsOnlyBetween n a b = (k : Coefficients) → IsFacePlane k f → at k a <ℤ pos 0 → pos 0 <ℤ at k b → k ≡ n

  module _ (a b : Coordinates) (oa : IsOffFacePlanes unit f a) (ob : IsOffFacePlanes unit f b) (n : Coefficients) (fp : IsFacePlane n f)
      (low : at n a <ℤ pos 0) (high : pos 0 <ℤ at n b) (only : IsOnlyBetween n a b) where
    abbrev u : ℤ
    u = at n b

    abbrev v : ℤ
    v = neg_ℤ (at n a)

    abbrev meeting_point : Coordinates
    meeting_point = combine u a v b

    v_above : pos 0 <ℤ v
    v_above = above_neg (at n a) v refl low

    one_test : (i : ℕ) → i < length text.faces →
        (goes_through a b (corners_at text.vertices (face_number i)) ≡ true → FaceCovers unit text.vertices n meeting_point (face_number i))
        × (FaceCovers unit text.vertices n meeting_point (face_number i) → goes_through a b (corners_at text.vertices (face_number i)) ≡ true)
    one_test i l =
        let bound = text.bounding i [] l in
        let three = (text.read.loops i [] l).three in (
          λ e. (
              let p = parted bound.plane bound.of_formula (face_number i) three bound.faces a b oa ob e in
              through_covers unit text.vertices weights n (directed n fp) a b oa.world.weight low high u v refl refl (face_number i) three
              (subst (λ (m : Coefficients). FacesPlane unit text.vertices m (face_number i)) (only bound.plane bound.of_formula p.0 p.1) bound.faces) e),
          λ c. covers_through unit text.vertices weights n (directed n fp) a b oa.world.weight low high u v refl refl (face_number i) three c,
        )

    -- ---- the sides of the meeting point
    abbrev Kept : Coefficients → Type 0
    Kept m = (sides_of (in_steps unit meeting_point) m ≡ sides_of (in_steps unit a) m) × (sides_of (in_steps unit meeting_point) m ≡ sides_of (in_steps unit b) m) × (at m meeting_point ≢ pos 0)

    both_low : (m : Coefficients) → at m a <ℤ pos 0 → at m b <ℤ pos 0 → Kept m
    both_low m la lb =
        let z = sum_below u v (at m a) (at m b) (at m meeting_point) high v_above (value_between unit m u a v b) la lb in
        let e = below (at m meeting_point) (pos 0) z in
        (e ∙ sym (below (at m a) (pos 0) la), e ∙ sym (below (at m b) (pos 0) lb), not_zero_below (at m meeting_point) z)

    both_high : (m : Coefficients) → pos 0 <ℤ at m a → pos 0 <ℤ at m b → Kept m
    both_high m ga gb =
        let z = sum_above u v (at m a) (at m b) (at m meeting_point) high v_above (value_between unit m u a v b) ga gb in
        let e = not_below (at m meeting_point) (pos 0) (at_least (at m meeting_point) z) in
        (e ∙ sym (not_below (at m a) (pos 0) (at_least (at m a) ga)), e ∙ sym (not_below (at m b) (pos 0) (at_least (at m b) gb)), not_zero_above (at m meeting_point) z)

    kept : (m : Coefficients) → IsPlaneOf m f → (m ≡ n → ⊥) → (m ≡ opposite_of n → ⊥) → Kept m
    kept m h x y = elim (signs (at m a)) [
      | inl la ↦ elim (signs (at m b)) [
        | inl lb ↦ both_low m la lb
        | inr (inl e) ↦ absurd (ob.off m h e)
        | inr (inr gb) ↦ absurd (x (only m (inl h) la gb))
      ]
      | inr (inl e) ↦ absurd (oa.off m h e)
      | inr (inr ga) ↦ elim (signs (at m b)) [
        | inl lb ↦ absurd (y (opposite_same m n (only (opposite_of m) (opposite_face f m (inl h)) (opposite_below m (in_steps unit a) ga) (opposite_above m (in_steps unit b) lb))))
        | inr (inl e) ↦ absurd (ob.off m h e)
        | inr (inr gb) ↦ both_high m ga gb
      ]
    ]

    alone_by : (m : Coefficients) → IsPlaneOf m f → at m meeting_point ≡ pos 0 → (t : Bool) → is_either m n ≡ t → IsEither m n
    alone_by m h e true t = either_parts m n t
    alone_by m h e false t =
        absurd ((kept m h (λ x. true≢false (sym (either_is m n (inl x)) ∙ t)) (λ y. true≢false (sym (either_is m n (inr y)) ∙ t))).2 e)

    on_one : IsOnOneFacePlane f n (in_steps unit meeting_point)
    on_one = record {
      world = between_world unit u v high v_above a b oa.world ob.world;
      face_plane = fp;
      on = on_meeting (at n a) (at n b) u v (at n meeting_point) refl refl (value_between unit n u a v b);
      alone = λ m h e. alone_by m h e (is_either m n) refl;
    }

    side_behind : (m : Coefficients) → IsPlaneOf m f → sides_just_behind n (in_steps unit meeting_point) m ≡ sides_of (in_steps unit a) m
    side_behind m h =
        pick (is_same m n) (is_same m (opposite_of n)) true false (sides_of (in_steps unit meeting_point) m) (sides_of (in_steps unit a) m)
        (λ x. sym (ap (sides_of (in_steps unit a)) (same_equal m n x) ∙ below (at n a) (pos 0) low))
        (λ y. sym (ap (sides_of (in_steps unit a)) (same_equal m (opposite_of n) y)
        ∙ not_below (at (opposite_of n) a) (pos 0) (at_least (at (opposite_of n) a) (opposite_above n (in_steps unit a) low))))
        (λ x y. (kept m h (not_same m n x) (not_same m (opposite_of n) y)).0)

    side_ahead : (m : Coefficients) → IsPlaneOf m f → sides_just_ahead n (in_steps unit meeting_point) m ≡ sides_of (in_steps unit b) m
    side_ahead m h =
        pick (is_same m n) (is_same m (opposite_of n)) false true (sides_of (in_steps unit meeting_point) m) (sides_of (in_steps unit b) m)
        (λ x. sym (ap (sides_of (in_steps unit b)) (same_equal m n x) ∙ not_below (at n b) (pos 0) (at_least (at n b) high)))
        (λ y. sym (ap (sides_of (in_steps unit b)) (same_equal m (opposite_of n) y)
        ∙ below (at (opposite_of n) b) (pos 0) (opposite_below n (in_steps unit b) high)))
        (λ x y. (kept m h (not_same m n x) (not_same m (opposite_of n) y)).1)

    one_way : sum_over (λ face. indicator (goes_through a b (corners_at text.vertices face))) text.faces
        ≡ indicator (holds f (sides_of (in_steps unit a)) && not (holds f (sides_of (in_steps unit b))))
    one_way =
        count_where (is_boundary_at f n (in_steps unit meeting_point)) (FaceCovers unit text.vertices n meeting_point) (λ face. goes_through a b (corners_at text.vertices face)) text.faces
        one_test (text.covered n meeting_point on_one)
        ∙ ap₂ (λ (x y : Bool). indicator (x && not y))
        (holds_alike f (sides_just_behind n (in_steps unit meeting_point)) (sides_of (in_steps unit a)) side_behind)
        (holds_alike f (sides_just_ahead n (in_steps unit meeting_point)) (sides_of (in_steps unit b)) side_ahead)

  -- ---- both ways
  abbrev pub Tells : Coordinates → Coordinates → Type 0
  Tells a b = crossings a b text.vertices text.faces ≡ indicator (holds f (sides_of (in_steps unit a))) -ℤ indicator (holds f (sides_of (in_steps unit b)))

  pub single : (a b : Coordinates) → IsOffFacePlanes unit f a → IsOffFacePlanes unit f b → (n : Coefficients) → IsFacePlane n f →
      at n a <ℤ pos 0 → pos 0 <ℤ at n b → IsOnlyBetween n a b → Tells a b
  single a b oa ob n fp low high only =
      total_difference (λ face. indicator (goes_through a b (corners_at text.vertices face))) (λ face. indicator (goes_through b a (corners_at text.vertices face))) text.faces
      ∙ ap₂ (λ (x y : ℤ). x -ℤ y)
      (one_way a b oa ob n fp low high only)
      (one_way b a ob oa (opposite_of n) (opposite_face f n fp) (opposite_below n (in_steps unit b) high) (opposite_above n (in_steps unit a) low)
      (λ k h lb ga. opposite_same k n (only (opposite_of k) (opposite_face f k h) (opposite_below k (in_steps unit a) ga) (opposite_above k (in_steps unit b) lb))))
      ∙ fall (holds f (sides_of (in_steps unit a))) (holds f (sides_of (in_steps unit b)))
