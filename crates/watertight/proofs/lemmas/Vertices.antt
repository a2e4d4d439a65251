-- Each vertex of the text of a boundary is within reach where the formula holds only there: near a vertex beyond, and strictly
-- inside a face, is a point just behind the face, at which the formula holds.
use Rattle.std.proofs.Common.{◌≡◌, ◌≢◌, ◌⊎◌, inl, inr, ℕ, zero, suc, ◌+◌, ◌<◌, ◌≤◌, Bool, true, false, not, ◌&&◌, if◌then◌else◌, List, [], ◌∷◌, ◌++◌, flat_map, length, map, slice_index, slice_index_or, refl, sym, ap, ap₂, ◌∙◌, subst, arith, ℤ, pos, negsuc, ◌+ℤ◌, ◌*ℤ◌, ◌<ℤ◌, ◌≤ℤ◌, neg_ℤ, unsigned_abs, All}
use Rattle.std.specs.Prelude.{Contains}
use Rattle.std.specs.List.{list_all}
use Rattle.std.proofs.Math.IntN.{*ℤ-zero}
use Rattle.std.proofs.lemmas.Bool.{and_parts}
use Rattle.std.proofs.lemmas.Bool.Decides.{eqb_tells}
use Rattle.plane_predicate.specs.declared.unit.Unit.{Unit as LengthUnit}
use Rattle.plane_predicate.specs.Space.{Coefficients, Coordinates, value, orientation_seen_from, inner_product, opposite_of, is_same, IsPlane, IsInReach, IsInWorld, origin}
use Rattle.plane_predicate.specs.Units.{grid_steps_per_unit}
use Rattle.plane_predicate.specs.InUnits.{in_steps}
use Rattle.plane_predicate.proofs.lemmas.IntegerRing.{sums, one_mul}
use Rattle.plane_predicate.proofs.lemmas.Identities.{combine, value_combine}
use Rattle.plane_predicate.proofs.lemmas.Polynomials.{var, plus, times, minus, num, ring}
use Rattle.plane_predicate.proofs.lemmas.Vectors.{Place, form, place, of_plane, of_point, valueP, turnP, combineP, value-opposite}
use Rattle.plane_predicate.proofs.lemmas.Signs.{signs, pos_pos, least_least}
use Rattle.plane_predicate.proofs.lemmas.SamePlanes.{directed_above}
use Rattle.plane_polygon.proofs.lemmas.Hull.{after_below, after_other, after_twice}
use Rattle.csg_tree.specs.HalfSpaceTrees.{Tree, nothing, leaf, tree_join, SideAssignment, holds, sides_of, truth_of_join, IsPlaneOf}
use Rattle.csg_tree.specs.FacePlanes.{IsOnOneFacePlane, sides_just_behind, sides_just_ahead, is_boundary_at}
use Rattle.csg_tree.specs.ProperTrees.{HasFullLeaves}
use Rattle.bsp_tree.specs.Cells.{NoneAhead}
use Rattle.bsp_tree.proofs.lemmas.NearPoints.{direction, value_direction, near_behind, near_ahead as point_ahead}
use Rattle.bsp_tree.proofs.lemmas.Openness.{often, more_above}
use Rattle.bsp_tree.proofs.lemmas.SameNumbers.{same_equal, not_same}
use Rattle.bsp_tree.proofs.lemmas.Worlds.{open_world, reach_in_box}
use Rattle.closed_surface.specs.Closed.{corners_at}
use Rattle.closed_surface.specs.Ways.{slope}
use Rattle.closed_surface.specs.Near.{near_point}
use Rattle.closed_surface.proofs.lemmas.Near.{near_ahead}
use Rattle.closed_surface.proofs.lemmas.Numbers.{below, not_below, at_most, at_least, zero_at_most, zero_at_least}
use Rattle.closed_surface.proofs.lemmas.Each.{Each, each_weaker, each_both, each_from_all}
use Rattle.off_text.specs.Boundaries.{face_corner, grid_corner, FacesPlane, FaceCovers}
use Rattle.off_text.specs.Bounding.{IsBoundary}
use Rattle.off_text.proofs.lemmas.BesideFaces.{face_plane_is_plane}
use Rattle.csg_tree.specs.Reach.{KeepsWithinReach}
use Rattle.watertight.specs.WatertightFaces.{AreWatertight}
use Rattle.watertight.proofs.lemmas.Boxed.{closed_everywhere, faces_boxed}
use Rattle.watertight.proofs.General.{least_itself}
use Rattle.watertight.proofs.Halves.{corners_pair}
use Rattle.watertight.proofs.lemmas.Nearby.{planes_in, each_is, each_of, way_plane, way_value, last_or_less, first_part, second_part, third_part, several, moved, is_where, face_slopes, still_covers, way_out, own_slopes, step_flat, alone_near}
use Rattle.watertight.proofs.lemmas.Reach.{reach_sides, reach_by_sides, sides_by_reach}
use Rattle.watertight.proofs.Strict.{inner_in_world, plane_reach}
use Rattle.plane_predicate.specs.Indices.{index_after}

-- ---- sums of points
abbrev stepped : Place → Place
stepped p = record { x = times (var 14) p.x; y = times (var 14) p.y; z = times (var 14) p.z; w = p.w }

at_combine : (unit : LengthUnit) (m : Coefficients) (u : ℤ) (p : Coordinates) (v : ℤ) (q : Coordinates) →
    value m (in_steps unit (combine u p v q)) ≡ u *ℤ value m (in_steps unit p) +ℤ v *ℤ value m (in_steps unit q)
at_combine unit m u p v q =
    let M = form 0 in let P = place 4 in let Q = place 8 in
    ring (of_plane m (of_point p (of_point q (u ∷ v ∷ grid_steps_per_unit unit ∷ []))))
    (valueP M (stepped (combineP (var 12) P (var 13) Q)))
    (plus (times (var 12) (valueP M (stepped P))) (times (var 13) (valueP M (stepped Q)))) refl

-- the sum of the first points
abbrev sum_of : (ℕ → Coordinates) → ℕ → Coordinates
sum_of c zero = record { x = pos 0; y = pos 0; z = pos 0; w = pos 0 }
sum_of c (suc k) = combine (pos 1) (c k) (pos 1) (sum_of c k)

at_none : (unit : LengthUnit) (m : Coefficients) → value m (in_steps unit (record { x = pos 0; y = pos 0; z = pos 0; w = pos 0 })) ≡ pos 0
at_none unit m =
    let none = times (var 4) (num (pos 0)) in
    ring (of_plane m (grid_steps_per_unit unit ∷ [])) (valueP (form 0) (record { x = none; y = none; z = none; w = num (pos 0) })) (num (pos 0)) refl

added_least : (v x y : ℤ) → v ≡ pos 1 *ℤ x +ℤ pos 1 *ℤ y → pos 0 ≤ℤ x → pos 0 ≤ℤ y → pos 0 ≤ℤ v
added_least v x y e h k = omega (arith, sums, e, one_mul x, one_mul y, h, k)

first_above : (v x y : ℤ) → v ≡ pos 1 *ℤ x +ℤ pos 1 *ℤ y → pos 0 <ℤ x → pos 0 ≤ℤ y → pos 0 <ℤ v
first_above v x y e h k = omega (arith, sums, e, one_mul x, one_mul y, h, k)

second_above : (v x y : ℤ) → v ≡ pos 1 *ℤ x +ℤ pos 1 *ℤ y → pos 0 ≤ℤ x → pos 0 <ℤ y → pos 0 <ℤ v
second_above v x y e h k = omega (arith, sums, e, one_mul x, one_mul y, h, k)

added_zero : (v x y : ℤ) → v ≡ pos 1 *ℤ x +ℤ pos 1 *ℤ y → x ≡ pos 0 → y ≡ pos 0 → v ≡ pos 0
added_zero v x y e h k = omega (arith, sums, e, one_mul x, one_mul y, h, k)

below_more : (j k : ℕ) → j < k → j < suc k
below_more j k l = omega (arith, l)

last_below : (k : ℕ) → k < suc k
last_below k = omega arith

module _ (unit : LengthUnit) (m : Coefficients) (c : ℕ → Coordinates) where
  abbrev at : Coordinates → ℤ
  at p = value m (in_steps unit p)

  at_next : (k : ℕ) → at (sum_of c (suc k)) ≡ pos 1 *ℤ at (c k) +ℤ pos 1 *ℤ at (sum_of c k)
  at_next k = at_combine unit m (pos 1) (c k) (pos 1) (sum_of c k)

  sum_least : (k : ℕ) → ((j : ℕ) → j < k → pos 0 ≤ℤ at (c j)) → pos 0 ≤ℤ at (sum_of c k)
  sum_least zero h = zero_at_least (at (sum_of c zero)) (at_none unit m)
  sum_least (suc k) h = added_least (at (sum_of c (suc k))) (at (c k)) (at (sum_of c k)) (at_next k) (h k (last_below k)) (sum_least k (λ j l. h j (below_more j k l)))

  sum_above : (k : ℕ) → ((j : ℕ) → j < k → pos 0 ≤ℤ at (c j)) → (i : ℕ) → i < k → pos 0 <ℤ at (c i) → pos 0 <ℤ at (sum_of c k)
  sum_above zero h i l a = absurd (omega (arith, l))
  sum_above (suc k) h i l a = elim (last_or_less i k l) [
    | inl e ↦ first_above (at (sum_of c (suc k))) (at (c k)) (at (sum_of c k)) (at_next k) (subst (λ (j : ℕ). pos 0 <ℤ at (c j)) e a) (sum_least k (λ j b. h j (below_more j k b)))
    | inr b ↦ second_above (at (sum_of c (suc k))) (at (c k)) (at (sum_of c k)) (at_next k) (h k (last_below k)) (sum_above k (λ j d. h j (below_more j k d)) i b a)
  ]

  sum_zero : (k : ℕ) → ((j : ℕ) → j < k → at (c j) ≡ pos 0) → at (sum_of c k) ≡ pos 0
  sum_zero zero h = at_none unit m
  sum_zero (suc k) h = added_zero (at (sum_of c (suc k))) (at (c k)) (at (sum_of c k)) (at_next k) (h k (last_below k)) (sum_zero k (λ j l. h j (below_more j k l)))

sum_weight : (c : ℕ → Coordinates) (k : ℕ) → ((j : ℕ) → j < k → pos 0 <ℤ (c j).w) → pos 0 ≤ℤ (sum_of c k).w
sum_weight c zero h = omega (arith, sums)
sum_weight c (suc k) h =
    added_least (sum_of c (suc k)).w (c k).w (sum_of c k).w refl (at_least (c k).w (h k (last_below k))) (sum_weight c k (λ j l. h j (below_more j k l)))

-- ---- turns of ways to their own ends
turn_first : (n : Coefficients) (p q : Coordinates) → orientation_seen_from n p q p ≡ pos 0
turn_first n p q = ring (of_plane n (of_point p (of_point q []))) (turnP (form 0) (place 4) (place 8) (place 4)) (num (pos 0)) refl

turn_second : (n : Coefficients) (p q : Coordinates) → orientation_seen_from n p q q ≡ pos 0
turn_second n p q = ring (of_plane n (of_point p (of_point q []))) (turnP (form 0) (place 4) (place 8) (place 8)) (num (pos 0)) refl

same_or_not : (i j : ℕ) → (i ≡ j) ⊎ (i ≢ j)
same_or_not i j = elim (eqb_tells i j) [ inl p ↦ inl p.1 | inr p ↦ inr p.1 ]

-- ---- numbers
mixed_above : (k : ℕ) (v x y : ℤ) → v ≡ pos (suc k) *ℤ x +ℤ pos 1 *ℤ y → pos 0 ≤ℤ x → pos 0 <ℤ y → pos 0 <ℤ v
mixed_above k v x y e h g = omega (arith, sums, e, g, one_mul y, least_least (pos (suc k)) x (omega (arith, sums)) h)

mixed_zero : (k : ℕ) (v x y : ℤ) → v ≡ pos (suc k) *ℤ x +ℤ pos 1 *ℤ y → x ≡ pos 0 → y ≡ pos 0 → v ≡ pos 0
mixed_zero k v x y e h g = omega (arith, sums, e, g, one_mul y, ap (λ (z : ℤ). pos (suc k) *ℤ z) h ∙ *ℤ-zero (pos (suc k)))

mixed_weight : (k : ℕ) (x y : ℤ) → pos 0 <ℤ x → pos 0 ≤ℤ y → pos 0 <ℤ (pos (suc k) *ℤ x +ℤ pos 1 *ℤ y)
mixed_weight k x y h g = omega (arith, sums, g, one_mul y, pos_pos (pos (suc k)) x (omega (arith, sums)) h)

-- ---- a point strictly inside a face, near one of its corners
module _ (unit : LengthUnit) (vertices : List Coordinates) (face : List ℕ) (three : 3 ≤ length face) (n : Coefficients) (facing : FacesPlane unit vertices n face)
    (weights : (j : ℕ) → j < length face → pos 0 <ℤ (face_corner vertices face j).w) where
  abbrev spot : ℕ → Coordinates
  spot i = grid_corner unit vertices face i

  abbrev next : ℕ → ℕ
  next i = index_after (length face) i

  abbrev way_at : ℕ → Coefficients
  way_at i = way_plane n (spot i) (spot (next i))

  -- the corners together, and the corner k once and that many times more
  abbrev middle : Coordinates
  middle = sum_of (face_corner vertices face) (length face)

  abbrev close : ℕ → ℕ → Coordinates
  close number k = combine (pos (suc number)) (face_corner vertices face k) (pos 1) middle

  -- no corner is on the right of a way from a corner to the next
  corner_left : (i j : ℕ) → i < length face → j < length face → pos 0 ≤ℤ value (way_at i) (spot j)
  corner_left i j l d = subst (λ (x : ℤ). pos 0 ≤ℤ x) (sym (way_value n (spot i) (spot (next i)) (spot j)))
      (elim (same_or_not j i) [
        | inl e ↦ zero_at_least (orientation_seen_from n (spot i) (spot (next i)) (spot j)) (ap (λ (t : ℕ). orientation_seen_from n (spot i) (spot (next i)) (spot t)) e ∙ turn_first n (spot i) (spot (next i)))
        | inr a ↦ (elim (same_or_not j (next i)) [
          | inl e ↦ zero_at_least (orientation_seen_from n (spot i) (spot (next i)) (spot j)) (ap (λ (t : ℕ). orientation_seen_from n (spot i) (spot (next i)) (spot t)) e ∙ turn_second n (spot i) (spot (next i)))
          | inr b ↦ at_least (orientation_seen_from n (spot i) (spot (next i)) (spot j)) (facing.left i j l d a b)
        ])
      ])

  -- and the one corner_after that is on the left
  one_left : (i : ℕ) → i < length face → pos 0 <ℤ value (way_at i) (spot (next (next i)))
  one_left i l =
      let m = after_below (length face) i l in
      subst (λ (x : ℤ). pos 0 <ℤ x) (sym (way_value n (spot i) (spot (next i)) (spot (next (next i)))))
      (facing.left i (next (next i)) l (after_below (length face) (next i) m) (after_twice (length face) i three l) (after_other (length face) (next i) three m))

  close_left : (number k i : ℕ) → k < length face → i < length face → pos 0 <ℤ orientation_seen_from n (spot i) (spot (next i)) (in_steps unit (close number k))
  close_left number k i d l =
      let m = after_below (length face) i l in
      subst (λ (x : ℤ). pos 0 <ℤ x) (way_value n (spot i) (spot (next i)) (in_steps unit (close number k)))
      (mixed_above number (value (way_at i) (in_steps unit (close number k))) (value (way_at i) (spot k)) (value (way_at i) (in_steps unit middle))
      (at_combine unit (way_at i) (pos (suc number)) (face_corner vertices face k) (pos 1) middle) (corner_left i k l d)
      (sum_above unit (way_at i) (face_corner vertices face) (length face) (λ j b. corner_left i j l b) (next (next i)) (after_below (length face) (next i) m) (one_left i l)))

  pub close_covered : (number k : ℕ) → k < length face → FaceCovers unit vertices n (close number k) face
  close_covered number k d = record {
    faces = facing;
    on = mixed_zero number (value n (in_steps unit (close number k))) (value n (spot k)) (value n (in_steps unit middle))
        (at_combine unit n (pos (suc number)) (face_corner vertices face k) (pos 1) middle) (facing.on k d)
        (sum_zero unit n (face_corner vertices face) (length face) (λ j b. facing.on j b));
    left = λ i l. close_left number k i d l;
  }

  pub close_weight : (number k : ℕ) → k < length face → pos 0 <ℤ (close number k).w
  close_weight number k d = mixed_weight number (face_corner vertices face k).w middle.w (weights k d) (sum_weight (face_corner vertices face) (length face) weights)

  -- a point so near to a corner that it is ahead of a plane that the corner is ahead of
  abbrev pub enough : Coefficients → ℕ
  enough s = unsigned_abs (pos 1 *ℤ value s (in_steps unit middle))

  pub close_ahead : (s : Coefficients) (k : ℕ) → pos 0 <ℤ value s (spot k) → pos 0 <ℤ value s (in_steps unit (close (enough s) k))
  close_ahead s k h =
      subst (λ (x : ℤ). pos 0 <ℤ x) (sym (at_combine unit s (pos (suc (enough s))) (face_corner vertices face k) (pos 1) middle))
      (more_above (enough s) (value s (spot k)) (pos 1 *ℤ value s (in_steps unit middle)) h (least_itself (enough s)))

-- ---- just behind a point on one face plane
-- a tree holds alike under assignments that give its planes the same sides
all_alike : (planes : List Coefficients) (a b : SideAssignment) → ((m : Coefficients) → Contains planes m → a m ≡ b m) → list_all a planes ≡ list_all b planes
all_alike [] a b h = refl
all_alike (m ∷ planes) a b h =
    ap₂ ◌&&◌ (h m (0, omega arith, refl)) (all_alike planes a b (λ n c. h n (suc c.0, omega (arith, c.1), c.2)))

holds_alike : (f : Tree) (a b : SideAssignment) → ((m : Coefficients) → IsPlaneOf m f → a m ≡ b m) → holds f a ≡ holds f b
holds_alike nothing a b h = refl
holds_alike (leaf planes) a b h = all_alike planes a b h
holds_alike (tree_join op left right) a b h =
    ap₂ (truth_of_join op) (holds_alike left a b (λ m k. h m (inl k))) (holds_alike right a b (λ m k. h m (inr k)))

by_tests : (x y r s : Bool) → (x ≡ true → s ≡ true) → (y ≡ true → s ≡ false) → (x ≡ false → y ≡ false → s ≡ r) → s ≡ (if x then true else if y then false else r)
by_tests true y r s f g h = f refl
by_tests false true r s f g h = g refl
by_tests false false r s f g h = h refl refl

each_often : (ms : List Coefficients) (v : ℤ) (u : Coordinates) (k : ℕ) → often ms v u ≤ k → Each (λ m. unsigned_abs (v *ℤ value m u) ≤ k) ms
each_often [] v u k h = tt
each_often (m ∷ ms) v u k h = (omega (arith, h), each_often ms v u k (omega (arith, h)))

value_behind : (k : ℕ) (v x y : ℤ) → v ≡ pos (suc k) *ℤ x +ℤ negsuc 0 *ℤ y → x ≡ pos 0 → pos 0 <ℤ y → v <ℤ pos 0
value_behind k v x y e h g =
    omega (arith, sums, e, g, ap (λ (z : ℤ). pos (suc k) *ℤ z) h ∙ *ℤ-zero (pos (suc k)), ring (y ∷ []) (times (num (negsuc 0)) (var 0)) (minus (num (pos 0)) (var 0)) refl)

opposite_least : (x y : ℤ) → y ≡ neg_ℤ x → x <ℤ pos 0 → pos 0 ≤ℤ y
opposite_least x y e h = omega (arith, sums, e, h)

not_both_sides : (x : ℤ) → pos 0 <ℤ x → x ≤ℤ pos 0 → ⊥
not_both_sides x h k = omega (arith, sums, h, k)

module _ (f : Tree) (n : Coefficients) (plane : IsPlane n) (r : Coordinates) (one : IsOnOneFacePlane f n r) (s : Coefficients) where
  abbrev times_more : ℕ
  times_more = often (s ∷ planes_in f) (negsuc 0) (direction n)

  -- the point moved a little to behind the face plane
  abbrev moved_behind : Coordinates
  moved_behind = combine (pos (suc times_more)) r (negsuc 0) (direction n)

  moved_weight : pos 0 <ℤ moved_behind.w
  moved_weight = more_above times_more r.w (negsuc 0 *ℤ pos 0) one.world.weight (omega arith)

  own_side : value n moved_behind <ℤ pos 0
  own_side =
      value_behind times_more (value n moved_behind) (value n r) (value n (direction n)) (value_combine n (pos (suc times_more)) r (negsuc 0) (direction n)) one.on
      (subst (λ (x : ℤ). pos 0 <ℤ x) (sym (value_direction n n)) (directed_above n plane.directed))

  -- a plane that the point is not on keeps its side
  kept_side : (m : Coefficients) → unsigned_abs (negsuc 0 *ℤ value m (direction n)) ≤ times_more → value m r ≢ pos 0 → sides_of moved_behind m ≡ sides_of r m
  kept_side m b off = elim (signs (value m r)) [
    | inl h ↦ below (value m moved_behind) (pos 0) (near_behind m times_more r (negsuc 0) (direction n) b h) ∙ sym (below (value m r) (pos 0) h)
    | inr (inl e) ↦ absurd (off e)
    | inr (inr h) ↦ not_below (value m moved_behind) (pos 0) (at_least _ (point_ahead m times_more r (negsuc 0) (direction n) b h)) ∙ sym (not_below (value m r) (pos 0) (at_least _ h))
  ]

  sides_behind : (m : Coefficients) → IsPlaneOf m f → sides_of moved_behind m ≡ sides_just_behind n r m
  sides_behind m h =
      by_tests (is_same m n) (is_same m (opposite_of n)) (sides_of r m) (sides_of moved_behind m)
      (λ e. ap (sides_of moved_behind) (same_equal m n e) ∙ below (value n moved_behind) (pos 0) own_side)
      (λ e. ap (sides_of moved_behind) (same_equal m (opposite_of n) e)
      ∙ not_below (value (opposite_of n) moved_behind) (pos 0) (opposite_least (value n moved_behind) _ (value-opposite n moved_behind) own_side))
      (λ d e. kept_side m
      (each_of (λ k. unsigned_abs (negsuc 0 *ℤ value k (direction n)) ≤ times_more) f
      (each_often (s ∷ planes_in f) (negsuc 0) (direction n) times_more (least_itself times_more)).1 m h)
      (λ z. elim (one.alone m h z) [ inl i ↦ not_same m n d i | inr j ↦ not_same m (opposite_of n) e j ]))

  -- where the formula is solid just behind the point, the point is beyond no side of the reach
  pub not_beyond : KeepsWithinReach f → ((q : Coordinates) → IsInReach q → value s q ≤ℤ pos 0) → holds f (sides_just_behind n r) ≡ true → pos 0 <ℤ value s r → ⊥
  not_beyond keeps side solid ahead =
      let there = keeps moved_behind moved_weight (holds_alike f (sides_of moved_behind) (sides_just_behind n r) sides_behind ∙ solid) in
      let bound = (each_often (s ∷ planes_in f) (negsuc 0) (direction n) times_more (least_itself times_more)).0 in
      not_both_sides (value s moved_behind) (point_ahead s times_more r (negsuc 0) (direction n) bound ahead) (side moved_behind there)

-- ---- items of lists
same_item : {A : Type 0} (xs : List A) (k : ℕ) (d e : A) → k < length xs → slice_index_or xs k d ≡ slice_index_or xs k e
same_item [] k d e l = absurd (omega (arith, l))
same_item (x ∷ xs) zero d e l = refl
same_item (x ∷ xs) (suc k) d e l = same_item xs k d e (omega (arith, l))

split : (xs ys : List ℕ) (i : ℕ) → Contains (xs ++ ys) i → Contains xs i ⊎ Contains ys i
split [] ys i c = inr c
split (x ∷ xs) ys i (zero, l, e) = inl (zero, omega arith, e)
split (x ∷ xs) ys i (suc k, l, e) = elim (split xs ys i (k, omega (arith, l), e)) [ inl c ↦ inl (suc c.0, omega (arith, c.1), c.2) | inr c ↦ inr c ]

face_with : (faces : List (List ℕ)) (i : ℕ) → Contains (flat_map (λ face. face) faces) i → (j : ℕ) × (j < length faces) × Contains (slice_index_or faces j []) i
face_with [] i c = absurd (omega (arith, c.1))
face_with (face ∷ faces) i c = elim (split face (flat_map (λ face. face) faces) i c) [
  | inl k ↦ (zero, omega arith, k)
  | inr k ↦ (let r = face_with faces i k in (suc r.0, omega (arith, r.1), r.2))
]

-- ---- the vertices of a boundary
module _ (unit : LengthUnit) (bytes : List ℕ) (f : Tree) (full : HasFullLeaves f) (keeps : KeepsWithinReach f) (text : IsBoundary unit bytes f) where
  abbrev face_at : ℕ → List ℕ
  face_at i = slice_index_or text.faces i []

  -- no corner of a face is beyond a side of the reach
  corner_beyond : (s : Coefficients) → ((q : Coordinates) → IsInReach q → value s q ≤ℤ pos 0) → (j k : ℕ) → j < length text.faces → k < length (face_at j) →
      pos 0 <ℤ value s (grid_corner unit text.vertices (face_at j) k) → ⊥
  corner_beyond s side j k l d beyond =
      let face = face_at j in
      let b = text.bounding j [] l in
      let n = b.plane in
      let plane = face_plane_is_plane f n full b.of_formula in
      let three = (text.read.loops j [] l).three in
      let weights : (i : ℕ) → i < length face → pos 0 <ℤ (face_corner text.vertices face i).w = λ i c. (b.boxed i c).weight in
      let number = enough unit text.vertices face three n b.faces weights s in
      let p = close unit text.vertices face three n b.faces weights number k in
      let h = close_covered unit text.vertices face three n b.faces weights number k d in
      let w = close_weight unit text.vertices face three n b.faces weights number k d in
      let ahead = close_ahead unit text.vertices face three n b.faces weights s k beyond in
      let world = inner_in_world unit text.vertices face three n plane p w h (plane_reach f n full b.of_formula) b.boxed in
      let v = way_out unit f full n plane b.of_formula p world h.on in
      let own = own_slopes unit f full n plane b.of_formula p world h.on in
      let round = face_slopes unit text.vertices n face (several unit v) in
      let off = unsigned_abs (slope s (several unit v)) in
      let more = own + (round + off) in
      let flat = step_flat unit f full n plane b.of_formula p world h.on in
      let there = near_point more p v in
      let alone = alone_near unit f full n plane b.of_formula p world h.on more (first_part own round off) in
      let solid = is_where (is_boundary_at f n (in_steps unit there)) (FaceCovers unit text.vertices n there) text.faces (text.covered n there alone) j l
      (still_covers unit text.vertices n face p v more flat (second_part own round off) h) in
      not_beyond f n plane (in_steps unit there) alone s keeps side
      (and_parts (holds f (sides_just_behind n (in_steps unit there))) (not (holds f (sides_just_ahead n (in_steps unit there)))) solid).0
      (subst (λ (q : Coordinates). pos 0 <ℤ value s q) (sym (moved unit more p v)) (near_ahead s more (in_steps unit p) (several unit v) (third_part own round off) ahead))

  vertex_beyond : (s : Coefficients) → ((q : Coordinates) → IsInReach q → value s q ≤ℤ pos 0) → (i : ℕ) → i < length text.vertices →
      pos 0 <ℤ value s (in_steps unit (slice_index_or text.vertices i origin)) → ⊥
  vertex_beyond s side i l beyond =
      let r = face_with text.faces i (text.own_vertices.used i l) in
      let c = r.2 in
      corner_beyond s side r.0 c.0 r.1 c.1
      (subst (λ (k : ℕ). pos 0 <ℤ value s (in_steps unit (slice_index_or text.vertices k origin))) (sym (same_item (face_at r.0) c.0 0 i c.1 ∙ c.2)) beyond)

  vertex_within : (s : Coefficients) → ((q : Coordinates) → IsInReach q → value s q ≤ℤ pos 0) → (i : ℕ) → i < length text.vertices →
      value s (in_steps unit (slice_index_or text.vertices i origin)) ≤ℤ pos 0
  vertex_within s side i l = elim (signs (value s (in_steps unit (slice_index_or text.vertices i origin)))) [
    | inl h ↦ at_most _ h
    | inr (inl h) ↦ zero_at_most _ h
    | inr (inr h) ↦ absurd (vertex_beyond s side i l h)
  ]

  none_beyond : (cell : List Coefficients) → ((q : Coordinates) → IsInReach q → NoneAhead cell q) → (i : ℕ) → i < length text.vertices →
      NoneAhead cell (in_steps unit (slice_index_or text.vertices i origin))
  none_beyond [] sides i l = tt
  none_beyond (s ∷ cell) sides i l = (vertex_within s (λ q h. (sides q h).0) i l, none_beyond cell (λ q h. (sides q h).1) i l)

  pub all_in_reach : All (λ p. IsInReach (in_steps unit p)) text.vertices
  all_in_reach i d l =
      subst (λ (p : Coordinates). IsInReach (in_steps unit p)) (same_item text.vertices i origin d l)
      (reach_by_sides (in_steps unit (slice_index_or text.vertices i origin)) (text.read.points i origin l).weight (none_beyond reach_sides sides_by_reach i l))

-- ---- watertight
pub boxed_watertight : (unit : LengthUnit) (bytes : List ℕ) (f : Tree) (text : IsBoundary unit bytes f) → All (λ (p : Coordinates). IsInWorld (in_steps unit p)) text.vertices →
    AreWatertight text.vertices text.faces
boxed_watertight unit bytes f text inside =
    let closed = closed_everywhere unit text.vertices text.faces inside text.closed in
    let faces = map (corners_at text.vertices) text.faces in
    let boxed = faces_boxed unit text.vertices (each_from_all (λ (x : Coordinates). IsInWorld (in_steps unit x)) text.vertices inside) text.faces in
    let weights = each_weaker (λ (corners : List Coordinates). Each (λ (x : Coordinates). IsInWorld (in_steps unit x)) corners) (λ corners. Each (λ (x : Coordinates). pos 0 <ℤ x.w) corners)
    (λ corners k. each_weaker (λ (x : Coordinates). IsInWorld (in_steps unit x)) (λ x. pos 0 <ℤ x.w) (λ x h. h.weight) corners k) faces boxed in
    record { everywhere = closed; edges = λ p q wp wq elementary. corners_pair faces weights closed p q wp wq elementary }

pub watertight : (unit : LengthUnit) (bytes : List ℕ) (f : Tree) → HasFullLeaves f → KeepsWithinReach f → (text : IsBoundary unit bytes f) → AreWatertight text.vertices text.faces
watertight unit bytes f full keeps text =
    let reach = all_in_reach unit bytes f full keeps text in
    boxed_watertight unit bytes f text (λ i d l. (open_world (in_steps unit (slice_index_or text.vertices i d))).0 (reach_in_box (in_steps unit (slice_index_or text.vertices i d)) (reach i d l)))
