-- Points near an inner point of a face, of which one lies on no other face plane.
use Rattle.std.proofs.Common.{◌≡◌, ◌≢◌, ◌⊎◌, inl, inr, ℕ, zero, suc, ◌+◌, ◌<◌, ◌≤◌, Bool, true, false, not, ◌&&◌, if◌then◌else◌, List, [], ◌∷◌, ◌++◌, length, slice_index_or, refl, sym, ap, ap₂, ◌∙◌, subst, arith, true≢false, ℤ, pos, ◌+ℤ◌, ◌-ℤ◌, ◌*ℤ◌, ◌<ℤ◌, neg_ℤ, unsigned_abs, All}
use Rattle.std.specs.Prelude.{Contains}
use Rattle.std.proofs.Math.IntN.{*ℤ-zero}
use Rattle.std.proofs.lemmas.Bool.{cases_lt}
use Rattle.plane_predicate.specs.declared.unit.Unit.{Unit as LengthUnit}
use Rattle.plane_predicate.specs.Space.{Coefficients, Coordinates, value, orientation_seen_from, opposite_of, is_same, product_with, IsPlane, IsInWorld}
use Rattle.plane_predicate.specs.Units.{grid_steps_per_unit}
use Rattle.plane_predicate.specs.InUnits.{in_steps}
use Rattle.plane_predicate.proofs.lemmas.IntegerRing.{sums, mul_neg_left}
use Rattle.plane_predicate.proofs.lemmas.InUnits.{steps_above}
use Rattle.plane_predicate.proofs.lemmas.Polynomials.{Poly, var, plus, times, minus, num, ring}
use Rattle.plane_predicate.proofs.lemmas.Vectors.{Form, Place, form, place, of_plane, of_point, valueP, turnP, productP, value-opposite}
use Rattle.plane_predicate.proofs.lemmas.Signs.{zero_cancel}
use Rattle.plane_predicate.proofs.lemmas.SamePlanes.{directed_above, equal_or_opposite}
use Rattle.plane_polygon.proofs.lemmas.FourPoints.{four_points}
use Rattle.plane_polygon.proofs.lemmas.Hull.{after_below}
use Rattle.csg_tree.specs.HalfSpaceTrees.{Tree, nothing, leaf, tree_join, SideAssignment, holds, sides_of, IsPlaneOf}
use Rattle.csg_tree.specs.FacePlanes.{IsFacePlane, IsOnOneFacePlane, sides_just_behind, sides_just_ahead, is_boundary_at}
use Rattle.csg_tree.specs.ProperTrees.{HasFullLeaves, IsProper}
use Rattle.bsp_tree.specs.Cells.{world_box}
use Rattle.bsp_tree.proofs.lemmas.Opposites.{opposite_twice}
use Rattle.bsp_tree.proofs.lemmas.SameNumbers.{same_equal}
use Rattle.bsp_tree.proofs.lemmas.Worlds.{open_world}
use Rattle.closed_surface.specs.Ways.{Direction, slope}
use Rattle.closed_surface.specs.Near.{near_point}
use Rattle.closed_surface.proofs.lemmas.Near.{near_on, near_ahead, zero_near}
use Rattle.closed_surface.proofs.lemmas.Balanced.{in_near}
use Rattle.closed_surface.proofs.lemmas.Closing.{not_opposite}
use Rattle.closed_surface.proofs.lemmas.Lines.{IsEither}
use Rattle.closed_surface.proofs.lemmas.Each.{Each, each_weaker, each_both, each_append, each_left, each_right, each_from_all}
use Rattle.off_text.specs.Boundaries.{grid_corner, FacesPlane, FaceCovers, OneExactlyWhere}
use Rattle.off_text.proofs.lemmas.BesideFaces.{face_plane_is_plane}
use Rattle.off_text.proofs.lemmas.Rounded.{below_three, not_two, last_of_four}
use Rattle.off_text.proofs.lemmas.Scaled.{no_two_sides}
use Rattle.watertight.proofs.General.{General, Clears, general, all_slopes, each_slope}
use Rattle.plane_predicate.specs.Indices.{index_after}

-- ---- the planes of a formula, in a list
abbrev pub planes_in : Tree → List Coefficients
planes_in nothing = []
planes_in (leaf planes) = planes
planes_in (tree_join op left right) = planes_in left ++ planes_in right

pub contained : (planes : List Coefficients) → Each (Contains planes) planes
contained [] = tt
contained (n ∷ planes) = (
  (0, omega arith, refl),
  each_weaker (Contains planes) (Contains (n ∷ planes)) (λ m c. (suc c.0, omega (arith, c.1), c.2)) planes (contained planes),
)

pub each_is : (f : Tree) → Each (λ m. IsPlaneOf m f) (planes_in f)
each_is nothing = tt
each_is (leaf planes) = contained planes
each_is (tree_join op left right) =
    each_append (λ m. IsPlaneOf m (tree_join op left right)) (planes_in left) (planes_in right)
    (each_weaker (λ m. IsPlaneOf m left) (λ m. IsPlaneOf m (tree_join op left right)) (λ m h. inl h) (planes_in left) (each_is left))
    (each_weaker (λ m. IsPlaneOf m right) (λ m. IsPlaneOf m (tree_join op left right)) (λ m h. inr h) (planes_in right) (each_is right))

pub each_contained : (P : Coefficients → Type 0) (planes : List Coefficients) → Each P planes → (m : Coefficients) → Contains planes m → P m
each_contained P [] e m c = absurd (omega (arith, c.1))
each_contained P (n ∷ planes) e m (zero, l, q) = subst P q e.0
each_contained P (n ∷ planes) e m (suc i, l, q) = each_contained P planes e.1 m (i, omega (arith, l), q)

pub each_of : (P : Coefficients → Type 0) (f : Tree) → Each P (planes_in f) → (m : Coefficients) → IsPlaneOf m f → P m
each_of P nothing e m h = absurd h
each_of P (leaf planes) e m h = each_contained P planes e m h
each_of P (tree_join op left right) e m (inl h) = each_of P left (each_left P (planes_in left) (planes_in right) e) m h
each_of P (tree_join op left right) e m (inr h) = each_of P right (each_right P (planes_in left) (planes_in right) e) m h

-- ---- the plane whose value at a point is the orientation of a way to it
abbrev pub way_plane : Coefficients → Coordinates → Coordinates → Coefficients
way_plane n p q = record {
  a = p.w *ℤ (n.b *ℤ q.z -ℤ n.c *ℤ q.y) +ℤ q.w *ℤ (n.c *ℤ p.y -ℤ n.b *ℤ p.z);
  b = p.w *ℤ (n.c *ℤ q.x -ℤ n.a *ℤ q.z) +ℤ q.w *ℤ (n.a *ℤ p.z -ℤ n.c *ℤ p.x);
  c = p.w *ℤ (n.a *ℤ q.y -ℤ n.b *ℤ q.x) +ℤ q.w *ℤ (n.b *ℤ p.x -ℤ n.a *ℤ p.y);
  d = pos 0 -ℤ product_with n p q;
}

abbrev pub way_planeP : Form → Place → Place → Form
way_planeP n p q = record {
  a = plus (times p.w (minus (times n.b q.z) (times n.c q.y))) (times q.w (minus (times n.c p.y) (times n.b p.z)));
  b = plus (times p.w (minus (times n.c q.x) (times n.a q.z))) (times q.w (minus (times n.a p.z) (times n.c p.x)));
  c = plus (times p.w (minus (times n.a q.y) (times n.b q.x))) (times q.w (minus (times n.b p.x) (times n.a p.y)));
  d = minus (num (pos 0)) (productP n p q);
}

pub way_value : (n : Coefficients) (p q r : Coordinates) → value (way_plane n p q) r ≡ orientation_seen_from n p q r
way_value n p q r =
    let N = form 0 in let P = place 4 in let Q = place 8 in let R = place 12 in
    ring (of_plane n (of_point p (of_point q (of_point r [])))) (valueP (way_planeP N P Q) R) (turnP N P Q R) refl

-- ---- sums of numbers
abbrev pub sum_to : (ℕ → ℕ) → ℕ → ℕ
sum_to g zero = 0
sum_to g (suc k) = sum_to g k + g k

pub below_next : (x s y : ℕ) → (x ≡ y) ⊎ (x ≤ s) → x ≤ s + y
below_next x s y (inl e) = omega (arith, e)
below_next x s y (inr b) = omega (arith, b)

pub last_or_less : (i k : ℕ) → i < suc k → (i ≡ k) ⊎ (i < k)
last_or_less i k l = elim (cases_lt i k) [ inl b ↦ inr b | inr b ↦ inl (omega arith) ]

pub same_or_less : (g : ℕ → ℕ) (s i k : ℕ) → (i ≡ k) ⊎ (i < k) → (i < k → g i ≤ s) → (g i ≡ g k) ⊎ (g i ≤ s)
same_or_less g s i k (inl e) h = inl (ap g e)
same_or_less g s i k (inr b) h = inr (h b)

pub below_sum : (g : ℕ → ℕ) (k i : ℕ) → i < k → g i ≤ sum_to g k
below_sum g zero i l = absurd (omega arith)
below_sum g (suc k) i l = below_next (g i) (sum_to g k) (g k) (same_or_less g (sum_to g k) i k (last_or_less i k l) (below_sum g k i))

pub first_part : (a b c : ℕ) → a ≤ a + (b + c)
first_part a b c = omega arith

pub second_part : (a b c : ℕ) → b ≤ a + (b + c)
second_part a b c = omega arith

pub third_part : (a b c : ℕ) → c ≤ a + (b + c)
third_part a b c = omega arith

pub at_most_left : (a b n : ℕ) → a + b ≤ n → a ≤ n
at_most_left a b n h = omega arith

pub at_most_right : (a b n : ℕ) → a + b ≤ n → b ≤ n
at_most_right a b n h = omega arith

pub at_most_both : (x y n : ℕ) → x ≤ y → y ≤ n → x ≤ n
at_most_both x y n h k = omega arith

-- ---- a direction in units, in grid steps
abbrev pub several : LengthUnit → Direction → Direction
several unit v = record { x = grid_steps_per_unit unit *ℤ v.x; y = grid_steps_per_unit unit *ℤ v.y; z = grid_steps_per_unit unit *ℤ v.z }

pub coordinate_moved : (s k x v : ℤ) → s *ℤ (k *ℤ x +ℤ v) ≡ k *ℤ (s *ℤ x) +ℤ s *ℤ v
coordinate_moved s k x v =
    ring (s ∷ k ∷ x ∷ v ∷ []) (times (var 0) (plus (times (var 1) (var 2)) (var 3))) (plus (times (var 1) (times (var 0) (var 2))) (times (var 0) (var 3))) refl

pub moved : (unit : LengthUnit) (number : ℕ) (p : Coordinates) (v : Direction) → in_steps unit (near_point number p v) ≡ near_point number (in_steps unit p) (several unit v)
moved unit number p v = λ i. record {
  x = coordinate_moved (grid_steps_per_unit unit) (pos (suc number)) p.x v.x i;
  y = coordinate_moved (grid_steps_per_unit unit) (pos (suc number)) p.y v.y i;
  z = coordinate_moved (grid_steps_per_unit unit) (pos (suc number)) p.z v.z i;
  w = pos (suc number) *ℤ p.w;
}

pub slope_several : (unit : LengthUnit) (m : Coefficients) (v : Direction) → slope m (several unit v) ≡ grid_steps_per_unit unit *ℤ slope m v
slope_several unit m v =
    let M = form 0 in
    ring (of_plane m (v.x ∷ v.y ∷ v.z ∷ grid_steps_per_unit unit ∷ []))
    (plus (plus (times M.a (times (var 7) (var 4))) (times M.b (times (var 7) (var 5)))) (times M.c (times (var 7) (var 6))))
    (times (var 7) (plus (plus (times M.a (var 4)) (times M.b (var 5))) (times M.c (var 6)))) refl

pub several_flat : (unit : LengthUnit) (m : Coefficients) (v : Direction) → slope m v ≡ pos 0 → slope m (several unit v) ≡ pos 0
several_flat unit m v e = slope_several unit m v ∙ ap (λ (x : ℤ). grid_steps_per_unit unit *ℤ x) e ∙ *ℤ-zero (grid_steps_per_unit unit)

pub several_apart : (unit : LengthUnit) (m : Coefficients) (v : Direction) → slope m v ≢ pos 0 → slope m (several unit v) ≢ pos 0
several_apart unit m v h e = h (zero_cancel (grid_steps_per_unit unit) (slope m v) (steps_above unit) (sym (slope_several unit m v) ∙ e))

-- ---- the plane that a face faces
module _ (unit : LengthUnit) (vertices : List Coordinates) (face : List ℕ) (three : 3 ≤ length face) where
  abbrev pub spot : ℕ → Coordinates
  spot i = grid_corner unit vertices face i

  abbrev pub second : ℕ
  second = index_after (length face) 0

  pub first_below : 0 < length face
  first_below = below_three 0 (length face) three (omega arith)

  pub last_below : 2 < length face
  last_below = below_three 2 (length face) three (omega arith)

  pub second_below : second < length face
  second_below = after_below (length face) 0 first_below

  pub corners_turn : (n : Coefficients) → FacesPlane unit vertices n face → pos 0 <ℤ orientation_seen_from n (spot 0) (spot second) (spot 2)
  corners_turn n h = h.left 0 2 first_below last_below (omega arith) (not_two (length face) three)

  pub points_too : (n m : Coefficients) → IsPlane n → FacesPlane unit vertices n face → ((i : ℕ) → i < length face → value m (spot i) ≡ pos 0) → (p : Coordinates) → value n p ≡ pos 0 → value m p ≡ pos 0
  points_too n m hn h k p on =
      zero_cancel (orientation_seen_from n (spot 0) (spot second) (spot 2)) (value m p) (corners_turn n h)
      (last_of_four (orientation_seen_from n (spot second) (spot 2) p) (orientation_seen_from n (spot 0) (spot 2) p) (orientation_seen_from n (spot 0) (spot second) p) (orientation_seen_from n (spot 0) (spot second) (spot 2))
      (value m (spot 0)) (value m (spot second)) (value m (spot 2)) (value m p)
      (four_points n (directed_above n hn.directed) (spot 0) (spot second) (spot 2) p (h.on 0 first_below) (h.on second second_below) (h.on 2 last_below) on m)
      (k 0 first_below) (k second second_below) (k 2 last_below))

  pub one_plane : (n m : Coefficients) → IsPlane n → IsPlane m → FacesPlane unit vertices n face → FacesPlane unit vertices m face → n ≡ m
  one_plane n m hn hm h k = elim (equal_or_opposite n m hn hm (record { points = λ p w e. points_too n m hn h k.on p e })) [
    | inl e ↦ e
    | inr e ↦ absurd (no_two_sides n m e (spot 0) (spot second) (spot 2) (corners_turn n h) (corners_turn m k))
  ]

-- ---- exactly one face
pub one_only : (b : Bool) (P : List ℕ → Type 0) (faces : List (List ℕ)) → OneExactlyWhere b P faces → (i j : ℕ) → i < length faces → j < length faces →
    P (slice_index_or faces i []) → P (slice_index_or faces j []) → i ≡ j
one_only true P faces h i j l k hi hj = h.only i l hi ∙ sym (h.only j k hj)
one_only false P faces h i j l k hi hj = absurd (h i l hi)

pub is_where : (b : Bool) (P : List ℕ → Type 0) (faces : List (List ℕ)) → OneExactlyWhere b P faces → (i : ℕ) → i < length faces → P (slice_index_or faces i []) → b ≡ true
is_where true P faces h i l hi = refl
is_where false P faces h i l hi = absurd (h i l hi)

-- ---- near an inner point of a face
abbrev pub way_slopes : LengthUnit → List Coordinates → Coefficients → List ℕ → Direction → ℕ → ℕ
way_slopes unit vertices n face u i = unsigned_abs (slope (way_plane n (grid_corner unit vertices face i) (grid_corner unit vertices face (index_after (length face) i))) u)

abbrev pub face_slopes : LengthUnit → List Coordinates → Coefficients → List ℕ → Direction → ℕ
face_slopes unit vertices n face u = sum_to (way_slopes unit vertices n face u) (length face)

-- a face that covers a point covers one near by, along its plane
pub still_covers : (unit : LengthUnit) (vertices : List Coordinates) (n : Coefficients) (face : List ℕ) (p : Coordinates) (v : Direction) (number : ℕ) →
    slope n (several unit v) ≡ pos 0 → face_slopes unit vertices n face (several unit v) ≤ number →
    FaceCovers unit vertices n p face → FaceCovers unit vertices n (near_point number p v) face
still_covers unit vertices n face p v number flat enough h =
    let u = several unit v in
    let q = in_steps unit p in record {
      faces = h.faces;
      on = ap (value n) (moved unit number p v) ∙ near_on n number q u h.on ∙ flat;
      left = λ i l.
          (let a = grid_corner unit vertices face i in
          let b = grid_corner unit vertices face (index_after (length face) i) in
          let small = below_sum (way_slopes unit vertices n face u) (length face) i l in
          subst (λ (x : ℤ). pos 0 <ℤ x) (way_value n a b (near_point number q u) ∙ ap (orientation_seen_from n a b) (sym (moved unit number p v)))
          (near_ahead (way_plane n a b) number q u (at_most_both (way_slopes unit vertices n face u i) (face_slopes unit vertices n face u) number small enough)
          (subst (λ (x : ℤ). pos 0 <ℤ x) (sym (way_value n a b q)) (h.left i l))));
    }

module _ (unit : LengthUnit) (f : Tree) (full : HasFullLeaves f) (n : Coefficients) (plane : IsPlane n) (face_plane : IsFacePlane n f)
    (p : Coordinates) (world : IsInWorld (in_steps unit p)) (on : value n (in_steps unit p) ≡ pos 0) where
  abbrev pub here : Coordinates
  here = in_steps unit p

  pub each_plane : Each IsPlane (planes_in f)
  each_plane = each_weaker (λ m. IsPlaneOf m f) IsPlane (λ m h. face_plane_is_plane f m full (inl h)) (planes_in f) (each_is f)

  pub found : General here world.weight n plane on (planes_in f)
  found = general here world.weight n plane on (planes_in f) each_plane

  abbrev pub way_out : Direction
  way_out = found.v

  abbrev pub step_out : Direction
  step_out = several unit way_out

  pub step_flat : slope n step_out ≡ pos 0
  step_flat = several_flat unit n way_out found.flat

  abbrev pub own_slopes : ℕ
  own_slopes = all_slopes world_box step_out + all_slopes (planes_in f) step_out

  pub only_plane : (number : ℕ) (m : Coefficients) → unsigned_abs (slope m step_out) ≤ number → Clears here world.weight n plane on way_out m → value m (near_point number here step_out) ≡ pos 0 → IsEither m n
  only_plane number m b (inl off) e = absurd (off (zero_near m number here step_out b e))
  only_plane number m b (inr (inl either)) e = either
  only_plane number m b (inr (inr leaves)) e =
      absurd (several_apart unit m way_out leaves (sym (near_on m number here step_out (zero_near m number here step_out b e)) ∙ e))

  -- the point near by is on no other face plane
  pub alone_near : (number : ℕ) → own_slopes ≤ number → IsOnOneFacePlane f n (in_steps unit (near_point number p way_out))
  alone_near number enough =
      let there = near_point number here step_out in
      let box = each_slope world_box step_out number (at_most_left (all_slopes world_box step_out) (all_slopes (planes_in f) step_out) number enough) in
      let planes = each_both (λ m. unsigned_abs (slope m step_out) ≤ number) (Clears here world.weight n plane on way_out) (planes_in f)
      (each_slope (planes_in f) step_out number (at_most_right (all_slopes world_box step_out) (all_slopes (planes_in f) step_out) number enough)) found.clear in
      subst (IsOnOneFacePlane f n) (sym (moved unit number p way_out))
      (record {
        world = (open_world there).0 (in_near world_box number here step_out box ((open_world here).1 world));
        face_plane = face_plane;
        on = near_on n number here step_out on ∙ step_flat;
        alone = λ m h e.
            (let c = each_of (λ k. (unsigned_abs (slope k step_out) ≤ number) × Clears here world.weight n plane on way_out k) f planes m h in
            only_plane number m c.0 c.1 e);
      })
