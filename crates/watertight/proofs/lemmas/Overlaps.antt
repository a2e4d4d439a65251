-- No two faces of a boundary share an inner point: near such a point is one that no other face plane goes through.
use Rattle.std.proofs.Common.{◌≡◌, ◌≢◌, ◌⊎◌, inl, inr, ℕ, zero, suc, ◌+◌, ◌<◌, ◌≤◌, Bool, true, false, not, ◌&&◌, if◌then◌else◌, List, [], ◌∷◌, ◌++◌, length, slice_index_or, refl, sym, ap, ap₂, ◌∙◌, subst, arith, true≢false, ℤ, pos, ◌+ℤ◌, ◌-ℤ◌, ◌*ℤ◌, ◌<ℤ◌, neg_ℤ, unsigned_abs, All}
use Rattle.std.specs.Prelude.{Contains}
use Rattle.std.proofs.Math.IntN.{*ℤ-zero}
use Rattle.std.proofs.lemmas.Bool.{cases_lt}
use Rattle.plane_predicate.specs.declared.unit.Unit.{Unit as LengthUnit}
use Rattle.plane_predicate.specs.Space.{Coefficients, Coordinates, value, orientation_seen_from, opposite_of, is_same, product_with, IsPlane, IsInWorld}
use Rattle.plane_predicate.specs.Units.{grid_steps_per_unit}
use Rattle.plane_predicate.specs.InUnits.{in_steps}
use Rattle.plane_predicate.proofs.lemmas.IntegerRing.{sums, mul_neg_left}
use Rattle.plane_predicate.proofs.lemmas.InUnits.{steps_above}
use Rattle.plane_predicate.proofs.lemmas.Polynomials.{Poly, var, plus, times, minus, num, ring}
use Rattle.plane_predicate.proofs.lemmas.Vectors.{Form, Place, form, place, of_plane, of_point, valueP, turnP, productP, value-opposite}
use Rattle.plane_predicate.proofs.lemmas.Signs.{zero_cancel}
use Rattle.plane_predicate.proofs.lemmas.SamePlanes.{directed_above, equal_or_opposite}
use Rattle.plane_polygon.proofs.lemmas.FourPoints.{four_points}
use Rattle.plane_polygon.proofs.lemmas.Hull.{after_below}
use Rattle.csg_tree.specs.HalfSpaceTrees.{Tree, nothing, leaf, tree_join, SideAssignment, holds, sides_of, IsPlaneOf}
use Rattle.csg_tree.specs.FacePlanes.{IsFacePlane, IsOnOneFacePlane, sides_just_behind, sides_just_ahead, is_boundary_at}
use Rattle.csg_tree.specs.ProperTrees.{HasFullLeaves, IsProper}
use Rattle.bsp_tree.specs.Cells.{world_box}
use Rattle.bsp_tree.proofs.lemmas.Opposites.{opposite_twice}
use Rattle.bsp_tree.proofs.lemmas.SameNumbers.{same_equal}
use Rattle.bsp_tree.proofs.lemmas.Worlds.{open_world}
use Rattle.closed_surface.specs.Ways.{Direction, slope}
use Rattle.closed_surface.specs.Near.{near_point}
use Rattle.closed_surface.proofs.lemmas.Near.{near_on, near_ahead, zero_near}
use Rattle.closed_surface.proofs.lemmas.Balanced.{in_near}
use Rattle.closed_surface.proofs.lemmas.Closing.{not_opposite}
use Rattle.closed_surface.proofs.lemmas.Lines.{IsEither}
use Rattle.closed_surface.proofs.lemmas.Each.{Each, each_weaker, each_both, each_append, each_left, each_right, each_from_all}
use Rattle.off_text.specs.Boundaries.{grid_corner, FacesPlane, FaceCovers, OneExactlyWhere}
use Rattle.off_text.specs.Bounding.{IsBoundary}
use Rattle.off_text.proofs.lemmas.BesideFaces.{face_plane_is_plane}
use Rattle.off_text.proofs.lemmas.Rounded.{below_three, not_two, last_of_four}
use Rattle.off_text.proofs.lemmas.Scaled.{no_two_sides}
use Rattle.watertight.specs.Overlaps.{ShareNoInnerPointInAPlane}
use Rattle.watertight.proofs.General.{General, Clears, general, all_slopes, each_slope}
use Rattle.watertight.proofs.lemmas.Nearby.{way_out, own_slopes, step_flat, alone_near, still_covers, face_slopes, several, one_plane, one_only, is_where, first_part, second_part, third_part}
use Rattle.watertight.proofs.Strict.{inner_in_world, plane_reach}
use Rattle.plane_predicate.specs.Indices.{index_after}

-- ---- the other side of a plane
both_or_neither : (x y s : Bool) → (x ≡ true → y ≡ true → ⊥) → (if y then true else if x then false else s) ≡ (if x then false else if y then true else s)
both_or_neither true true s h = absurd (h refl refl)
both_or_neither true false s h = refl
both_or_neither false true s h = refl
both_or_neither false false s h = refl

other_side : (n : Coefficients) → IsPlane n → (q : Coordinates) (m : Coefficients) → sides_just_behind (opposite_of n) q m ≡ sides_just_ahead n q m
other_side n plane q m =
    ap (λ (k : Coefficients). if is_same m (opposite_of n) then true else if is_same m k then false else sides_of q m) (opposite_twice n)
    ∙ both_or_neither (is_same m n) (is_same m (opposite_of n)) (sides_of q m)
    (λ e f. not_opposite n plane (sym (same_equal m n e) ∙ same_equal m (opposite_of n) f))

pub sides_exchanged : (n : Coefficients) → IsPlane n → (q : Coordinates) → sides_just_behind (opposite_of n) q ≡ sides_just_ahead n q
sides_exchanged n plane q = λ i m. other_side n plane q m i

zero_negative : (x y : ℤ) → x ≡ neg_ℤ y → y ≡ pos 0 → x ≡ pos 0
zero_negative x y e h = omega (arith, sums)

opposite_face_plane : (f : Tree) (n : Coefficients) → IsFacePlane n f → IsFacePlane (opposite_of n) f
opposite_face_plane f n (inl h) = inr (subst (λ (m : Coefficients). IsPlaneOf m f) (sym (opposite_twice n)) h)
opposite_face_plane f n (inr h) = inl h

opposite_either : (m n : Coefficients) → IsEither m n → IsEither m (opposite_of n)
opposite_either m n (inl e) = inr (e ∙ sym (opposite_twice n))
opposite_either m n (inr e) = inl e

pub on_opposite : (f : Tree) (n : Coefficients) (q : Coordinates) → IsOnOneFacePlane f n q → IsOnOneFacePlane f (opposite_of n) q
on_opposite f n q h = record {
  world = h.world;
  face_plane = opposite_face_plane f n h.face_plane;
  on = zero_negative (value (opposite_of n) q) (value n q) (value-opposite n q) h.on;
  alone = λ m k e. opposite_either m n (h.alone m k e);
}

not_both_ways : (x y z : Bool) → (x && not y) ≡ true → (y && not z) ≡ true → ⊥
not_both_ways true true z h k = true≢false (sym h)
not_both_ways true false z h k = true≢false (sym k)
not_both_ways false y z h k = true≢false (sym h)

slope_opposite : (n : Coefficients) (u : Direction) → slope (opposite_of n) u ≡ neg_ℤ (slope n u)
slope_opposite n u = omega (arith, sums, mul_neg_left n.a u.x, mul_neg_left n.b u.y, mul_neg_left n.c u.z)

opposite_flat : (n : Coefficients) (u : Direction) → slope n u ≡ pos 0 → slope (opposite_of n) u ≡ pos 0
opposite_flat n u e = zero_negative (slope (opposite_of n) u) (slope n u) (slope_opposite n u) e

-- ---- the faces of a boundary
module _ (unit : LengthUnit) (bytes : List ℕ) (f : Tree) (full : HasFullLeaves f) (text : IsBoundary unit bytes f) where
  abbrev face_at : ℕ → List ℕ
  face_at i = slice_index_or text.faces i []

  pub faced_plane : (n : Coefficients) → IsPlane n → (i : ℕ) → i < length text.faces → FacesPlane unit text.vertices n (face_at i) → IsFacePlane n f
  faced_plane n plane i l h =
      let b = text.bounding i [] l in
      subst (λ (m : Coefficients). IsFacePlane m f)
      (one_plane unit text.vertices (face_at i) (text.read.loops i [] l).three b.plane n (face_plane_is_plane f b.plane full b.of_formula) plane b.faces h) b.of_formula

  -- a point strictly inside a face is strictly inside the world box
  in_world : (n : Coefficients) (p : Coordinates) → IsPlane n → pos 0 <ℤ p.w → (i : ℕ) → i < length text.faces → FaceCovers unit text.vertices n p (face_at i) → IsInWorld (in_steps unit p)
  in_world n p plane w i l h =
      inner_in_world unit text.vertices (face_at i) (text.read.loops i [] l).three n plane p w h
      (plane_reach f n full (faced_plane n plane i l h.faces)) (text.bounding i [] l).boxed

  same_face : (n : Coefficients) (p : Coordinates) → IsPlane n → pos 0 <ℤ p.w → (i j : ℕ) → i < length text.faces → j < length text.faces →
      FaceCovers unit text.vertices n p (face_at i) → FaceCovers unit text.vertices n p (face_at j) → i ≡ j
  same_face n p plane w i j l k h g =
      let world = in_world n p plane w i l h in
      let fp = faced_plane n plane i l h.faces in
      let v = way_out unit f full n plane fp p world h.on in
      let own = own_slopes unit f full n plane fp p world h.on in
      let first = face_slopes unit text.vertices n (face_at i) (several unit v) in
      let second = face_slopes unit text.vertices n (face_at j) (several unit v) in
      let number = own + (first + second) in
      let flat = step_flat unit f full n plane fp p world h.on in
      let there = near_point number p v in
      one_only (is_boundary_at f n (in_steps unit there)) (FaceCovers unit text.vertices n there) text.faces
      (text.covered n there (alone_near unit f full n plane fp p world h.on number (first_part own first second))) i j l k
      (still_covers unit text.vertices n (face_at i) p v number flat (second_part own first second) h)
      (still_covers unit text.vertices n (face_at j) p v number flat (third_part own first second) g)

  no_opposite : (n : Coefficients) (p : Coordinates) → IsPlane n → pos 0 <ℤ p.w → (i j : ℕ) → i < length text.faces → j < length text.faces →
      FaceCovers unit text.vertices n p (face_at i) → FaceCovers unit text.vertices (opposite_of n) p (face_at j) → ⊥
  no_opposite n p plane w i j l k h g =
      let world = in_world n p plane w i l h in
      let fp = faced_plane n plane i l h.faces in
      let v = way_out unit f full n plane fp p world h.on in
      let own = own_slopes unit f full n plane fp p world h.on in
      let first = face_slopes unit text.vertices n (face_at i) (several unit v) in
      let second = face_slopes unit text.vertices (opposite_of n) (face_at j) (several unit v) in
      let number = own + (first + second) in
      let flat = step_flat unit f full n plane fp p world h.on in
      let there = near_point number p v in
      let r = in_steps unit there in
      let alone = alone_near unit f full n plane fp p world h.on number (first_part own first second) in
      let one = is_where (is_boundary_at f n r) (FaceCovers unit text.vertices n there) text.faces (text.covered n there alone) i l
      (still_covers unit text.vertices n (face_at i) p v number flat (second_part own first second) h) in
      let other = is_where (is_boundary_at f (opposite_of n) r) (FaceCovers unit text.vertices (opposite_of n) there) text.faces
      (text.covered (opposite_of n) there (on_opposite f n r alone)) j k
      (still_covers unit text.vertices (opposite_of n) (face_at j) p v number (opposite_flat n (several unit v) flat) (third_part own first second) g) in
      not_both_ways (holds f (sides_just_behind n r)) (holds f (sides_just_ahead n r)) (holds f (sides_just_ahead (opposite_of n) r)) one
      (subst (λ (s : SideAssignment). (holds f s && not (holds f (sides_just_ahead (opposite_of n) r))) ≡ true) (sides_exchanged n plane r) other)

  pub no_overlaps : ShareNoInnerPointInAPlane unit text.vertices text.faces
  no_overlaps = record { same = same_face; opposite = no_opposite }
