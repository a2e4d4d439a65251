-- No point inside a solid that is within reach is ahead of a plane which no vertex is ahead of: else a point beyond the reach
-- would be inside, too. That point is far along the first axis, to the side where the plane's value does not fall.
use Rattle.std.proofs.Common.{◌≡◌, ◌≢◌, inl, inr, ℕ, suc, ◌+◌, ◌≤◌, List, [], ◌∷◌, refl, sym, ap, ◌∙◌, subst, arith, ℤ, pos, negsuc, ◌+ℤ◌, ◌-ℤ◌, ◌*ℤ◌, ◌<ℤ◌, ◌≤ℤ◌, unsigned_abs, All}
use Rattle.std.proofs.Math.IntN.{*ℤ-zero}
use Rattle.plane_predicate.specs.declared.unit.Unit.{Unit as LengthUnit}
use Rattle.plane_predicate.specs.Space.{Coefficients, Coordinates, value, inner_product, IsInReach, IsInWorld}
use Rattle.plane_predicate.specs.Units.{grid_steps_per_unit}
use Rattle.plane_predicate.specs.InUnits.{in_steps}
use Rattle.plane_predicate.proofs.lemmas.IntegerRing.{sums, one_mul}
use Rattle.plane_predicate.proofs.lemmas.InUnits.{steps_above}
use Rattle.plane_predicate.proofs.lemmas.Identities.{combine}
use Rattle.plane_predicate.proofs.lemmas.Polynomials.{Poly, var, num, plus, times, minus, ring}
use Rattle.plane_predicate.proofs.lemmas.Vectors.{Form, Place, form, place, of_plane, of_point, valueP, combineP}
use Rattle.plane_predicate.proofs.lemmas.SamePlanes.{directed_above}
use Rattle.plane_predicate.proofs.lemmas.Signs.{signs, pos_pos, pos_neg, least_least, least_most, most_cancel}
use Rattle.plane_polygon.specs.Boxes.{high_x, low_x, high_y, low_y, high_z, low_z}
use Rattle.csg_tree.specs.HalfSpaceTrees.{Tree, IsPlaneOf}
use Rattle.csg_tree.specs.ProperTrees.{HasFullLeaves}
use Rattle.csg_tree.specs.Reach.{KeepsWithinReach}
use Rattle.bsp_tree.specs.Cells.{world_box, AllBehind, IsInCell}
use Rattle.bsp_tree.proofs.lemmas.NearPoints.{direction, value_direction}
use Rattle.bsp_tree.proofs.lemmas.Openness.{more_above}
use Rattle.bsp_tree.proofs.lemmas.Worlds.{open_world, reach_in_box}
use Rattle.closed_surface.proofs.lemmas.Numbers.{at_most, at_least, zero_at_most, zero_at_least, not_zero_below, not_zero_above}
use Rattle.off_text.specs.Bounding.{IsBoundary}
use Rattle.off_text.proofs.lemmas.BesideFaces.{face_plane_is_plane}
use Rattle.watertight.proofs.lemmas.Reach.{sides_by_reach}
use Rattle.watertight.proofs.lemmas.Vertices.{all_in_reach}
use Rattle.ray_crossings.specs.Positions.{IsOffFacePlanes}
use Rattle.ray_crossings.specs.Limits.{IsInsideSolid, IsLimitOfInside}
use Rattle.ray_crossings.proofs.Sides.{size_of, plane_size}
use Rattle.ray_crossings.proofs.Choice.{sizes, each_size, often_apart, once_left, value_often, square, zero_form, IsClearAt, IsChosen, chosen}
use Rattle.ray_crossings.proofs.Moving.{all_stay_behind}
use Rattle.ray_crossings.proofs.Places.{all_limits}
use Rattle.ray_crossings.proofs.Beyond.{alike}
use Rattle.watertight.proofs.lemmas.Nearby.{planes_in, each_of}

-- ---- points within reach are strictly inside the box
reach_world : (p : Coordinates) → IsInReach p → IsInWorld p
reach_world p h = (open_world p).0 (reach_in_box p h)

pub limits_within : (unit : LengthUnit) (bytes : List ℕ) (f : Tree) → HasFullLeaves f → KeepsWithinReach f → (text : IsBoundary unit bytes f) →
    All (λ (v : Coordinates). IsLimitOfInside f (in_steps unit v)) text.vertices
limits_within unit bytes f full keeps text =
    all_limits unit bytes f full text (λ i d l. reach_world (in_steps unit _) (all_in_reach unit bytes f full keeps text i d l))

-- ---- numbers
times_one : (t : ℤ) → t *ℤ pos 1 ≡ t
times_one t = ring (t ∷ []) (times (var 0) (num (pos 1))) (var 0) refl

times_less_one : (t : ℤ) → t *ℤ negsuc 0 ≡ pos 0 -ℤ t
times_less_one t = ring (t ∷ []) (times (var 0) (num (negsuc 0))) (minus (num (pos 0)) (var 0)) refl

with_zero : (v t : ℤ) → v <ℤ pos 0 → ((v +ℤ v) +ℤ t *ℤ pos 0) <ℤ pos 0
with_zero v t h = omega (arith, sums, *ℤ-zero t)

with_least : (v t c : ℤ) → pos 0 <ℤ v → pos 0 ≤ℤ t → pos 0 ≤ℤ c → pos 0 <ℤ ((v +ℤ v) +ℤ t *ℤ c)
with_least v t c h ht hc = omega (arith, sums, least_least t c ht hc)

double_above : (k : ℤ) → pos 0 <ℤ k → pos 0 <ℤ (k +ℤ k)
double_above k h = omega (arith, sums)

far_weight : (k w t : ℤ) → pos 0 <ℤ k → pos 0 <ℤ w → pos 0 <ℤ ((k +ℤ k) *ℤ w +ℤ t *ℤ pos 0)
far_weight k w t hk hw = omega (arith, sums, pos_pos (k +ℤ k) w (double_above k hk) hw, *ℤ-zero t)

not_both : (x : ℤ) → pos 0 <ℤ x → x ≤ℤ pos 0 → ⊥
not_both x h k = omega (arith, sums)

once : (x y : ℤ) → x +ℤ pos 1 *ℤ y ≡ x +ℤ y
once x y = ap (λ (z : ℤ). x +ℤ z) (one_mul y)

-- the values of the walls of the box, and of the reach, across the first axis
abbrev wall : ℤ → ℤ → Coefficients
wall a d = record { a = a; b = pos 0; c = pos 0; d = d }

abbrev wallP : ℤ → ℤ → Form
wallP a d = record { a = num a; b = num (pos 0); c = num (pos 0); d = num d }

high_box : (p : Coordinates) → value (wall (pos 1) (pos 4096)) p ≡ p.x -ℤ (pos 4095 *ℤ p.w +ℤ p.w)
high_box p = ring (of_point p []) (valueP (wallP (pos 1) (pos 4096)) (place 0)) (minus (var 0) (plus (times (num (pos 4095)) (var 3)) (var 3))) refl

low_box : (p : Coordinates) → value (wall (negsuc 0) (pos 4096)) p ≡ (pos 0 -ℤ p.x) -ℤ (pos 4095 *ℤ p.w +ℤ p.w)
low_box p = ring (of_point p []) (valueP (wallP (negsuc 0) (pos 4096)) (place 0)) (minus (minus (num (pos 0)) (var 0)) (plus (times (num (pos 4095)) (var 3)) (var 3))) refl

high_reach : (p : Coordinates) → value (wall (pos 1) (pos 4095)) p ≡ p.x -ℤ pos 4095 *ℤ p.w
high_reach p = ring (of_point p []) (valueP (wallP (pos 1) (pos 4095)) (place 0)) (minus (var 0) (times (num (pos 4095)) (var 3))) refl

low_reach : (p : Coordinates) → value (wall (negsuc 0) (pos 4095)) p ≡ (pos 0 -ℤ p.x) -ℤ pos 4095 *ℤ p.w
low_reach p = ring (of_point p []) (valueP (wallP (negsuc 0) (pos 4095)) (place 0)) (minus (minus (num (pos 0)) (var 0)) (times (num (pos 4095)) (var 3))) refl

-- how far, with r = 4095 w
abbrev onward : ℤ → ℤ → ℤ → ℤ
onward r w x = ((r +ℤ r) +ℤ w) -ℤ (x +ℤ x)

near_wall : (v t x r w : ℤ) → v ≡ x -ℤ (r +ℤ w) → t ≡ onward r w x → pos 0 <ℤ w → ((v +ℤ v) +ℤ t *ℤ pos 1) <ℤ pos 0
near_wall v t x r w e et h = omega (arith, sums, times_one t)

far_wall : (v t x r w : ℤ) → v ≡ (pos 0 -ℤ x) -ℤ (r +ℤ w) → t ≡ onward r w x → pos 0 ≤ℤ r → pos 0 <ℤ w → ((v +ℤ v) +ℤ t *ℤ negsuc 0) <ℤ pos 0
far_wall v t x r w e et hr h = omega (arith, sums, times_less_one t)

past_reach : (v t x r w : ℤ) → v ≡ x -ℤ r → t ≡ onward r w x → pos 0 <ℤ w → pos 0 <ℤ ((v +ℤ v) +ℤ t *ℤ pos 1)
past_reach v t x r w e et h = omega (arith, sums, times_one t)

twice : (x y : ℤ) → x -ℤ y ≡ (pos 0 -ℤ (pos 0 -ℤ x)) -ℤ y
twice x y = omega (arith, sums)

less_least : (x : ℤ) → x ≤ℤ pos 0 → pos 0 ≤ℤ (x *ℤ negsuc 0)
less_least x l = omega (arith, sums, times_less_one x)

onward_least : (v x r w : ℤ) → v ≡ x -ℤ r → v ≤ℤ pos 0 → pos 0 <ℤ w → pos 0 ≤ℤ onward r w x
onward_least v x r w e h hw = omega (arith, sums)

-- ---- a point moved along the first axis
abbrev along : ℤ → Coordinates
along s = record { x = s; y = pos 0; z = pos 0; w = pos 0 }

abbrev widenedP : Poly → Place → Place
widenedP k p = record { x = times k p.x; y = times k p.y; z = times k p.z; w = p.w }

abbrev far : LengthUnit → Coordinates → ℤ → ℤ → Coordinates
far unit p t s = combine (grid_steps_per_unit unit +ℤ grid_steps_per_unit unit) p t (along s)

value_far : (unit : LengthUnit) (m : Coefficients) (p : Coordinates) (t s : ℤ) →
    value m (in_steps unit (far unit p t s)) ≡ grid_steps_per_unit unit *ℤ ((value m (in_steps unit p) +ℤ value m (in_steps unit p)) +ℤ t *ℤ (m.a *ℤ s))
value_far unit m p t s =
    let M = form 0 in let P = place 4 in let T = var 8 in let S = var 9 in let K = var 10 in let Z = num (pos 0) in
    let V = valueP M (widenedP K P) in
    ring (of_plane m (of_point p (t ∷ s ∷ grid_steps_per_unit unit ∷ [])))
    (valueP M (widenedP K (combineP (plus K K) P T (record { x = S; y = Z; z = Z; w = Z })))) (times K (plus (plus V V) (times T (times M.a S)))) refl

far_below : (unit : LengthUnit) (m : Coefficients) (p : Coordinates) (t s : ℤ) →
    ((value m (in_steps unit p) +ℤ value m (in_steps unit p)) +ℤ t *ℤ (m.a *ℤ s)) <ℤ pos 0 → value m (in_steps unit (far unit p t s)) <ℤ pos 0
far_below unit m p t s h = subst (λ (x : ℤ). x <ℤ pos 0) (sym (value_far unit m p t s)) (pos_neg (grid_steps_per_unit unit) _ (steps_above unit) h)

far_above : (unit : LengthUnit) (m : Coefficients) (p : Coordinates) (t s : ℤ) →
    pos 0 <ℤ ((value m (in_steps unit p) +ℤ value m (in_steps unit p)) +ℤ t *ℤ (m.a *ℤ s)) → pos 0 <ℤ value m (in_steps unit (far unit p t s))
far_above unit m p t s h = subst (λ (x : ℤ). pos 0 <ℤ x) (sym (value_far unit m p t s)) (pos_pos (grid_steps_per_unit unit) _ (steps_above unit) h)

in_box : (q : Coordinates) → value high_x q <ℤ pos 0 → value low_x q <ℤ pos 0 → value high_y q <ℤ pos 0 → value low_y q <ℤ pos 0 →
    value high_z q <ℤ pos 0 → value low_z q <ℤ pos 0 → AllBehind world_box q
in_box q a b c d e g = (a, (b, (c, (d, (e, (g, tt))))))

-- a point in the box, ahead of k and beyond a side of the reach
record IsFar (unit : LengthUnit) (k : Coefficients) : Type 0 where
  pub side : Coefficients
  pub bounds : (q : Coordinates) → IsInReach q → value side q ≤ℤ pos 0
  pub point : Coordinates
  pub world : IsInCell world_box (in_steps unit point)
  pub ahead : pos 0 <ℤ value k (in_steps unit point)
  pub beyond : pos 0 <ℤ value side (in_steps unit point)

module _ (unit : LengthUnit) (k : Coefficients) (p : Coordinates) (reach : IsInReach (in_steps unit p)) (ahead : pos 0 <ℤ value k (in_steps unit p)) where
  abbrev here : Coordinates
  here = in_steps unit p

  box : IsInCell world_box (in_steps unit p)
  box = reach_in_box here reach

  r_least : pos 0 ≤ℤ (pos 4095 *ℤ p.w)
  r_least = least_least (pos 4095) p.w (omega (arith, sums)) (at_least p.w reach.weight)

  abbrev high : ℤ
  high = onward (pos 4095 *ℤ p.w) p.w (in_steps unit p).x

  abbrev low : ℤ
  low = onward (pos 4095 *ℤ p.w) p.w (pos 0 -ℤ (in_steps unit p).x)

  sides : (value (wall (pos 1) (pos 4095)) (in_steps unit p) ≤ℤ pos 0) × (value (wall (negsuc 0) (pos 4095)) (in_steps unit p) ≤ℤ pos 0)
  sides = ((sides_by_reach here reach).0, (sides_by_reach here reach).1.0)

  upward : pos 0 ≤ℤ k.a → IsFar unit k
  upward h = record {
    side = wall (pos 1) (pos 4095);
    bounds = λ q b. (sides_by_reach q b).0;
    point = far unit p high (pos 1);
    world = record {
      weight = far_weight (grid_steps_per_unit unit) p.w high (steps_above unit) reach.weight;
      below =
          in_box (in_steps unit (far unit p high (pos 1))) (far_below unit high_x p high (pos 1) (near_wall _ high here.x (pos 4095 *ℤ p.w) p.w (high_box here) refl reach.weight))
          (far_below unit low_x p high (pos 1) (far_wall _ high here.x (pos 4095 *ℤ p.w) p.w (low_box here) refl r_least reach.weight))
          (far_below unit high_y p high (pos 1) (with_zero _ high box.below.1.1.0))
          (far_below unit low_y p high (pos 1) (with_zero _ high box.below.1.1.1.0))
          (far_below unit high_z p high (pos 1) (with_zero _ high box.below.1.1.1.1.0))
          (far_below unit low_z p high (pos 1) (with_zero _ high box.below.1.1.1.1.1.0));
    };
    ahead = far_above unit k p high (pos 1)
        (with_least (value k here) high (k.a *ℤ pos 1) ahead (onward_least _ here.x (pos 4095 *ℤ p.w) p.w (high_reach here) sides.0 reach.weight)
        (least_least k.a (pos 1) h (omega (arith, sums))));
    beyond = far_above unit (wall (pos 1) (pos 4095)) p high (pos 1) (past_reach _ high here.x (pos 4095 *ℤ p.w) p.w (high_reach here) refl reach.weight);
  }

  downward : k.a ≤ℤ pos 0 → IsFar unit k
  downward h = record {
    side = wall (negsuc 0) (pos 4095);
    bounds = λ q b. (sides_by_reach q b).1.0;
    point = far unit p low (negsuc 0);
    world = record {
      weight = far_weight (grid_steps_per_unit unit) p.w low (steps_above unit) reach.weight;
      below =
          in_box (in_steps unit (far unit p low (negsuc 0))) (far_below unit high_x p low (negsuc 0) (far_wall _ low (pos 0 -ℤ here.x) (pos 4095 *ℤ p.w) p.w (high_box here ∙ twice here.x (pos 4095 *ℤ p.w +ℤ p.w)) refl r_least reach.weight))
          (far_below unit low_x p low (negsuc 0) (near_wall _ low (pos 0 -ℤ here.x) (pos 4095 *ℤ p.w) p.w (low_box here) refl reach.weight))
          (far_below unit high_y p low (negsuc 0) (with_zero _ low box.below.1.1.0))
          (far_below unit low_y p low (negsuc 0) (with_zero _ low box.below.1.1.1.0))
          (far_below unit high_z p low (negsuc 0) (with_zero _ low box.below.1.1.1.1.0))
          (far_below unit low_z p low (negsuc 0) (with_zero _ low box.below.1.1.1.1.1.0));
    };
    ahead = far_above unit k p low (negsuc 0)
        (with_least (value k here) low (k.a *ℤ negsuc 0) ahead (onward_least _ (pos 0 -ℤ here.x) (pos 4095 *ℤ p.w) p.w (low_reach here) sides.1 reach.weight)
        (less_least k.a h));
    beyond = far_above unit (wall (negsuc 0) (pos 4095)) p low (negsuc 0)
        (past_reach _ low (pos 0 -ℤ here.x) (pos 4095 *ℤ p.w) p.w (low_reach here) refl reach.weight);
  }

  far_point : IsFar unit k
  far_point = elim (signs k.a) [
    | inl l ↦ downward (at_most k.a l)
    | inr (inl e) ↦ upward (zero_at_least k.a e)
    | inr (inr g) ↦ upward (at_least k.a g)
  ]

-- ---- moved a little, so that it is on no face plane
part_one : (a b c d e : ℕ) → a ≤ a + (b + (c + (d + e)))
part_one a b c d e = omega arith

part_two : (a b c d e : ℕ) → b ≤ a + (b + (c + (d + e)))
part_two a b c d e = omega arith

part_three : (a b c d e : ℕ) → c ≤ a + (b + (c + (d + e)))
part_three a b c d e = omega arith

part_four : (a b c d e : ℕ) → d ≤ a + (b + (c + (d + e)))
part_four a b c d e = omega arith

part_five : (a b c d e : ℕ) → e ≤ a + (b + (c + (d + e)))
part_five a b c d e = omega arith

at_most_also : (a b n : ℕ) → a ≤ b → b ≤ n → a ≤ n
at_most_also a b n h k = omega arith

not_flat : (m : Coefficients) → pos 0 <ℤ inner_product m m → square m ≢ pos 0
not_flat m h e = not_zero_above (inner_product m m) h (sym (value_direction m m) ∙ zero_form m e (direction m))

module _ (unit : LengthUnit) (f : Tree) (full : HasFullLeaves f) (k : Coefficients) (start : IsFar unit k) where
  abbrev at : Coefficients → Coordinates → ℤ
  at m p = value m (in_steps unit p)

  choice : IsChosen unit (planes_in f)
  choice = chosen unit (planes_in f)

  abbrev z : Coordinates
  z = choice.point

  abbrev planes_size : ℕ
  planes_size = size_of unit f z

  abbrev box_size : ℕ
  box_size = sizes (λ m. at m z) world_box

  abbrev number : ℕ
  number = planes_size + (box_size + (unsigned_abs z.w + (unsigned_abs (at k z) + unsigned_abs (at start.side z))))

  abbrev moved_off : Coordinates
  moved_off = combine (pos (suc number)) start.point (pos 1) z

  small : (m : Coefficients) → IsPlaneOf m f → unsigned_abs (at m z) ≤ number
  small m h =
      at_most_also (unsigned_abs (at m z)) planes_size number (plane_size unit f z m (inl h))
      (part_one planes_size box_size (unsigned_abs z.w) (unsigned_abs (at k z)) (unsigned_abs (at start.side z)))

  stays_off : (m : Coefficients) → IsPlaneOf m f → at m start.point ≢ pos 0 → at m moved_off ≢ pos 0
  stays_off m h o e = often_apart number (at m start.point) (at m z) o (small m h) (sym (value_often unit m number start.point z) ∙ e)

  comes_off : (m : Coefficients) → IsPlaneOf m f → at m start.point ≡ pos 0 → IsClearAt unit z m → at m moved_off ≢ pos 0
  comes_off m h o (inl e) = absurd (not_flat m (directed_above m (face_plane_is_plane f m full (inl h)).directed) e)
  comes_off m h o (inr c) = λ e. c (sym (value_often unit m number start.point z ∙ once_left (pos (suc number)) (at m start.point) (at m z) o) ∙ e)

  off_plane : (m : Coefficients) → IsPlaneOf m f → at m moved_off ≢ pos 0
  off_plane m h = elim (signs (at m start.point)) [
    | inl l ↦ stays_off m h (not_zero_below _ l)
    | inr (inl e) ↦ comes_off m h e (each_of (IsClearAt unit z) f choice.clear m h)
    | inr (inr g) ↦ stays_off m h (not_zero_above _ g)
  ]

  stays_ahead : (m : Coefficients) → unsigned_abs (at m z) ≤ number → pos 0 <ℤ at m start.point → pos 0 <ℤ at m moved_off
  stays_ahead m b h = subst (λ (x : ℤ). pos 0 <ℤ x) (sym (value_often unit m number start.point z)) (more_above number (at m start.point) (at m z) h b)

  still_ahead : pos 0 <ℤ at k moved_off
  still_ahead = stays_ahead k (part_four planes_size box_size (unsigned_abs z.w) (unsigned_abs (at k z)) (unsigned_abs (at start.side z))) start.ahead

  still_beyond : pos 0 <ℤ at start.side moved_off
  still_beyond = stays_ahead start.side (part_five planes_size box_size (unsigned_abs z.w) (unsigned_abs (at k z)) (unsigned_abs (at start.side z))) start.beyond

  is_off : IsOffFacePlanes unit f moved_off
  is_off = record {
    world = (open_world (in_steps unit moved_off)).0 (record {
      weight = subst (λ (x : ℤ). pos 0 <ℤ x) (sym (once (pos (suc number) *ℤ start.point.w) z.w))
          (more_above number start.point.w z.w start.world.weight
          (part_three planes_size box_size (unsigned_abs z.w) (unsigned_abs (at k z)) (unsigned_abs (at start.side z))));
      below = all_stay_behind unit number start.point z world_box
          (each_size (λ m. at m z) world_box number
          (part_two planes_size box_size (unsigned_abs z.w) (unsigned_abs (at k z)) (unsigned_abs (at start.side z)))) start.world.below;
    });
    off = off_plane;
  }

-- ---- none is ahead, in grid steps and in units
module _ (unit : LengthUnit) (bytes : List ℕ) (f : Tree) (full : HasFullLeaves f) (keeps : KeepsWithinReach f) (text : IsBoundary unit bytes f) where
  not_ahead : (k : Coefficients) → All (λ (v : Coordinates). value k (in_steps unit v) ≤ℤ pos 0) text.vertices → (p : Coordinates) → IsInsideSolid f (in_steps unit p) →
      pos 0 <ℤ value k (in_steps unit p) → ⊥
  not_ahead k behind p inside ahead =
      let reach = keeps (in_steps unit p) inside.weight inside.solid in
      let start = far_point unit k p reach ahead in
      let there = moved_off unit f full k start in
      let off = is_off unit f full k start in
      let same = alike unit bytes f full text k behind p there (record { world = reach_world (in_steps unit p) reach; off = inside.off }) off ahead (still_ahead unit f full k start) in
      not_both (value start.side (in_steps unit there)) (still_beyond unit f full k start)
      (start.bounds (in_steps unit there) (keeps (in_steps unit there) off.world.weight (sym same ∙ inside.solid)))

  none_ahead : (k : Coefficients) → All (λ (v : Coordinates). value k (in_steps unit v) ≤ℤ pos 0) text.vertices → (p : Coordinates) → IsInsideSolid f (in_steps unit p) →
      value k (in_steps unit p) ≤ℤ pos 0
  none_ahead k behind p inside = elim (signs (value k (in_steps unit p))) [
    | inl l ↦ at_most _ l
    | inr (inl e) ↦ zero_at_most _ e
    | inr (inr g) ↦ absurd (not_ahead k behind p inside g)
  ]

  -- a plane whose numbers are in units, in grid steps
  abbrev stretched : Coefficients → Coefficients
  stretched k = record { a = k.a; b = k.b; c = k.c; d = grid_steps_per_unit unit *ℤ k.d }

  value_stretched : (k : Coefficients) (p : Coordinates) → value (stretched k) (in_steps unit p) ≡ grid_steps_per_unit unit *ℤ value k p
  value_stretched k p =
      let M = form 0 in let P = place 4 in let K = var 8 in
      ring (of_plane k (of_point p (grid_steps_per_unit unit ∷ [])))
      (valueP (record { a = M.a; b = M.b; c = M.c; d = times K M.d }) (widenedP K P)) (times K (valueP M P)) refl

  pub within_planes : (k : Coefficients) → All (λ (v : Coordinates). value k v ≤ℤ pos 0) text.vertices → (p : Coordinates) → IsInsideSolid f (in_steps unit p) → value k p ≤ℤ pos 0
  within_planes k behind p inside =
      most_cancel (grid_steps_per_unit unit) (value k p) (steps_above unit)
      (subst (λ (x : ℤ). x ≤ℤ pos 0) (value_stretched k p)
      (none_ahead (stretched k)
      (λ i d l. subst (λ (x : ℤ). x ≤ℤ pos 0) (sym (value_stretched k (_))) (least_most (grid_steps_per_unit unit) _ (at_least (grid_steps_per_unit unit) (steps_above unit)) (behind i d l))) p inside))
