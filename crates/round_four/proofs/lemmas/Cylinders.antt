-- A cylinder of sizes with nothing wrong is a shape.
use Rattle.std.proofs.Common.{◌≡◌, zero, suc, ◌≤◌, Bool, true, false, cond, List, ◌++◌, map, All, ap, ap₂, subst, sym, refl, arith, ℤ, pos, negsuc, neg_ℤ, ◌+ℤ◌, ◌<ℤ◌, ◌≤ℤ◌, unsigned_abs}
use Rattle.std.specs.Ordering.{int_eq}
use Rattle.std.proofs.lemmas.Bool.Decides.{Decides-int_eq}
use Rattle.std.proofs.lemmas.List.Elements.{All-append, All-from_recursion}
use Rattle.plane_predicate.specs.declared.unit.Unit.{Unit as LengthUnit}
use Rattle.plane_predicate.specs.Space.{point_at}
use Rattle.plane_predicate.proofs.lemmas.IntegerRing.{sums}
use Rattle.plane_predicate.proofs.lemmas.Opposites.{size_of_negative}
use Rattle.int_transform.specs.Maps.{HasSafeCoordinates}
use Rattle.primitives.specs.Shapes.{Mesh, IsShape}
use Rattle.primitives.specs.Prisms.{at_height}
use Rattle.primitives.specs.Sizes.{length_in_grid_steps, low_end}
use Rattle.round_four.specs.Circles.{circle_points}
use Rattle.round_four.specs.Cylinders.{cylinder_between, cylinder_of, faces_from_apex, faces_of_two, faces_to_apex, AreCylinderSizes}
use Rattle.round_four.proofs.Corners.{apex_at, apex_corners, both_corners, circle_corners}
use Rattle.round_four.proofs.lemmas.FromApex.{from_apex, from_apex_faces}
use Rattle.round_four.proofs.lemmas.Radii.{no_steps, steps_above, steps_least}
use Rattle.round_four.proofs.lemmas.ToApex.{to_apex, to_apex_faces}
use Rattle.round_four.proofs.lemmas.TwoCircles.{two, two_faces}

-- ---- coordinates
abbrev IsSize : ℤ → Type 0
IsSize n = unsigned_abs n ≤ 9007199254740991

-- a number and its opposite that are small
record IsSmall (n : ℤ) : Type 0 where
  plus_size : IsSize n
  minus_size : IsSize (neg_ℤ n)

no_size : IsSize (pos 0)
no_size = omega arith

near_small : (n : ℤ) → unsigned_abs n ≤ 65535 → IsSmall n
near_small n h = record { plus_size = omega (arith, h); minus_size = omega (arith, size_of_negative n, h) }

abbrev AreSafe : List (List ℤ) → Type 0
AreSafe points = All (λ (p : List ℤ). HasSafeCoordinates (point_at p)) points

circle_safe : (r z : ℤ) → IsSmall r → IsSmall z → AreSafe (map (at_height z) (circle_points r))
circle_safe r z hr hz =
    All-from_recursion (λ (p : List ℤ). HasSafeCoordinates (point_at p)) (map (at_height z) (circle_points r)) (
      record { x_size = hr.plus_size; y_size = no_size; z_size = hz.plus_size },
      (
        record { x_size = no_size; y_size = hr.plus_size; z_size = hz.plus_size },
        (
          record { x_size = hr.minus_size; y_size = no_size; z_size = hz.plus_size },
          (
            record { x_size = no_size; y_size = hr.minus_size; z_size = hz.plus_size },
            tt,
          ),
        ),
      ),
    )

apex_safe : (z : ℤ) → IsSmall z → AreSafe (apex_at z)
apex_safe z hz = All-from_recursion (λ (p : List ℤ). HasSafeCoordinates (point_at p)) (apex_at z) (record { x_size = no_size; y_size = no_size; z_size = hz.plus_size }, tt)

ends_safe : (low high : List (List ℤ)) → AreSafe low → AreSafe high → AreSafe (low ++ high)
ends_safe low high hl hh = All-append (λ (p : List ℤ). HasSafeCoordinates (point_at p)) low high hl hh

-- ---- the three kinds of cylinders
two_is_shape : (a b l k : ℤ) → pos 0 <ℤ a → pos 0 <ℤ b → pos 0 <ℤ k → IsSmall a → IsSmall b → IsSmall l → IsSmall (l +ℤ k) → IsShape (two a b l (l +ℤ k))
two_is_shape a b l k ha hb hk sa sb sl sh = record {
  some = omega arith;
  faces = two_faces a b l k ha hb hk (both_corners a b l (l +ℤ k) (map (at_height l) (circle_points a)) (map (at_height (l +ℤ k)) (circle_points b)) (circle_corners a l ha) (circle_corners b (l +ℤ k) hb));
  safe = ends_safe (map (at_height l) (circle_points a)) (map (at_height (l +ℤ k)) (circle_points b)) (circle_safe a l sa sl) (circle_safe b (l +ℤ k) sb sh);
}

to_apex_is_shape : (a l k : ℤ) → pos 0 <ℤ a → pos 0 <ℤ k → IsSmall a → IsSmall l → IsSmall (l +ℤ k) → IsShape (to_apex a l (l +ℤ k))
to_apex_is_shape a l k ha hk sa sl sh = record {
  some = omega arith;
  faces = to_apex_faces a l k ha hk (both_corners a (pos 0) l (l +ℤ k) (map (at_height l) (circle_points a)) (apex_at (l +ℤ k)) (circle_corners a l ha) (apex_corners (l +ℤ k)));
  safe = ends_safe (map (at_height l) (circle_points a)) (apex_at (l +ℤ k)) (circle_safe a l sa sl) (apex_safe (l +ℤ k) sh);
}

from_apex_is_shape : (b l k : ℤ) → pos 0 <ℤ b → pos 0 <ℤ k → IsSmall b → IsSmall l → IsSmall (l +ℤ k) → IsShape (from_apex b l (l +ℤ k))
from_apex_is_shape b l k hb hk sb sl sh = record {
  some = omega arith;
  faces = from_apex_faces b l k hb hk (both_corners (pos 0) b l (l +ℤ k) (apex_at l) (map (at_height (l +ℤ k)) (circle_points b)) (apex_corners l) (circle_corners b (l +ℤ k) hb));
  safe = ends_safe (apex_at l) (map (at_height (l +ℤ k)) (circle_points b)) (apex_safe l sl) (circle_safe b (l +ℤ k) sb sh);
}

-- ---- which kind it is
not_zero : (r : ℤ) (same : Bool) → int_eq r (pos 0) ≡ same → pos 0 <ℤ r → same ≡ false
not_zero r false e h = refl
not_zero r true e h = let none = (Decides-int_eq r (pos 0)).0 e in absurd (omega (arith, sums, none, h))

no_apex : (r : ℤ) → pos 0 <ℤ r → int_eq r (pos 0) ≡ false
no_apex r h = not_zero r (int_eq r (pos 0)) refl h

-- the cylinder with these answers to whether its radii are 0
abbrev pub by_apexes : ℤ → ℤ → ℤ → ℤ → Bool → Bool → Mesh
by_apexes a b l h low high = record {
  points = cond low (apex_at l) (map (at_height l) (circle_points a)) ++ cond high (apex_at h) (map (at_height h) (circle_points b));
  faces = cond low faces_from_apex (cond high faces_to_apex faces_of_two);
}

is_two : (a b l h : ℤ) → pos 0 <ℤ a → pos 0 <ℤ b → cylinder_between a b l h ≡ two a b l h
is_two a b l h ha hb = ap₂ (by_apexes a b l h) (no_apex a ha) (no_apex b hb)

is_to_apex : (a l h : ℤ) → pos 0 <ℤ a → cylinder_between a (pos 0) l h ≡ to_apex a l h
is_to_apex a l h ha = ap (λ (low : Bool). by_apexes a (pos 0) l h low true) (no_apex a ha)

is_from_apex : (b l h : ℤ) → pos 0 <ℤ b → cylinder_between (pos 0) b l h ≡ from_apex b l h
is_from_apex b l h hb = ap (λ (high : Bool). by_apexes (pos 0) b l h true high) (no_apex b hb)

between_is_shape : (a b l k : ℤ) → pos 0 ≤ℤ a → pos 0 ≤ℤ b → (a ≡ pos 0 → b ≡ pos 0 → ⊥) → pos 0 <ℤ k → IsSmall a → IsSmall b → IsSmall l → IsSmall (l +ℤ k) → IsShape (cylinder_between a b l (l +ℤ k))
between_is_shape (negsuc m) b l k ha hb some hk sa sb sl sh = absurd (omega (arith, sums))
between_is_shape (pos m) (negsuc n) l k ha hb some hk sa sb sl sh = absurd (omega (arith, sums))
between_is_shape (pos zero) (pos zero) l k ha hb some hk sa sb sl sh = absurd (some refl refl)
between_is_shape (pos zero) (pos (suc n)) l k ha hb some hk sa sb sl sh =
    let b = pos (suc n) in let above : pos 0 <ℤ b = omega (arith, sums) in subst IsShape (sym (is_from_apex b l (l +ℤ k) above)) (from_apex_is_shape b l k above hk sb sl sh)
between_is_shape (pos (suc m)) (pos zero) l k ha hb some hk sa sb sl sh =
    let a = pos (suc m) in let above : pos 0 <ℤ a = omega (arith, sums) in subst IsShape (sym (is_to_apex a l (l +ℤ k) above)) (to_apex_is_shape a l k above hk sa sl sh)
between_is_shape (pos (suc m)) (pos (suc n)) l k ha hb some hk sa sb sl sh =
    let a = pos (suc m) in let b = pos (suc n) in let above : pos 0 <ℤ a = omega (arith, sums) in let over : pos 0 <ℤ b = omega (arith, sums) in
    subst IsShape (sym (is_two a b l (l +ℤ k) above over)) (two_is_shape a b l k above over hk sa sb sl sh)

pub cylinder_is_shape : (unit : LengthUnit) (center : Bool) (height low high : ℤ) → AreCylinderSizes unit center height low high → IsShape (cylinder_of unit center height low high)
cylinder_is_shape unit center height low high h =
    between_is_shape (length_in_grid_steps unit low) (length_in_grid_steps unit high) (low_end unit center height) (length_in_grid_steps unit height)
    (steps_least unit low h.body.low_least) (steps_least unit high h.body.high_least)
    (λ e g. h.body.some (no_steps unit low e) (no_steps unit high g))
    (steps_above unit height h.body.long)
    (near_small _ h.range.first) (near_small _ h.range.second) (near_small _ h.range.third) (near_small _ h.range.fourth)

-- the same cylinder by other names of its numbers
pub same_cylinder : (a b l h d e m n : ℤ) → a ≡ d → b ≡ e → l ≡ m → h ≡ n → cylinder_between a b l h ≡ cylinder_between d e m n
same_cylinder a b l h d e m n ha hb hl hh = λ i. cylinder_between (ha i) (hb i) (hl i) (hh i)
