-- A cube is the hull of its corners.
use Rattle.std.proofs.Common.{◌≡◌, ℕ, zero, suc, ◌<◌, Bool, [], ◌∷◌, refl, arith, ℤ, pos, ◌+ℤ◌, ◌-ℤ◌, ◌*ℤ◌, ◌<ℤ◌, ◌≤ℤ◌}
use Rattle.plane_predicate.specs.declared.unit.Unit.{Unit as LengthUnit}
use Rattle.plane_predicate.specs.Space.{Coefficients, Coordinates, value}
use Rattle.plane_predicate.proofs.lemmas.IntegerRing.{sums}
use Rattle.primitives.specs.Boxes.{box_faces, box_of, box_points, cube_of}
use Rattle.primitives.specs.Shapes.{mesh_point, IsInside, IsShape}
use Rattle.primitives.specs.Sizes.{AreSizes}
use Rattle.primitives.proofs.lemmas.BoxBodies.{cube_is_shape}
use Rattle.primitives.proofs.lemmas.EndFaces.{ends_of_side}
use Rattle.scad_hull.proofs.lemmas.Turns.{Bounds}
use Rattle.shape_hulls.specs.OwnHulls.{IsFaceCorner, IsHullOfItsPoints}
use Rattle.shape_hulls.proofs.Axes.{bounds_nothing, nothing_at, past_high, past_low, scaled, BoundsCorners, IsWithin}
use Rattle.shape_hulls.proofs.Insides.{hull_by, none_below}

-- ---- the other orders of the axes
second_on : (p q r s : ℤ) → p +ℤ q +ℤ r -ℤ s ≡ pos 0 → q +ℤ p +ℤ r -ℤ s ≡ pos 0
second_on p q r s h = omega (arith, sums, h)

second_most : (p q r s : ℤ) → (p +ℤ q +ℤ r -ℤ s) ≤ℤ pos 0 → (q +ℤ p +ℤ r -ℤ s) ≤ℤ pos 0
second_most p q r s h = omega (arith, sums, h)

second_less : (p q r s : ℤ) → (p +ℤ q +ℤ r -ℤ s) <ℤ pos 0 → (q +ℤ p +ℤ r -ℤ s) <ℤ pos 0
second_less p q r s h = omega (arith, sums, h)

third_on : (p q r s : ℤ) → p +ℤ q +ℤ r -ℤ s ≡ pos 0 → r +ℤ p +ℤ q -ℤ s ≡ pos 0
third_on p q r s h = omega (arith, sums, h)

third_most : (p q r s : ℤ) → (p +ℤ q +ℤ r -ℤ s) ≤ℤ pos 0 → (r +ℤ p +ℤ q -ℤ s) ≤ℤ pos 0
third_most p q r s h = omega (arith, sums, h)

third_less : (p q r s : ℤ) → (p +ℤ q +ℤ r -ℤ s) <ℤ pos 0 → (r +ℤ p +ℤ q -ℤ s) <ℤ pos 0
third_less p q r s h = omega (arith, sums, h)

-- ---- from the faces to the coordinates
-- a box, by the ends of its sides
record AreSides (a b c d e f : ℤ) : Type 0 where
  x : a <ℤ b
  y : c <ℤ d
  z : e <ℤ f

-- a point inside lies strictly between the ends on all axes
in_box : (a b c d e f : ℤ) → AreSides a b c d e f → (q : Coordinates) → IsInside (box_of a b c d e f) q → IsWithin (a *ℤ q.w) (b *ℤ q.w) (c *ℤ q.w) (d *ℤ q.w) (e *ℤ q.w) (f *ℤ q.w) q.x q.y q.z
in_box a b c d e f s q h =
    let left = h 0 [] (omega arith) in let right = h 1 [] (omega arith) in let front = h 2 [] (omega arith) in let back = h 3 [] (omega arith) in let low = h 4 [] (omega arith) in let high = h 5 [] (omega arith) in
    let l = left.plane in let r = right.plane in let o = front.plane in let k = back.plane in let u = low.plane in let t = high.plane in
    record {
      x_low = past_low l.a l.b l.c l.d a b c e d f q.x q.y q.z q.w s.x s.y s.z (left.is.on 0 0 (omega arith)) (left.is.on 1 0 (omega arith)) (left.is.on 3 0 (omega arith)) (left.is.none_ahead 1 [] (omega arith) 0 0 (omega arith)) left.behind;
      x_high = past_high r.a r.b r.c r.d b a c e d f q.x q.y q.z q.w s.x s.y s.z (right.is.on 0 0 (omega arith)) (right.is.on 1 0 (omega arith)) (right.is.on 3 0 (omega arith)) (right.is.none_ahead 0 [] (omega arith) 0 0 (omega arith)) right.behind;
      y_low = past_low o.b o.a o.c o.d c d a e b f q.y q.x q.z q.w s.y s.x s.z
          (second_on (o.a *ℤ a) (o.b *ℤ c) (o.c *ℤ e) (o.d *ℤ pos 1) (front.is.on 0 0 (omega arith)))
          (second_on (o.a *ℤ b) (o.b *ℤ c) (o.c *ℤ e) (o.d *ℤ pos 1) (front.is.on 3 0 (omega arith)))
          (second_on (o.a *ℤ a) (o.b *ℤ c) (o.c *ℤ f) (o.d *ℤ pos 1) (front.is.on 1 0 (omega arith)))
          (second_most (o.a *ℤ a) (o.b *ℤ d) (o.c *ℤ e) (o.d *ℤ pos 1) (front.is.none_ahead 3 [] (omega arith) 0 0 (omega arith)))
          (second_less (o.a *ℤ q.x) (o.b *ℤ q.y) (o.c *ℤ q.z) (o.d *ℤ q.w) front.behind);
      y_high = past_high k.b k.a k.c k.d d c a e b f q.y q.x q.z q.w s.y s.x s.z
          (second_on (k.a *ℤ a) (k.b *ℤ d) (k.c *ℤ e) (k.d *ℤ pos 1) (back.is.on 0 0 (omega arith)))
          (second_on (k.a *ℤ b) (k.b *ℤ d) (k.c *ℤ e) (k.d *ℤ pos 1) (back.is.on 3 0 (omega arith)))
          (second_on (k.a *ℤ a) (k.b *ℤ d) (k.c *ℤ f) (k.d *ℤ pos 1) (back.is.on 1 0 (omega arith)))
          (second_most (k.a *ℤ a) (k.b *ℤ c) (k.c *ℤ e) (k.d *ℤ pos 1) (back.is.none_ahead 2 [] (omega arith) 0 0 (omega arith)))
          (second_less (k.a *ℤ q.x) (k.b *ℤ q.y) (k.c *ℤ q.z) (k.d *ℤ q.w) back.behind);
      z_low = past_low u.c u.a u.b u.d e f a c b d q.z q.x q.y q.w s.z s.x s.y
          (third_on (u.a *ℤ a) (u.b *ℤ c) (u.c *ℤ e) (u.d *ℤ pos 1) (low.is.on 0 0 (omega arith)))
          (third_on (u.a *ℤ b) (u.b *ℤ c) (u.c *ℤ e) (u.d *ℤ pos 1) (low.is.on 1 0 (omega arith)))
          (third_on (u.a *ℤ a) (u.b *ℤ d) (u.c *ℤ e) (u.d *ℤ pos 1) (low.is.on 3 0 (omega arith)))
          (third_most (u.a *ℤ a) (u.b *ℤ c) (u.c *ℤ f) (u.d *ℤ pos 1) (low.is.none_ahead 5 [] (omega arith) 0 0 (omega arith)))
          (third_less (u.a *ℤ q.x) (u.b *ℤ q.y) (u.c *ℤ q.z) (u.d *ℤ q.w) low.behind);
      z_high = past_high t.c t.a t.b t.d f e a c b d q.z q.x q.y q.w s.z s.x s.y
          (third_on (t.a *ℤ a) (t.b *ℤ c) (t.c *ℤ f) (t.d *ℤ pos 1) (high.is.on 0 0 (omega arith)))
          (third_on (t.a *ℤ b) (t.b *ℤ c) (t.c *ℤ f) (t.d *ℤ pos 1) (high.is.on 1 0 (omega arith)))
          (third_on (t.a *ℤ a) (t.b *ℤ d) (t.c *ℤ f) (t.d *ℤ pos 1) (high.is.on 3 0 (omega arith)))
          (third_most (t.a *ℤ a) (t.b *ℤ c) (t.c *ℤ e) (t.d *ℤ pos 1) (high.is.none_ahead 4 [] (omega arith) 0 0 (omega arith)))
          (third_less (t.a *ℤ q.x) (t.b *ℤ q.y) (t.c *ℤ q.z) (t.d *ℤ q.w) high.behind);
    }

-- ---- the corners
box_corner : (i : ℕ) → i < 8 → IsFaceCorner box_faces i
box_corner zero lt = record { face = 0; at = 0; face_in = omega arith; at_in = omega arith; is = refl }
box_corner (suc zero) lt = record { face = 1; at = 0; face_in = omega arith; at_in = omega arith; is = refl }
box_corner (suc (suc zero)) lt = record { face = 0; at = 1; face_in = omega arith; at_in = omega arith; is = refl }
box_corner (suc (suc (suc zero))) lt = record { face = 1; at = 1; face_in = omega arith; at_in = omega arith; is = refl }
box_corner (suc (suc (suc (suc zero)))) lt = record { face = 0; at = 3; face_in = omega arith; at_in = omega arith; is = refl }
box_corner (suc (suc (suc (suc (suc zero))))) lt = record { face = 1; at = 3; face_in = omega arith; at_in = omega arith; is = refl }
box_corner (suc (suc (suc (suc (suc (suc zero)))))) lt = record { face = 0; at = 2; face_in = omega arith; at_in = omega arith; is = refl }
box_corner (suc (suc (suc (suc (suc (suc (suc zero))))))) lt = record { face = 1; at = 2; face_in = omega arith; at_in = omega arith; is = refl }
box_corner (suc (suc (suc (suc (suc (suc (suc (suc n)))))))) lt = absurd (omega (arith, lt))

corners_bounded : (a b c d e f : ℤ) (q : Coordinates) → pos 0 <ℤ q.w → (m : Coefficients) → Bounds (mesh_point (box_points a b c d e f)) 8 q m → BoundsCorners m.a m.b m.c m.d (a *ℤ q.w) (b *ℤ q.w) (c *ℤ q.w) (d *ℤ q.w) (e *ℤ q.w) (f *ℤ q.w) q.w
corners_bounded a b c d e f q hw m h = record {
  lll = scaled m.a m.b m.c m.d a c e q.w hw (h.most 0 (omega arith));
  hll = scaled m.a m.b m.c m.d b c e q.w hw (h.most 1 (omega arith));
  lhl = scaled m.a m.b m.c m.d a d e q.w hw (h.most 2 (omega arith));
  hhl = scaled m.a m.b m.c m.d b d e q.w hw (h.most 3 (omega arith));
  llh = scaled m.a m.b m.c m.d a c f q.w hw (h.most 4 (omega arith));
  hlh = scaled m.a m.b m.c m.d b c f q.w hw (h.most 5 (omega arith));
  lhh = scaled m.a m.b m.c m.d a d f q.w hw (h.most 6 (omega arith));
  hhh = scaled m.a m.b m.c m.d b d f q.w hw (h.most 7 (omega arith));
}

other_sum : (p q r s : ℤ) → pos 0 ≤ℤ (p +ℤ q +ℤ r -ℤ s) → pos 0 ≤ℤ (p +ℤ (q +ℤ (r -ℤ s)))
other_sum p q r s h = omega (arith, sums, h)

box_is_hull : (a b c d e f : ℤ) → AreSides a b c d e f → IsShape (box_of a b c d e f) → IsHullOfItsPoints (box_of a b c d e f)
box_is_hull a b c d e f s is =
    hull_by (box_of a b c d e f) is box_corner
    (λ q hw inside m h.
    (let none = bounds_nothing m.a m.b m.c m.d (a *ℤ q.w) (b *ℤ q.w) (c *ℤ q.w) (d *ℤ q.w) (e *ℤ q.w) (f *ℤ q.w) q.x q.y q.z q.w hw (corners_bounded a b c d e f q hw m h) (in_box a b c d e f s q inside) (other_sum (m.a *ℤ q.x) (m.b *ℤ q.y) (m.c *ℤ q.z) (m.d *ℤ q.w) h.at) in
    let p = mesh_point (box_points a b c d e f) h.far in
    none_below (value m p) (nothing_at m.a m.b m.c m.d p.x p.y p.z p.w none) h.behind))

pub cube_is_hull : (unit : LengthUnit) (center : Bool) (x y z : ℤ) → AreSizes unit center (x ∷ y ∷ z ∷ []) → IsHullOfItsPoints (cube_of unit center (x ∷ y ∷ z ∷ []))
cube_is_hull unit center x y z h =
    let size = x ∷ y ∷ z ∷ [] in
    let sx = ends_of_side unit center x (h.long 0 (pos 0) (omega arith)) (h.safe 0 (pos 0) (omega arith)) in
    let sy = ends_of_side unit center y (h.long 1 (pos 0) (omega arith)) (h.safe 1 (pos 0) (omega arith)) in
    let sz = ends_of_side unit center z (h.long 2 (pos 0) (omega arith)) (h.safe 2 (pos 0) (omega arith)) in
    box_is_hull _ _ _ _ _ _ (record { x = sx.apart; y = sy.apart; z = sz.apart }) (cube_is_shape unit center size (omega arith) h)
