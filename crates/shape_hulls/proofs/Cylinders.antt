-- A cylinder with four fragments is the hull of its points.
use Rattle.std.proofs.Common.{◌≡◌, ℕ, zero, suc, ◌<◌, Bool, true, false, [], refl, sym, ap, ap₂, subst, arith, ℤ, pos, negsuc, neg_ℤ, ◌+ℤ◌, ◌-ℤ◌, ◌*ℤ◌, ◌<ℤ◌, ◌≤ℤ◌}
use Rattle.std.specs.Ordering.{int_eq}
use Rattle.std.proofs.lemmas.Bool.Decides.{Decides-int_eq}
use Rattle.plane_predicate.specs.declared.unit.Unit.{Unit as LengthUnit}
use Rattle.plane_predicate.specs.Space.{Coefficients, Coordinates, value}
use Rattle.plane_predicate.proofs.lemmas.IntegerRing.{sums}
use Rattle.primitives.specs.Shapes.{Mesh, mesh_point, IsInside, IsShape}
use Rattle.primitives.specs.Sizes.{length_in_grid_steps, high_end, low_end}
use Rattle.round_four.specs.Cylinders.{cylinder_between, cylinder_of, faces_from_apex, faces_of_two, faces_to_apex, AreCylinderSizes}
use Rattle.round_four.proofs.lemmas.Cylinders.{by_apexes, cylinder_is_shape}
use Rattle.round_four.proofs.lemmas.FromApex.{from_apex}
use Rattle.round_four.proofs.lemmas.Radii.{no_steps, steps_above, steps_least}
use Rattle.round_four.proofs.lemmas.ToApex.{to_apex}
use Rattle.round_four.proofs.lemmas.TwoCircles.{two}
use Rattle.shape_hulls.specs.OwnHulls.{IsFaceCorner, IsHullOfItsPoints}
use Rattle.shape_hulls.proofs.Axes.{nothing_at}
use Rattle.shape_hulls.proofs.Frustums.{back_bounded, bounds_nothing, front_bounded, front_value, left_bounded, left_value, level_end, nearer_down, nearer_up, over_apex, over_low, right_bounded, slant_left_back, slant_left_front, slant_right_back, slant_right_front, under_apex, under_high, IsBeside}
use Rattle.shape_hulls.proofs.Insides.{hull_by, none_below}

-- the value of a plane at a point, with the signs of the quarters to the left and to the front
left : (m : Coefficients) (q : Coordinates) → value m q <ℤ pos 0 → (neg_ℤ m.a *ℤ neg_ℤ q.x +ℤ m.b *ℤ q.y +ℤ m.c *ℤ q.z -ℤ m.d *ℤ q.w) <ℤ pos 0
left m q h = left_value m.a m.b q.x q.y (m.c *ℤ q.z) (m.d *ℤ q.w) h

front : (m : Coefficients) (q : Coordinates) → value m q <ℤ pos 0 → (m.a *ℤ q.x +ℤ neg_ℤ m.b *ℤ neg_ℤ q.y +ℤ m.c *ℤ q.z -ℤ m.d *ℤ q.w) <ℤ pos 0
front m q h = front_value m.a m.b q.x q.y (m.c *ℤ q.z) (m.d *ℤ q.w) h

left_front : (m : Coefficients) (q : Coordinates) → value m q <ℤ pos 0 → (neg_ℤ m.a *ℤ neg_ℤ q.x +ℤ neg_ℤ m.b *ℤ neg_ℤ q.y +ℤ m.c *ℤ q.z -ℤ m.d *ℤ q.w) <ℤ pos 0
left_front m q h = front_value (neg_ℤ m.a) m.b (neg_ℤ q.x) q.y (m.c *ℤ q.z) (m.d *ℤ q.w) (left m q h)

-- ---- between two circles
inside_two : (a b l h : ℤ) → pos 0 <ℤ a → pos 0 <ℤ b → l <ℤ h → (q : Coordinates) → IsInside (two a b l h) q → IsBeside a b l h q.x q.y q.z q.w
inside_two a b l h ha hb lt q inside =
    let s = inside 0 [] (omega arith) in let t = inside 1 [] (omega arith) in let u = inside 2 [] (omega arith) in let v = inside 3 [] (omega arith) in let low = inside 4 [] (omega arith) in let high = inside 5 [] (omega arith) in
    let m = s.plane in let n = t.plane in let o = u.plane in let p = v.plane in let e = low.plane in let f = high.plane in
    record {
      low = over_low e.a e.b e.c e.d l h b (pos 0) q.x q.y q.z q.w lt (level_end e.a e.b e.c e.d a l ha (low.is.on 0 0 (omega arith)) (low.is.on 1 0 (omega arith)) (low.is.on 2 0 (omega arith))) (low.is.none_ahead 5 [] (omega arith) 0 0 (omega arith)) low.behind;
      high = under_high f.a f.b f.c f.d h l a (pos 0) q.x q.y q.z q.w lt (level_end f.a f.b f.c f.d b h hb (high.is.on 0 0 (omega arith)) (high.is.on 1 0 (omega arith)) (high.is.on 2 0 (omega arith))) (high.is.none_ahead 4 [] (omega arith) 0 0 (omega arith)) high.behind;
      right_back = nearer_up m.a m.b m.c m.d a b l h q.x q.y q.z q.w lt
          (slant_right_back m.a m.b m.c m.d a b l h ha (s.is.on 0 0 (omega arith)) (s.is.on 1 0 (omega arith)) (s.is.on 3 0 (omega arith)) (s.is.none_ahead 4 [] (omega arith) 2 0 (omega arith))) s.behind;
      left_back = nearer_up (neg_ℤ n.a) n.b n.c n.d a b l h (neg_ℤ q.x) q.y q.z q.w lt
          (slant_left_back n.a n.b n.c n.d a b l h ha (t.is.on 1 0 (omega arith)) (t.is.on 0 0 (omega arith)) (t.is.on 2 0 (omega arith)) (t.is.none_ahead 4 [] (omega arith) 0 0 (omega arith))) (left n q t.behind);
      left_front = nearer_up (neg_ℤ o.a) (neg_ℤ o.b) o.c o.d a b l h (neg_ℤ q.x) (neg_ℤ q.y) q.z q.w lt
          (slant_left_front o.a o.b o.c o.d a b l h ha (u.is.on 0 0 (omega arith)) (u.is.on 1 0 (omega arith)) (u.is.on 3 0 (omega arith)) (u.is.none_ahead 4 [] (omega arith) 0 0 (omega arith))) (left_front o q u.behind);
      right_front = nearer_up p.a (neg_ℤ p.b) p.c p.d a b l h q.x (neg_ℤ q.y) q.z q.w lt
          (slant_right_front p.a p.b p.c p.d a b l h ha (v.is.on 1 0 (omega arith)) (v.is.on 0 0 (omega arith)) (v.is.on 2 0 (omega arith)) (v.is.none_ahead 4 [] (omega arith) 2 0 (omega arith))) (front p q v.behind);
    }

two_corner : (i : ℕ) → i < 8 → IsFaceCorner faces_of_two i
two_corner zero lt = record { face = 4; at = 0; face_in = omega arith; at_in = omega arith; is = refl }
two_corner (suc zero) lt = record { face = 4; at = 1; face_in = omega arith; at_in = omega arith; is = refl }
two_corner (suc (suc zero)) lt = record { face = 4; at = 2; face_in = omega arith; at_in = omega arith; is = refl }
two_corner (suc (suc (suc zero))) lt = record { face = 4; at = 3; face_in = omega arith; at_in = omega arith; is = refl }
two_corner (suc (suc (suc (suc zero)))) lt = record { face = 5; at = 0; face_in = omega arith; at_in = omega arith; is = refl }
two_corner (suc (suc (suc (suc (suc zero))))) lt = record { face = 5; at = 1; face_in = omega arith; at_in = omega arith; is = refl }
two_corner (suc (suc (suc (suc (suc (suc zero)))))) lt = record { face = 5; at = 2; face_in = omega arith; at_in = omega arith; is = refl }
two_corner (suc (suc (suc (suc (suc (suc (suc zero))))))) lt = record { face = 5; at = 3; face_in = omega arith; at_in = omega arith; is = refl }
two_corner (suc (suc (suc (suc (suc (suc (suc (suc n)))))))) lt = absurd (omega (arith, lt))

two_is_hull : (a b l h : ℤ) → pos 0 <ℤ a → pos 0 <ℤ b → l <ℤ h → IsShape (two a b l h) → IsHullOfItsPoints (two a b l h)
two_is_hull a b l h ha hb lt is =
    hull_by (two a b l h) is two_corner
    (λ q hw inside m k.
    (let none = bounds_nothing m.a m.b m.c m.d a b l h q.x q.y q.z q.w lt (inside_two a b l h ha hb lt q inside)
    (record { low = right_bounded m.a m.b m.c m.d a l (k.most 0 (omega arith)); high = right_bounded m.a m.b m.c m.d b h (k.most 4 (omega arith)) })
    (record { low = left_bounded m.a m.b m.c m.d a l (k.most 2 (omega arith)); high = left_bounded m.a m.b m.c m.d b h (k.most 6 (omega arith)) })
    (record { low = back_bounded m.a m.b m.c m.d a l (k.most 1 (omega arith)); high = back_bounded m.a m.b m.c m.d b h (k.most 5 (omega arith)) })
    (record { low = front_bounded m.a m.b m.c m.d a l (k.most 3 (omega arith)); high = front_bounded m.a m.b m.c m.d b h (k.most 7 (omega arith)) })
    k.at in
    let p = mesh_point (two a b l h).points k.far in
    none_below (value m p) (nothing_at m.a m.b m.c m.d p.x p.y p.z p.w none) k.behind))

-- ---- up to an apex
inside_to_apex : (a l h : ℤ) → pos 0 <ℤ a → l <ℤ h → (q : Coordinates) → IsInside (to_apex a l h) q → IsBeside a (pos 0) l h q.x q.y q.z q.w
inside_to_apex a l h ha lt q inside =
    let s = inside 0 [] (omega arith) in let t = inside 1 [] (omega arith) in let u = inside 2 [] (omega arith) in let v = inside 3 [] (omega arith) in let low = inside 4 [] (omega arith) in
    let m = s.plane in let n = t.plane in let o = u.plane in let p = v.plane in let e = low.plane in
    let rb = nearer_up m.a m.b m.c m.d a (pos 0) l h q.x q.y q.z q.w lt
    (slant_right_back m.a m.b m.c m.d a (pos 0) l h ha (s.is.on 0 0 (omega arith)) (s.is.on 1 0 (omega arith)) (s.is.on 2 0 (omega arith)) (s.is.none_ahead 4 [] (omega arith) 2 0 (omega arith))) s.behind in
    let lf = nearer_up (neg_ℤ o.a) (neg_ℤ o.b) o.c o.d a (pos 0) l h (neg_ℤ q.x) (neg_ℤ q.y) q.z q.w lt
    (slant_left_front o.a o.b o.c o.d a (pos 0) l h ha (u.is.on 0 0 (omega arith)) (u.is.on 1 0 (omega arith)) (u.is.on 2 0 (omega arith)) (u.is.none_ahead 4 [] (omega arith) 0 0 (omega arith))) (left_front o q u.behind) in
    record {
      low = over_low e.a e.b e.c e.d l h (pos 0) (pos 0) q.x q.y q.z q.w lt (level_end e.a e.b e.c e.d a l ha (low.is.on 0 0 (omega arith)) (low.is.on 1 0 (omega arith)) (low.is.on 2 0 (omega arith))) (low.is.none_ahead 0 [] (omega arith) 2 0 (omega arith)) low.behind;
      high = under_apex a l h (h -ℤ l) q.x q.y q.z q.w ha rb lf;
      right_back = rb;
      left_back = nearer_up (neg_ℤ n.a) n.b n.c n.d a (pos 0) l h (neg_ℤ q.x) q.y q.z q.w lt
          (slant_left_back n.a n.b n.c n.d a (pos 0) l h ha (t.is.on 1 0 (omega arith)) (t.is.on 0 0 (omega arith)) (t.is.on 2 0 (omega arith)) (t.is.none_ahead 4 [] (omega arith) 0 0 (omega arith))) (left n q t.behind);
      left_front = lf;
      right_front = nearer_up p.a (neg_ℤ p.b) p.c p.d a (pos 0) l h q.x (neg_ℤ q.y) q.z q.w lt
          (slant_right_front p.a p.b p.c p.d a (pos 0) l h ha (v.is.on 1 0 (omega arith)) (v.is.on 0 0 (omega arith)) (v.is.on 2 0 (omega arith)) (v.is.none_ahead 4 [] (omega arith) 2 0 (omega arith))) (front p q v.behind);
    }

to_corner : (i : ℕ) → i < 5 → IsFaceCorner faces_to_apex i
to_corner zero lt = record { face = 4; at = 0; face_in = omega arith; at_in = omega arith; is = refl }
to_corner (suc zero) lt = record { face = 4; at = 1; face_in = omega arith; at_in = omega arith; is = refl }
to_corner (suc (suc zero)) lt = record { face = 4; at = 2; face_in = omega arith; at_in = omega arith; is = refl }
to_corner (suc (suc (suc zero))) lt = record { face = 4; at = 3; face_in = omega arith; at_in = omega arith; is = refl }
to_corner (suc (suc (suc (suc zero)))) lt = record { face = 0; at = 2; face_in = omega arith; at_in = omega arith; is = refl }
to_corner (suc (suc (suc (suc (suc n))))) lt = absurd (omega (arith, lt))

to_apex_is_hull : (a l h : ℤ) → pos 0 <ℤ a → l <ℤ h → IsShape (to_apex a l h) → IsHullOfItsPoints (to_apex a l h)
to_apex_is_hull a l h ha lt is =
    hull_by (to_apex a l h) is to_corner
    (λ q hw inside m k.
    (let none = bounds_nothing m.a m.b m.c m.d a (pos 0) l h q.x q.y q.z q.w lt (inside_to_apex a l h ha lt q inside)
    (record { low = right_bounded m.a m.b m.c m.d a l (k.most 0 (omega arith)); high = right_bounded m.a m.b m.c m.d (pos 0) h (k.most 4 (omega arith)) })
    (record { low = left_bounded m.a m.b m.c m.d a l (k.most 2 (omega arith)); high = left_bounded m.a m.b m.c m.d (pos 0) h (k.most 4 (omega arith)) })
    (record { low = back_bounded m.a m.b m.c m.d a l (k.most 1 (omega arith)); high = back_bounded m.a m.b m.c m.d (pos 0) h (k.most 4 (omega arith)) })
    (record { low = front_bounded m.a m.b m.c m.d a l (k.most 3 (omega arith)); high = front_bounded m.a m.b m.c m.d (pos 0) h (k.most 4 (omega arith)) })
    k.at in
    let p = mesh_point (to_apex a l h).points k.far in
    none_below (value m p) (nothing_at m.a m.b m.c m.d p.x p.y p.z p.w none) k.behind))

-- ---- up from an apex
inside_from_apex : (b l h : ℤ) → pos 0 <ℤ b → l <ℤ h → (q : Coordinates) → IsInside (from_apex b l h) q → IsBeside (pos 0) b l h q.x q.y q.z q.w
inside_from_apex b l h hb lt q inside =
    let s = inside 0 [] (omega arith) in let t = inside 1 [] (omega arith) in let u = inside 2 [] (omega arith) in let v = inside 3 [] (omega arith) in let high = inside 4 [] (omega arith) in
    let m = s.plane in let n = t.plane in let o = u.plane in let p = v.plane in let f = high.plane in
    let rb = nearer_down m.a m.b m.c m.d b (pos 0) h l q.x q.y q.z q.w lt
    (slant_right_back m.a m.b m.c m.d b (pos 0) h l hb (s.is.on 2 0 (omega arith)) (s.is.on 1 0 (omega arith)) (s.is.on 0 0 (omega arith)) (s.is.none_ahead 4 [] (omega arith) 2 0 (omega arith))) s.behind in
    let lf = nearer_down (neg_ℤ o.a) (neg_ℤ o.b) o.c o.d b (pos 0) h l (neg_ℤ q.x) (neg_ℤ q.y) q.z q.w lt
    (slant_left_front o.a o.b o.c o.d b (pos 0) h l hb (u.is.on 2 0 (omega arith)) (u.is.on 1 0 (omega arith)) (u.is.on 0 0 (omega arith)) (u.is.none_ahead 4 [] (omega arith) 0 0 (omega arith))) (left_front o q u.behind) in
    record {
      low = over_apex b l h (h -ℤ l) q.x q.y q.z q.w hb rb lf;
      high = under_high f.a f.b f.c f.d h l (pos 0) (pos 0) q.x q.y q.z q.w lt (level_end f.a f.b f.c f.d b h hb (high.is.on 0 0 (omega arith)) (high.is.on 1 0 (omega arith)) (high.is.on 2 0 (omega arith))) (high.is.none_ahead 0 [] (omega arith) 0 0 (omega arith)) high.behind;
      right_back = rb;
      left_back = nearer_down (neg_ℤ n.a) n.b n.c n.d b (pos 0) h l (neg_ℤ q.x) q.y q.z q.w lt
          (slant_left_back n.a n.b n.c n.d b (pos 0) h l hb (t.is.on 1 0 (omega arith)) (t.is.on 2 0 (omega arith)) (t.is.on 0 0 (omega arith)) (t.is.none_ahead 4 [] (omega arith) 0 0 (omega arith))) (left n q t.behind);
      left_front = lf;
      right_front = nearer_down p.a (neg_ℤ p.b) p.c p.d b (pos 0) h l q.x (neg_ℤ q.y) q.z q.w lt
          (slant_right_front p.a p.b p.c p.d b (pos 0) h l hb (v.is.on 1 0 (omega arith)) (v.is.on 2 0 (omega arith)) (v.is.on 0 0 (omega arith)) (v.is.none_ahead 4 [] (omega arith) 2 0 (omega arith))) (front p q v.behind);
    }

from_corner : (i : ℕ) → i < 5 → IsFaceCorner faces_from_apex i
from_corner zero lt = record { face = 0; at = 0; face_in = omega arith; at_in = omega arith; is = refl }
from_corner (suc zero) lt = record { face = 4; at = 0; face_in = omega arith; at_in = omega arith; is = refl }
from_corner (suc (suc zero)) lt = record { face = 4; at = 1; face_in = omega arith; at_in = omega arith; is = refl }
from_corner (suc (suc (suc zero))) lt = record { face = 4; at = 2; face_in = omega arith; at_in = omega arith; is = refl }
from_corner (suc (suc (suc (suc zero)))) lt = record { face = 4; at = 3; face_in = omega arith; at_in = omega arith; is = refl }
from_corner (suc (suc (suc (suc (suc n))))) lt = absurd (omega (arith, lt))

from_apex_is_hull : (b l h : ℤ) → pos 0 <ℤ b → l <ℤ h → IsShape (from_apex b l h) → IsHullOfItsPoints (from_apex b l h)
from_apex_is_hull b l h hb lt is =
    hull_by (from_apex b l h) is from_corner
    (λ q hw inside m k.
    (let none = bounds_nothing m.a m.b m.c m.d (pos 0) b l h q.x q.y q.z q.w lt (inside_from_apex b l h hb lt q inside)
    (record { low = right_bounded m.a m.b m.c m.d (pos 0) l (k.most 0 (omega arith)); high = right_bounded m.a m.b m.c m.d b h (k.most 1 (omega arith)) })
    (record { low = left_bounded m.a m.b m.c m.d (pos 0) l (k.most 0 (omega arith)); high = left_bounded m.a m.b m.c m.d b h (k.most 3 (omega arith)) })
    (record { low = back_bounded m.a m.b m.c m.d (pos 0) l (k.most 0 (omega arith)); high = back_bounded m.a m.b m.c m.d b h (k.most 2 (omega arith)) })
    (record { low = front_bounded m.a m.b m.c m.d (pos 0) l (k.most 0 (omega arith)); high = front_bounded m.a m.b m.c m.d b h (k.most 4 (omega arith)) })
    k.at in
    let p = mesh_point (from_apex b l h).points k.far in
    none_below (value m p) (nothing_at m.a m.b m.c m.d p.x p.y p.z p.w none) k.behind))

-- ---- all kinds
not_zero : (r : ℤ) (same : Bool) → int_eq r (pos 0) ≡ same → pos 0 <ℤ r → same ≡ false
not_zero r false e h = refl
not_zero r true e h = let none = (Decides-int_eq r (pos 0)).0 e in absurd (omega (arith, sums, none, h))

no_apex : (r : ℤ) → pos 0 <ℤ r → int_eq r (pos 0) ≡ false
no_apex r h = not_zero r (int_eq r (pos 0)) refl h

by_kind : (m n : Mesh) → m ≡ n → (IsShape n → IsHullOfItsPoints n) → IsShape m → IsHullOfItsPoints m
by_kind m n e h is = subst IsHullOfItsPoints (sym e) (h (subst IsShape e is))

between_is_hull : (a b l h : ℤ) → pos 0 ≤ℤ a → pos 0 ≤ℤ b → (a ≡ pos 0 → b ≡ pos 0 → ⊥) → l <ℤ h → IsShape (cylinder_between a b l h) → IsHullOfItsPoints (cylinder_between a b l h)
between_is_hull (negsuc m) b l h ha hb some lt is = absurd (omega (arith, sums, ha))
between_is_hull (pos m) (negsuc n) l h ha hb some lt is = absurd (omega (arith, sums, hb))
between_is_hull (pos zero) (pos zero) l h ha hb some lt is = absurd (some refl refl)
between_is_hull (pos zero) (pos (suc n)) l h ha hb some lt is =
    let b = pos (suc n) in let above : pos 0 <ℤ b = omega (arith, sums) in
    by_kind (cylinder_between (pos 0) b l h) (from_apex b l h) (ap (λ (high : Bool). by_apexes (pos 0) b l h true high) (no_apex b above)) (from_apex_is_hull b l h above lt) is
between_is_hull (pos (suc m)) (pos zero) l h ha hb some lt is =
    let a = pos (suc m) in let above : pos 0 <ℤ a = omega (arith, sums) in
    by_kind (cylinder_between a (pos 0) l h) (to_apex a l h) (ap (λ (low : Bool). by_apexes a (pos 0) l h low true) (no_apex a above)) (to_apex_is_hull a l h above lt) is
between_is_hull (pos (suc m)) (pos (suc n)) l h ha hb some lt is =
    let a = pos (suc m) in let b = pos (suc n) in let above : pos 0 <ℤ a = omega (arith, sums) in let over : pos 0 <ℤ b = omega (arith, sums) in
    by_kind (cylinder_between a b l h) (two a b l h) (ap₂ (by_apexes a b l h) (no_apex a above) (no_apex b over)) (two_is_hull a b l h above over lt) is

above_low : (l s : ℤ) → pos 0 <ℤ s → l <ℤ (l +ℤ s)
above_low l s h = omega (arith, sums, h)

pub cylinder_is_hull : (unit : LengthUnit) (center : Bool) (height low high : ℤ) → AreCylinderSizes unit center height low high → IsHullOfItsPoints (cylinder_of unit center height low high)
cylinder_is_hull unit center height low high h =
    between_is_hull (length_in_grid_steps unit low) (length_in_grid_steps unit high) (low_end unit center height) (high_end unit center height)
    (steps_least unit low h.body.low_least) (steps_least unit high h.body.high_least)
    (λ e g. h.body.some (no_steps unit low e) (no_steps unit high g))
    (above_low (low_end unit center height) (length_in_grid_steps unit height) (steps_above unit height h.body.long))
    (cylinder_is_shape unit center height low high h)
