-- Directions that are multiples of one another.
use Rattle.std.proofs.Common.{◌≡◌, ◌≢◌, inl, inr, ℕ, ◌+◌, true, ◌&&◌, List, [], ◌∷◌, refl, ◌∙◌, arith, ℤ, pos, ◌+ℤ◌, ◌-ℤ◌, ◌*ℤ◌, ◌<ℤ◌, ◌≤ℤ◌, int_lt}
use Rattle.std.specs.Ordering.{int_eq}
use Rattle.std.proofs.Math.IntN.{*ℤ-zero, zero-*ℤ}
use Rattle.std.proofs.lemmas.Bool.{and_parts, and_from}
use Rattle.std.proofs.lemmas.Bool.Decides.{Decides-int_eq}
use Rattle.plane_predicate.specs.Space.{Coefficients, Coordinates, value, meeting_by_cramers_rule, minor}
use Rattle.plane_predicate.proofs.lemmas.IntegerRing.{sums}
use Rattle.plane_predicate.proofs.lemmas.Polynomials.{Poly, var, plus, times, minus, ring}
use Rattle.plane_predicate.proofs.lemmas.Vectors.{Form, Place, form, place, of_plane, of_point, valueP, minorP, determinantP}
use Rattle.plane_predicate.proofs.lemmas.Signs.{signs, pos_pos, neg_neg, least_least, most_most, zero_cancel}
use Rattle.closed_surface.specs.Ways.{Direction, displacement, dot_product, cross_product, slope, line_of, is_same_point_of_space, is_parallel, is_same_direction, is_opposite_direction}
use Rattle.closed_surface.specs.Around.{triple_product_of}
use Rattle.closed_surface.proofs.lemmas.Numbers.{below, below_back}

-- ---- polynomials
pub record Line : Type 0 where
  pub x : Poly
  pub y : Poly
  pub z : Poly

-- the three variables from number i on
abbrev line : ℕ → Line
line i = record { x = var i; y = var (i + 1); z = var (i + 2) }

abbrev of_line : Direction → List ℤ → List ℤ
of_line d rest = d.x ∷ d.y ∷ d.z ∷ rest

abbrev dotP : Line → Line → Poly
dotP u v = plus (plus (times u.x v.x) (times u.y v.y)) (times u.z v.z)

abbrev slopeP : Form → Line → Poly
slopeP m v = plus (plus (times m.a v.x) (times m.b v.y)) (times m.c v.z)

abbrev crossP : Line → Line → Line
crossP u v = record { x = minorP u.y u.z v.y v.z; y = minorP u.z u.x v.z v.x; z = minorP u.x u.y v.x v.y }

abbrev line_ofP : Form → Form → Line
line_ofP n e = record { x = minorP n.b n.c e.b e.c; y = minorP n.c n.a e.c e.a; z = minorP n.a n.b e.a e.b }

abbrev wayP : Place → Place → Line
wayP p q = record { x = minus (times p.w q.x) (times q.w p.x); y = minus (times p.w q.y) (times q.w p.y); z = minus (times p.w q.z) (times q.w p.z) }

-- ---- identities
pub slope_way : (m : Coefficients) (p q : Coordinates) → slope m (displacement p q) ≡ p.w *ℤ value m q -ℤ q.w *ℤ value m p
slope_way m p q =
    ring (of_plane m (of_point p (of_point q []))) (slopeP (form 0) (wayP (place 4) (place 8)))
    (minus (times (var 7) (valueP (form 0) (place 8))) (times (var 11) (valueP (form 0) (place 4)))) refl

dots : (g u v : Direction) → dot_product g g *ℤ dot_product u v -ℤ dot_product g u *ℤ dot_product g v ≡ dot_product (cross_product g u) (cross_product g v)
dots g u v =
    let G = line 0 in let U = line 3 in let V = line 6 in
    ring (of_line g (of_line u (of_line v []))) (minus (times (dotP G G) (dotP U V)) (times (dotP G U) (dotP G V))) (dotP (crossP G U) (crossP G V)) refl

slopes : (m : Coefficients) (g u : Direction) →
    dot_product g g *ℤ slope m u -ℤ dot_product g u *ℤ slope m g ≡ (cross_product g u).x *ℤ minor g.y g.z m.b m.c +ℤ (cross_product g u).y *ℤ minor g.z g.x m.c m.a +ℤ (cross_product g u).z *ℤ minor g.x g.y m.a m.b
slopes m g u =
    let M = form 0 in let G = line 4 in let U = line 7 in
    ring (of_plane m (of_line g (of_line u []))) (minus (times (dotP G G) (slopeP M U)) (times (dotP G U) (slopeP M G)))
    (plus (plus (times (crossP G U).x (minorP G.y G.z M.b M.c)) (times (crossP G U).y (minorP G.z G.x M.c M.a))) (times (crossP G U).z (minorP G.x G.y M.a M.b))) refl

cross_x : (g u v : Direction) → dot_product g g *ℤ (cross_product u v).x ≡ dot_product g u *ℤ (cross_product g v).x -ℤ dot_product g v *ℤ (cross_product g u).x +ℤ g.x *ℤ dot_product (cross_product g u) v
cross_x g u v =
    let G = line 0 in let U = line 3 in let V = line 6 in
    ring (of_line g (of_line u (of_line v []))) (times (dotP G G) (crossP U V).x) (plus (minus (times (dotP G U) (crossP G V).x) (times (dotP G V) (crossP G U).x)) (times G.x (dotP (crossP G U) V))) refl

cross_y : (g u v : Direction) → dot_product g g *ℤ (cross_product u v).y ≡ dot_product g u *ℤ (cross_product g v).y -ℤ dot_product g v *ℤ (cross_product g u).y +ℤ g.y *ℤ dot_product (cross_product g u) v
cross_y g u v =
    let G = line 0 in let U = line 3 in let V = line 6 in
    ring (of_line g (of_line u (of_line v []))) (times (dotP G G) (crossP U V).y) (plus (minus (times (dotP G U) (crossP G V).y) (times (dotP G V) (crossP G U).y)) (times G.y (dotP (crossP G U) V))) refl

cross_z : (g u v : Direction) → dot_product g g *ℤ (cross_product u v).z ≡ dot_product g u *ℤ (cross_product g v).z -ℤ dot_product g v *ℤ (cross_product g u).z +ℤ g.z *ℤ dot_product (cross_product g u) v
cross_z g u v =
    let G = line 0 in let U = line 3 in let V = line 6 in
    ring (of_line g (of_line u (of_line v []))) (times (dotP G G) (crossP U V).z) (plus (minus (times (dotP G U) (crossP G V).z) (times (dotP G V) (crossP G U).z)) (times G.z (dotP (crossP G U) V))) refl

line_cross_x : (n e : Coefficients) (w : Direction) → (cross_product (line_of n e) w).x ≡ e.a *ℤ slope n w -ℤ n.a *ℤ slope e w
line_cross_x n e w =
    let N = form 0 in let E = form 4 in let W = line 8 in
    ring (of_plane n (of_plane e (of_line w []))) (crossP (line_ofP N E) W).x (minus (times E.a (slopeP N W)) (times N.a (slopeP E W))) refl

line_cross_y : (n e : Coefficients) (w : Direction) → (cross_product (line_of n e) w).y ≡ e.b *ℤ slope n w -ℤ n.b *ℤ slope e w
line_cross_y n e w =
    let N = form 0 in let E = form 4 in let W = line 8 in
    ring (of_plane n (of_plane e (of_line w []))) (crossP (line_ofP N E) W).y (minus (times E.b (slopeP N W)) (times N.b (slopeP E W))) refl

line_cross_z : (n e : Coefficients) (w : Direction) → (cross_product (line_of n e) w).z ≡ e.c *ℤ slope n w -ℤ n.c *ℤ slope e w
line_cross_z n e w =
    let N = form 0 in let E = form 4 in let W = line 8 in
    ring (of_plane n (of_plane e (of_line w []))) (crossP (line_ofP N E) W).z (minus (times E.c (slopeP N W)) (times N.c (slopeP E W))) refl

-- the direction of n and e along v is the turn about v
pub line_turn : (n e : Coefficients) (v : Direction) → dot_product (line_of n e) v ≡ triple_product_of v n e
line_turn n e v =
    let N = form 0 in let E = form 4 in let V = line 8 in
    ring (of_plane n (of_plane e (of_line v []))) (dotP (line_ofP N E) V) (determinantP N.a N.b N.c E.a E.b E.c V.x V.y V.z) refl

pub line_slope : (m n e : Coefficients) → slope m (line_of n e) ≡ (meeting_by_cramers_rule n e m).w
line_slope m n e =
    let M = form 0 in let N = form 4 in let E = form 8 in
    ring (of_plane m (of_plane n (of_plane e []))) (slopeP M (line_ofP N E)) (determinantP N.a N.b N.c E.a E.b E.c M.a M.b M.c) refl

-- ---- directions along g
pub record IsZero (v : Direction) : Type 0 where
  pub x : v.x ≡ pos 0
  pub y : v.y ≡ pos 0
  pub z : v.z ≡ pos 0

no_products : (x y z a b c : ℤ) → x ≡ pos 0 → y ≡ pos 0 → z ≡ pos 0 → x *ℤ a +ℤ y *ℤ b +ℤ z *ℤ c ≡ pos 0
no_products x y z a b c hx hy hz = rw (hx, hy, hz, zero-*ℤ a, zero-*ℤ b, zero-*ℤ c) refl

from_difference : (x y d : ℤ) → x -ℤ y ≡ d → d ≡ pos 0 → x ≡ y
from_difference x y d e z = omega (arith, sums)

pub along_dot : (g u v : Direction) → IsZero (cross_product g u) → dot_product g g *ℤ dot_product u v ≡ dot_product g u *ℤ dot_product g v
along_dot g u v h = from_difference _ _ _ (dots g u v) (no_products (cross_product g u).x (cross_product g u).y (cross_product g u).z _ _ _ h.x h.y h.z)

pub along_slope : (m : Coefficients) (g u : Direction) → IsZero (cross_product g u) → dot_product g g *ℤ slope m u ≡ dot_product g u *ℤ slope m g
along_slope m g u h = from_difference _ _ _ (slopes m g u) (no_products (cross_product g u).x (cross_product g u).y (cross_product g u).z _ _ _ h.x h.y h.z)

no_sum : (x a y b c z : ℤ) → a ≡ pos 0 → b ≡ pos 0 → z ≡ pos 0 → x *ℤ a -ℤ y *ℤ b +ℤ c *ℤ z ≡ pos 0
no_sum x a y b c z ha hb hz = rw (ha, hb, hz, *ℤ-zero x, *ℤ-zero y, *ℤ-zero c) refl

pub along_cross : (g u v : Direction) → pos 0 <ℤ dot_product g g → IsZero (cross_product g u) → IsZero (cross_product g v) → IsZero (cross_product u v)
along_cross g u v d h k =
    let z = no_products (cross_product g u).x (cross_product g u).y (cross_product g u).z v.x v.y v.z h.x h.y h.z in
    record {
      x = zero_cancel (dot_product g g) (cross_product u v).x d (cross_x g u v ∙ no_sum (dot_product g u) (cross_product g v).x (dot_product g v) (cross_product g u).x g.x (dot_product (cross_product g u) v) k.x h.x z);
      y = zero_cancel (dot_product g g) (cross_product u v).y d (cross_y g u v ∙ no_sum (dot_product g u) (cross_product g v).y (dot_product g v) (cross_product g u).y g.y (dot_product (cross_product g u) v) k.y h.y z);
      z = zero_cancel (dot_product g g) (cross_product u v).z d (cross_z g u v ∙ no_sum (dot_product g u) (cross_product g v).z (dot_product g v) (cross_product g u).z g.z (dot_product (cross_product g u) v) k.z h.z z);
    }

no_difference : (a x b y : ℤ) → x ≡ pos 0 → y ≡ pos 0 → a *ℤ x -ℤ b *ℤ y ≡ pos 0
no_difference a x b y hx hy = rw (hx, hy, *ℤ-zero a, *ℤ-zero b) refl

-- a direction in two planes is along their line
pub in_planes : (n e : Coefficients) (w : Direction) → slope n w ≡ pos 0 → slope e w ≡ pos 0 → IsZero (cross_product (line_of n e) w)
in_planes n e w hn he = record {
  x = line_cross_x n e w ∙ no_difference e.a (slope n w) n.a (slope e w) hn he;
  y = line_cross_y n e w ∙ no_difference e.b (slope n w) n.b (slope e w) hn he;
  z = line_cross_z n e w ∙ no_difference e.c (slope n w) n.c (slope e w) hn he;
}

-- ---- a direction that some product tells from 0
square : (x : ℤ) → pos 0 ≤ℤ (x *ℤ x)
square x = elim (signs x) [
  | inl h ↦ most_most x x (omega (arith, sums)) (omega (arith, sums))
  | inr (inl e) ↦ least_least x x (omega (arith, sums)) (omega (arith, sums))
  | inr (inr h) ↦ least_least x x (omega (arith, sums)) (omega (arith, sums))
]

no_square : (x : ℤ) → (x *ℤ x) ≤ℤ pos 0 → x ≡ pos 0
no_square x h = elim (signs x) [
  | inl k ↦ absurd (omega (arith, sums, neg_neg x x k k))
  | inr (inl e) ↦ e
  | inr (inr k) ↦ absurd (omega (arith, sums, pos_pos x x k k))
]

pub dot_above : (u v : Direction) → dot_product u v ≢ pos 0 → pos 0 <ℤ dot_product u u
dot_above u v h =
    let a = square u.x in let b = square u.y in let c = square u.z in
    elim (signs (dot_product u u)) [
      | inl k ↦ absurd (omega (arith, sums))
      | inr (inl k) ↦ absurd (h (no_products u.x u.y u.z v.x v.y v.z (no_square u.x (omega (arith, sums))) (no_square u.y (omega (arith, sums))) (no_square u.z (omega (arith, sums)))))
      | inr (inr k) ↦ k
    ]

-- ---- the tests
is_int : (x : ℤ) → x ≡ pos 0 → int_eq x (pos 0) ≡ true
is_int x h = (Decides-int_eq x (pos 0)).1 h

pub parallel_is : (u v : Direction) → IsZero (cross_product u v) → is_parallel u v ≡ true
parallel_is u v h = and_from _ _ (is_int (cross_product u v).x h.x) (and_from _ _ (is_int (cross_product u v).y h.y) (is_int (cross_product u v).z h.z))

pub parallel_parts : (u v : Direction) → is_parallel u v ≡ true → IsZero (cross_product u v)
parallel_parts u v h =
    let a = and_parts (int_eq (cross_product u v).x (pos 0)) (int_eq (cross_product u v).y (pos 0) && int_eq (cross_product u v).z (pos 0)) h in
    let b = and_parts (int_eq (cross_product u v).y (pos 0)) (int_eq (cross_product u v).z (pos 0)) a.1 in
    record { x = (Decides-int_eq (cross_product u v).x (pos 0)).0 a.0; y = (Decides-int_eq (cross_product u v).y (pos 0)).0 b.0; z = (Decides-int_eq (cross_product u v).z (pos 0)).0 b.1 }

pub same_way_is : (u v : Direction) → IsZero (cross_product u v) → pos 0 <ℤ dot_product u v → is_same_direction u v ≡ true
same_way_is u v h k = and_from _ _ (parallel_is u v h) (below (pos 0) (dot_product u v) k)

pub same_way_parts : (u v : Direction) → is_same_direction u v ≡ true → IsZero (cross_product u v) × (pos 0 <ℤ dot_product u v)
same_way_parts u v h =
    let a = and_parts (is_parallel u v) (int_lt (pos 0) (dot_product u v)) h in (parallel_parts u v a.0, below_back (pos 0) (dot_product u v) a.1)

pub opposite_way_is : (u v : Direction) → IsZero (cross_product u v) → dot_product u v <ℤ pos 0 → is_opposite_direction u v ≡ true
opposite_way_is u v h k = and_from _ _ (parallel_is u v h) (below (dot_product u v) (pos 0) k)

pub opposite_way_parts : (u v : Direction) → is_opposite_direction u v ≡ true → IsZero (cross_product u v) × (dot_product u v <ℤ pos 0)
opposite_way_parts u v h =
    let a = and_parts (is_parallel u v) (int_lt (dot_product u v) (pos 0)) h in (parallel_parts u v a.0, below_back (dot_product u v) (pos 0) a.1)

pub zero_by_length : (u : Direction) → dot_product u u ≡ pos 0 → IsZero u
zero_by_length u h =
    let a = square u.x in let b = square u.y in let c = square u.z in
    record { x = no_square u.x (omega (arith, sums)); y = no_square u.y (omega (arith, sums)); z = no_square u.z (omega (arith, sums)) }

-- a way of no length leads to the same place
pub same_place_is : (p q : Coordinates) → dot_product (displacement p q) (displacement p q) ≡ pos 0 → is_same_point_of_space p q ≡ true
same_place_is p q h =
    let z = zero_by_length (displacement p q) h in and_from _ _ (is_int (displacement p q).x z.x) (and_from _ _ (is_int (displacement p q).y z.y) (is_int (displacement p q).z z.z))
