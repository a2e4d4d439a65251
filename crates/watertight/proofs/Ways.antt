-- Ways along a direction, and points in order along it.
use Rattle.std.proofs.Common.{◌≡◌, inl, inr, ◌⊎◌, true, ◌&&◌, List, [], ◌∷◌, refl, sym, ap₂, ◌∙◌, subst, arith, ℤ, pos, ◌+ℤ◌, ◌-ℤ◌, ◌*ℤ◌, ◌<ℤ◌, ◌≤ℤ◌, neg_ℤ}
use Rattle.std.specs.Ordering.{int_eq}
use Rattle.std.proofs.Math.IntN.{*ℤ-zero}
use Rattle.std.proofs.lemmas.Bool.{and_parts}
use Rattle.std.proofs.lemmas.Bool.Decides.{Decides-int_eq}
use Rattle.plane_predicate.specs.Space.{Coordinates, minor}
use Rattle.plane_predicate.proofs.lemmas.IntegerRing.{sums, mul_comm_ℤ, mul_neg_left, mul_neg_right}
use Rattle.plane_predicate.proofs.lemmas.Polynomials.{Poly, var, plus, times, minus, ring}
use Rattle.plane_predicate.proofs.lemmas.Signs.{signs, pos_pos, least_least, pos_cancel, zero_cancel}
use Rattle.closed_surface.specs.Ways.{Direction, displacement, dot_product, cross_product, is_same_point_of_space, is_same_direction, is_opposite_direction}
use Rattle.closed_surface.proofs.lemmas.Numbers.{not_zero_above}
use Rattle.closed_surface.proofs.lemmas.Parallels.{IsZero, along_dot, along_cross, dot_above, same_way_is, same_way_parts, same_place_is}

-- ---- u is g times a number above 0
pub record Along (g u : Direction) : Type 0 where
  pub zero : IsZero (cross_product g u)
  pub above : pos 0 <ℤ dot_product g u

-- the same, or u is 0
pub record NotAgainst (g u : Direction) : Type 0 where
  pub zero : IsZero (cross_product g u)
  pub least : pos 0 ≤ℤ dot_product g u

pub along_parts : (g u : Direction) → is_same_direction g u ≡ true → Along g u
along_parts g u h = let k = same_way_parts g u h in record { zero = k.0; above = k.1 }

pub along_is : (g u : Direction) → Along g u → is_same_direction g u ≡ true
along_is g u h = same_way_is g u h.zero h.above

pub length_above : (g u : Direction) → Along g u → pos 0 <ℤ dot_product g g
length_above g u h = dot_above g u (not_zero_above _ h.above)

pub weaker : (g u : Direction) → Along g u → NotAgainst g u
weaker g u h = record { zero = h.zero; least = omega (arith, sums, h.above) }

cross_itself : (u : Direction) → IsZero (cross_product u u)
cross_itself u = record {
  x = omega (arith, sums, mul_comm_ℤ u.y u.z);
  y = omega (arith, sums, mul_comm_ℤ u.z u.x);
  z = omega (arith, sums, mul_comm_ℤ u.x u.y);
}

-- two ways along one direction are along one another
pub between_ways : (g u w : Direction) → Along g u → Along g w → Along u w
between_ways g u w h k =
    let d = length_above g u h in record {
      zero = along_cross g u w d h.zero k.zero;
      above = pos_cancel (dot_product g g) (dot_product u w) d (subst (λ (x : ℤ). pos 0 <ℤ x) (sym (along_dot g u w h.zero)) (pos_pos _ _ h.above k.above));
    }

pub along_itself : (g : Direction) → pos 0 <ℤ dot_product g g → Along g g
along_itself g d = record { zero = cross_itself g; above = d }

pub along_back : (u w : Direction) → Along u w → Along w u
along_back u w h = between_ways u w u h (along_itself u (length_above u w h))

-- ---- sums of ways
sum_of_ways : (xw yw zw x y z : ℤ) → zw *ℤ (xw *ℤ y -ℤ yw *ℤ x) ≡ yw *ℤ (xw *ℤ z -ℤ zw *ℤ x) +ℤ xw *ℤ (zw *ℤ y -ℤ yw *ℤ z)
sum_of_ways xw yw zw x y z =
    let XW = var 0 in let YW = var 1 in let ZW = var 2 in let X = var 3 in let Y = var 4 in let Z = var 5 in
    ring (xw ∷ yw ∷ zw ∷ x ∷ y ∷ z ∷ []) (times ZW (minus (times XW Y) (times YW X)))
    (plus (times YW (minus (times XW Z) (times ZW X))) (times XW (minus (times ZW Y) (times YW Z)))) refl

-- u times k is u1 times l and u2 times m, together
pub record IsSum (k l m : ℤ) (u u1 u2 : Direction) : Type 0 where
  pub x : k *ℤ u.x ≡ l *ℤ u1.x +ℤ m *ℤ u2.x
  pub y : k *ℤ u.y ≡ l *ℤ u1.y +ℤ m *ℤ u2.y
  pub z : k *ℤ u.z ≡ l *ℤ u1.z +ℤ m *ℤ u2.z

-- the way from p to r by q
pub way_by : (p q r : Coordinates) → IsSum q.w r.w p.w (displacement p r) (displacement p q) (displacement q r)
way_by p q r = record {
  x = sum_of_ways p.w r.w q.w p.x r.x q.x;
  y = sum_of_ways p.w r.w q.w p.y r.y q.y;
  z = sum_of_ways p.w r.w q.w p.z r.z q.z;
}

into_minor : (k p q y z : ℤ) → k *ℤ minor p q y z ≡ p *ℤ (k *ℤ z) -ℤ q *ℤ (k *ℤ y)
into_minor k p q y z =
    let K = var 0 in let P = var 1 in let Q = var 2 in let Y = var 3 in let Z = var 4 in
    ring (k ∷ p ∷ q ∷ y ∷ z ∷ []) (times K (minus (times P Z) (times Q Y))) (minus (times P (times K Z)) (times Q (times K Y))) refl

out_of_minor : (l m p q y1 y2 z1 z2 : ℤ) → p *ℤ (l *ℤ z1 +ℤ m *ℤ z2) -ℤ q *ℤ (l *ℤ y1 +ℤ m *ℤ y2) ≡ l *ℤ minor p q y1 z1 +ℤ m *ℤ minor p q y2 z2
out_of_minor l m p q y1 y2 z1 z2 =
    let L = var 0 in let M = var 1 in let P = var 2 in let Q = var 3 in let Y1 = var 4 in let Y2 = var 5 in let Z1 = var 6 in let Z2 = var 7 in
    ring (l ∷ m ∷ p ∷ q ∷ y1 ∷ y2 ∷ z1 ∷ z2 ∷ []) (minus (times P (plus (times L Z1) (times M Z2))) (times Q (plus (times L Y1) (times M Y2))))
    (plus (times L (minus (times P Z1) (times Q Y1))) (times M (minus (times P Z2) (times Q Y2)))) refl

sum_minor : (k l m p q y y1 y2 z z1 z2 : ℤ) → k *ℤ y ≡ l *ℤ y1 +ℤ m *ℤ y2 → k *ℤ z ≡ l *ℤ z1 +ℤ m *ℤ z2 →
    k *ℤ minor p q y z ≡ l *ℤ minor p q y1 z1 +ℤ m *ℤ minor p q y2 z2
sum_minor k l m p q y y1 y2 z z1 z2 hy hz = into_minor k p q y z ∙ ap₂ (λ (a b : ℤ). p *ℤ a -ℤ q *ℤ b) hz hy ∙ out_of_minor l m p q y1 y2 z1 z2

into_dot : (k a b c x y z : ℤ) → k *ℤ (a *ℤ x +ℤ b *ℤ y +ℤ c *ℤ z) ≡ a *ℤ (k *ℤ x) +ℤ b *ℤ (k *ℤ y) +ℤ c *ℤ (k *ℤ z)
into_dot k a b c x y z =
    let K = var 0 in let A = var 1 in let B = var 2 in let C = var 3 in let X = var 4 in let Y = var 5 in let Z = var 6 in
    ring (k ∷ a ∷ b ∷ c ∷ x ∷ y ∷ z ∷ []) (times K (plus (plus (times A X) (times B Y)) (times C Z)))
    (plus (plus (times A (times K X)) (times B (times K Y))) (times C (times K Z))) refl

out_of_dot : (l m a b c x1 x2 y1 y2 z1 z2 : ℤ) →
    a *ℤ (l *ℤ x1 +ℤ m *ℤ x2) +ℤ b *ℤ (l *ℤ y1 +ℤ m *ℤ y2) +ℤ c *ℤ (l *ℤ z1 +ℤ m *ℤ z2)
    ≡ l *ℤ (a *ℤ x1 +ℤ b *ℤ y1 +ℤ c *ℤ z1) +ℤ m *ℤ (a *ℤ x2 +ℤ b *ℤ y2 +ℤ c *ℤ z2)
out_of_dot l m a b c x1 x2 y1 y2 z1 z2 =
    let L = var 0 in let M = var 1 in let A = var 2 in let B = var 3 in let C = var 4 in
    let X1 = var 5 in let X2 = var 6 in let Y1 = var 7 in let Y2 = var 8 in let Z1 = var 9 in let Z2 = var 10 in
    ring (l ∷ m ∷ a ∷ b ∷ c ∷ x1 ∷ x2 ∷ y1 ∷ y2 ∷ z1 ∷ z2 ∷ [])
    (plus (plus (times A (plus (times L X1) (times M X2))) (times B (plus (times L Y1) (times M Y2)))) (times C (plus (times L Z1) (times M Z2))))
    (plus (times L (plus (plus (times A X1) (times B Y1)) (times C Z1))) (times M (plus (plus (times A X2) (times B Y2)) (times C Z2)))) refl

pub sum_dot : (k l m : ℤ) (v u u1 u2 : Direction) → IsSum k l m u u1 u2 → k *ℤ dot_product v u ≡ l *ℤ dot_product v u1 +ℤ m *ℤ dot_product v u2
sum_dot k l m v u u1 u2 h =
    into_dot k v.x v.y v.z u.x u.y u.z
    ∙ (λ i. v.x *ℤ h.x i +ℤ v.y *ℤ h.y i +ℤ v.z *ℤ h.z i)
    ∙ out_of_dot l m v.x v.y v.z u1.x u2.x u1.y u2.y u1.z u2.z

zero_sum : (k l m c c1 c2 : ℤ) → pos 0 <ℤ k → k *ℤ c ≡ l *ℤ c1 +ℤ m *ℤ c2 → c1 ≡ pos 0 → c2 ≡ pos 0 → c ≡ pos 0
zero_sum k l m c c1 c2 hk e h1 h2 = zero_cancel k c hk (e ∙ ap₂ (λ (a b : ℤ). l *ℤ a +ℤ m *ℤ b) h1 h2 ∙ ap₂ (λ (a b : ℤ). a +ℤ b) (*ℤ-zero l) (*ℤ-zero m))

zero_first : (k l m c c1 c2 : ℤ) → pos 0 <ℤ l → k *ℤ c ≡ l *ℤ c1 +ℤ m *ℤ c2 → c ≡ pos 0 → c2 ≡ pos 0 → c1 ≡ pos 0
zero_first k l m c c1 c2 hl e h h2 =
    let t : k *ℤ pos 0 ≡ l *ℤ c1 +ℤ m *ℤ pos 0 = subst (λ (x : ℤ). k *ℤ pos 0 ≡ l *ℤ c1 +ℤ m *ℤ x) h2 (subst (λ (x : ℤ). k *ℤ x ≡ l *ℤ c1 +ℤ m *ℤ c2) h e) in
    zero_cancel l c1 hl (omega (arith, sums, t, *ℤ-zero k, *ℤ-zero m))

zero_second : (k l m c c1 c2 : ℤ) → pos 0 <ℤ m → k *ℤ c ≡ l *ℤ c1 +ℤ m *ℤ c2 → c ≡ pos 0 → c1 ≡ pos 0 → c2 ≡ pos 0
zero_second k l m c c1 c2 hm e h h1 =
    let t : k *ℤ pos 0 ≡ l *ℤ pos 0 +ℤ m *ℤ c2 = subst (λ (x : ℤ). k *ℤ pos 0 ≡ l *ℤ x +ℤ m *ℤ c2) h1 (subst (λ (x : ℤ). k *ℤ x ≡ l *ℤ c1 +ℤ m *ℤ c2) h e) in
    zero_cancel m c2 hm (omega (arith, sums, t, *ℤ-zero k, *ℤ-zero l))

-- of three ways that sum up, two that are parallel to v tell that the third one is
module _ (k l m : ℤ) (v u u1 u2 : Direction) (h : IsSum k l m u u1 u2) where
  pub sum_zero : pos 0 <ℤ k → IsZero (cross_product v u1) → IsZero (cross_product v u2) → IsZero (cross_product v u)
  sum_zero hk z1 z2 = record {
    x = zero_sum k l m _ _ _ hk (sum_minor k l m v.y v.z u.y u1.y u2.y u.z u1.z u2.z h.y h.z) z1.x z2.x;
    y = zero_sum k l m _ _ _ hk (sum_minor k l m v.z v.x u.z u1.z u2.z u.x u1.x u2.x h.z h.x) z1.y z2.y;
    z = zero_sum k l m _ _ _ hk (sum_minor k l m v.x v.y u.x u1.x u2.x u.y u1.y u2.y h.x h.y) z1.z z2.z;
  }

  pub first_zero : pos 0 <ℤ l → IsZero (cross_product v u) → IsZero (cross_product v u2) → IsZero (cross_product v u1)
  first_zero hl z z2 = record {
    x = zero_first k l m _ _ _ hl (sum_minor k l m v.y v.z u.y u1.y u2.y u.z u1.z u2.z h.y h.z) z.x z2.x;
    y = zero_first k l m _ _ _ hl (sum_minor k l m v.z v.x u.z u1.z u2.z u.x u1.x u2.x h.z h.x) z.y z2.y;
    z = zero_first k l m _ _ _ hl (sum_minor k l m v.x v.y u.x u1.x u2.x u.y u1.y u2.y h.x h.y) z.z z2.z;
  }

  pub second_zero : pos 0 <ℤ m → IsZero (cross_product v u) → IsZero (cross_product v u1) → IsZero (cross_product v u2)
  second_zero hm z z1 = record {
    x = zero_second k l m _ _ _ hm (sum_minor k l m v.y v.z u.y u1.y u2.y u.z u1.z u2.z h.y h.z) z.x z1.x;
    y = zero_second k l m _ _ _ hm (sum_minor k l m v.z v.x u.z u1.z u2.z u.x u1.x u2.x h.z h.x) z.y z1.y;
    z = zero_second k l m _ _ _ hm (sum_minor k l m v.x v.y u.x u1.x u2.x u.y u1.y u2.y h.x h.y) z.z z1.z;
  }

-- ---- points in order: p comes before q along v where the way from p to q is along v
pub before_before : (v : Direction) (p q r : Coordinates) → pos 0 <ℤ p.w → pos 0 <ℤ q.w → pos 0 <ℤ r.w → Along v (displacement p q) → Along v (displacement q r) → Along v (displacement p r)
before_before v p q r wp wq wr h k = record {
  zero = sum_zero q.w r.w p.w v (displacement p r) (displacement p q) (displacement q r) (way_by p q r) wq h.zero k.zero;
  above = pos_cancel q.w _ wq (subst (λ (x : ℤ). pos 0 <ℤ x) (sym (sum_dot q.w r.w p.w v (displacement p r) (displacement p q) (displacement q r) (way_by p q r)))
      (omega (arith, sums, pos_pos _ _ wr h.above, pos_pos _ _ wp k.above)));
}

pub most_before : (v : Direction) (p q r : Coordinates) → pos 0 <ℤ p.w → pos 0 <ℤ q.w → pos 0 <ℤ r.w → NotAgainst v (displacement p q) → Along v (displacement q r) → Along v (displacement p r)
most_before v p q r wp wq wr h k = record {
  zero = sum_zero q.w r.w p.w v (displacement p r) (displacement p q) (displacement q r) (way_by p q r) wq h.zero k.zero;
  above = pos_cancel q.w _ wq (subst (λ (x : ℤ). pos 0 <ℤ x) (sym (sum_dot q.w r.w p.w v (displacement p r) (displacement p q) (displacement q r) (way_by p q r)))
      (omega (arith, sums, least_least r.w (dot_product v (displacement p q)) (omega (arith, sums, wr)) h.least, pos_pos _ _ wp k.above)));
}

pub before_most : (v : Direction) (p q r : Coordinates) → pos 0 <ℤ p.w → pos 0 <ℤ q.w → pos 0 <ℤ r.w → Along v (displacement p q) → NotAgainst v (displacement q r) → Along v (displacement p r)
before_most v p q r wp wq wr h k = record {
  zero = sum_zero q.w r.w p.w v (displacement p r) (displacement p q) (displacement q r) (way_by p q r) wq h.zero k.zero;
  above = pos_cancel q.w _ wq (subst (λ (x : ℤ). pos 0 <ℤ x) (sym (sum_dot q.w r.w p.w v (displacement p r) (displacement p q) (displacement q r) (way_by p q r)))
      (omega (arith, sums, pos_pos _ _ wr h.above, least_least p.w (dot_product v (displacement q r)) (omega (arith, sums, wp)) k.least)));
}

-- ---- the way back
abbrev pub back : Direction → Direction
back u = record { x = neg_ℤ u.x; y = neg_ℤ u.y; z = neg_ℤ u.z }

turned_difference : (a b : ℤ) → a -ℤ b ≡ neg_ℤ (b -ℤ a)
turned_difference a b = omega (arith, sums)

pub way_back : (p q : Coordinates) → displacement p q ≡ back (displacement q p)
way_back p q = λ i. record {
  x = turned_difference (p.w *ℤ q.x) (q.w *ℤ p.x) i;
  y = turned_difference (p.w *ℤ q.y) (q.w *ℤ p.y) i;
  z = turned_difference (p.w *ℤ q.z) (q.w *ℤ p.z) i;
}

pub back_zero : (g u : Direction) → IsZero (cross_product g u) → IsZero (cross_product g (back u))
back_zero g u h = record {
  x = omega (arith, sums, h.x, mul_neg_right g.y u.z, mul_neg_right g.z u.y);
  y = omega (arith, sums, h.y, mul_neg_right g.z u.x, mul_neg_right g.x u.z);
  z = omega (arith, sums, h.z, mul_neg_right g.x u.y, mul_neg_right g.y u.x);
}

pub back_dot : (g u : Direction) → dot_product g (back u) ≡ neg_ℤ (dot_product g u)
back_dot g u = omega (arith, sums, mul_neg_right g.x u.x, mul_neg_right g.y u.y, mul_neg_right g.z u.z)

pub back_cross : (g u : Direction) → IsZero (cross_product g (back u)) → IsZero (cross_product g u)
back_cross g u h = record {
  x = omega (arith, sums, h.x, mul_neg_right g.y u.z, mul_neg_right g.z u.y);
  y = omega (arith, sums, h.y, mul_neg_right g.z u.x, mul_neg_right g.x u.z);
  z = omega (arith, sums, h.z, mul_neg_right g.x u.y, mul_neg_right g.y u.x);
}

-- where the way from p to q is against v, the way from q to p is along it
pub against_back : (v : Direction) (p q : Coordinates) → IsZero (cross_product v (displacement p q)) → dot_product v (displacement p q) <ℤ pos 0 → Along v (displacement q p)
against_back v p q z d = subst (Along v) (sym (way_back q p)) (record { zero = back_zero v (displacement p q) z; above = omega (arith, sums, d, back_dot v (displacement p q)) })

pub zero_back : (v : Direction) (p q : Coordinates) → IsZero (cross_product v (displacement p q)) → IsZero (cross_product v (displacement q p))
zero_back v p q z = subst (λ (u : Direction). IsZero (cross_product v u)) (sym (way_back q p)) (back_zero v (displacement p q) z)

pub flip_zero : (a b : Direction) → IsZero (cross_product a b) → IsZero (cross_product b a)
flip_zero a b h = record {
  x = omega (arith, sums, h.x, mul_comm_ℤ b.y a.z, mul_comm_ℤ b.z a.y);
  y = omega (arith, sums, h.y, mul_comm_ℤ b.z a.x, mul_comm_ℤ b.x a.z);
  z = omega (arith, sums, h.z, mul_comm_ℤ b.x a.y, mul_comm_ℤ b.y a.x);
}

pub flip_dot : (a b : Direction) → dot_product a b ≡ dot_product b a
flip_dot a b = λ i. mul_comm_ℤ a.x b.x i +ℤ mul_comm_ℤ a.y b.y i +ℤ mul_comm_ℤ a.z b.z i

-- two ways back are along one another where the ways are
pub along_both_back : (u w : Direction) → Along (back w) (back u) → Along u w
along_both_back u w h =
    let below : dot_product (back w) u <ℤ pos 0 = omega (arith, sums, h.above, back_dot (back w) u) in
    record {
      zero = back_cross u w (flip_zero (back w) u (back_cross (back w) u h.zero));
      above = omega (arith, sums, below, flip_dot (back w) u, back_dot u w);
    }

-- ---- the same place
pub same_place_way : (p q : Coordinates) → is_same_point_of_space p q ≡ true → IsZero (displacement p q)
same_place_way p q h =
    let a = and_parts (int_eq (displacement p q).x (pos 0)) (int_eq (displacement p q).y (pos 0) && int_eq (displacement p q).z (pos 0)) h in
    let b = and_parts (int_eq (displacement p q).y (pos 0)) (int_eq (displacement p q).z (pos 0)) a.1 in
    record { x = (Decides-int_eq (displacement p q).x (pos 0)).0 a.0; y = (Decides-int_eq (displacement p q).y (pos 0)).0 b.0; z = (Decides-int_eq (displacement p q).z (pos 0)).0 b.1 }

no_minor : (p q y z : ℤ) → y ≡ pos 0 → z ≡ pos 0 → minor p q y z ≡ pos 0
no_minor p q y z hy hz = rw (hy, hz, *ℤ-zero p, *ℤ-zero q) refl

no_dot : (a b c x y z : ℤ) → x ≡ pos 0 → y ≡ pos 0 → z ≡ pos 0 → a *ℤ x +ℤ b *ℤ y +ℤ c *ℤ z ≡ pos 0
no_dot a b c x y z hx hy hz = rw (hx, hy, hz, *ℤ-zero a, *ℤ-zero b, *ℤ-zero c) refl

pub zero_not_against : (v u : Direction) → IsZero u → NotAgainst v u
zero_not_against v u h = record {
  zero = record { x = no_minor v.y v.z u.y u.z h.y h.z; y = no_minor v.z v.x u.z u.x h.z h.x; z = no_minor v.x v.y u.x u.y h.x h.y };
  least = omega (arith, sums, no_dot v.x v.y v.z u.x u.y u.z h.x h.y h.z);
}

-- a way that is parallel to v, with no part along v, has no length
pub no_part_no_length : (v u : Direction) → pos 0 <ℤ dot_product v v → IsZero (cross_product v u) → dot_product v u ≡ pos 0 → dot_product u u ≡ pos 0
no_part_no_length v u d z e = zero_cancel (dot_product v v) (dot_product u u) d (along_dot v u u z ∙ ap₂ (λ (a b : ℤ). a *ℤ b) e e)

-- ---- ways that are v times a number
times_exchanged : (k p q : ℤ) → p *ℤ (k *ℤ q) ≡ q *ℤ (k *ℤ p)
times_exchanged k p q = ring (k ∷ p ∷ q ∷ []) (times (var 1) (times (var 0) (var 2))) (times (var 2) (times (var 0) (var 1))) refl

times_minor : (k p q y z : ℤ) → y ≡ k *ℤ p → z ≡ k *ℤ q → minor p q y z ≡ pos 0
times_minor k p q y z hy hz = rw (hy, hz) (omega (arith, sums, times_exchanged k p q))

times_dot : (k : ℤ) (v : Direction) → v.x *ℤ (k *ℤ v.x) +ℤ v.y *ℤ (k *ℤ v.y) +ℤ v.z *ℤ (k *ℤ v.z) ≡ k *ℤ dot_product v v
times_dot k v =
    let K = var 0 in let X = var 1 in let Y = var 2 in let Z = var 3 in
    ring (k ∷ v.x ∷ v.y ∷ v.z ∷ []) (plus (plus (times X (times K X)) (times Y (times K Y))) (times Z (times K Z)))
    (times K (plus (plus (times X X) (times Y Y)) (times Z Z))) refl

pub times_along : (k : ℤ) (v u : Direction) → pos 0 <ℤ k → pos 0 <ℤ dot_product v v → u.x ≡ k *ℤ v.x → u.y ≡ k *ℤ v.y → u.z ≡ k *ℤ v.z → Along v u
times_along k v u hk d hx hy hz = record {
  zero = record { x = times_minor k v.y v.z u.y u.z hy hz; y = times_minor k v.z v.x u.z u.x hz hx; z = times_minor k v.x v.y u.x u.y hx hy };
  above = subst (λ (x : ℤ). pos 0 <ℤ x) (sym ((λ i. v.x *ℤ hx i +ℤ v.y *ℤ hy i +ℤ v.z *ℤ hz i) ∙ times_dot k v)) (pos_pos k (dot_product v v) hk d);
}
