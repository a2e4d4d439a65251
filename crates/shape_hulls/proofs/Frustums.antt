-- Numbers of a frustum with four sides: the planes of its sides, and the planes that none of its corners is ahead of.
use Rattle.std.proofs.Common.{◌≡◌, ◌⊎◌, inl, inr, [], ◌∷◌, refl, sym, ap, ◌∙◌, arith, ℤ, pos, ◌+ℤ◌, ◌-ℤ◌, ◌*ℤ◌, ◌<ℤ◌, ◌≤ℤ◌, neg_ℤ}
use Rattle.plane_predicate.proofs.lemmas.IntegerRing.{sums, mul_comm_ℤ, mul_neg_left, mul_neg_right, zero_mul}
use Rattle.plane_predicate.proofs.lemmas.Polynomials.{var, num, plus, times, minus, ring}
use Rattle.plane_predicate.proofs.lemmas.Signs.{signs, pos_pos, pos_neg, neg_pos, neg_neg, least_most, least_least, zero_cancel, pos_cancel}
use Rattle.shape_hulls.proofs.Axes.{above_with, at_corner, at_point, below_with, less_by, less_parts, most_by, no_slope, no_times, times_one, IsAcross, IsNothing}

-- ---- the planes of the sides
-- how far the sides are from the axis at a point, times the height: a at the height l, and b at the height h
abbrev pub reach_at : ℤ → ℤ → ℤ → ℤ → ℤ → ℤ → ℤ
reach_at a b l h z w = a *ℤ (h *ℤ w -ℤ z) +ℤ b *ℤ (z -ℤ l *ℤ w)

times_none : (a : ℤ) → a *ℤ pos 0 ≡ pos 0
times_none a = ring (a ∷ []) (times (var 0) (num (pos 0))) (num (pos 0)) refl

same_parts : (a b r s : ℤ) → pos 0 <ℤ r → a *ℤ r +ℤ s ≡ pos 0 → b *ℤ r +ℤ s ≡ pos 0 → a ≡ b
same_parts a b r s above h k =
    let none = zero_cancel r (a -ℤ b) above (omega (arith, sums, h, k, ring (a ∷ b ∷ r ∷ []) (times (var 2) (minus (var 0) (var 1))) (minus (times (var 0) (var 2)) (times (var 1) (var 2))) refl)) in
    omega (arith, sums, none)

-- the value of a side's plane, times the height, where the plane is known by a radius r at the height g, and another one s at k
side_value : (a c d r s g k x y z w : ℤ) → a *ℤ r +ℤ c *ℤ g ≡ d → a *ℤ s +ℤ c *ℤ k ≡ d → (k -ℤ g) *ℤ (a *ℤ x +ℤ a *ℤ y +ℤ c *ℤ z -ℤ d *ℤ w) ≡ a *ℤ ((k -ℤ g) *ℤ (x +ℤ y) -ℤ reach_at r s g k z w)
side_value a c d r s g k x y z w h e =
    let slope : c *ℤ (k -ℤ g) ≡ a *ℤ (r -ℤ s) = omega (arith, sums, h, e, less_parts c k g, less_parts a r s) in
    ap (λ (t : ℤ). (k -ℤ g) *ℤ (a *ℤ x +ℤ a *ℤ y +ℤ c *ℤ z -ℤ t *ℤ w)) (sym h)
    ∙ ring (a ∷ c ∷ r ∷ s ∷ g ∷ k ∷ x ∷ y ∷ z ∷ w ∷ [])
    (times (minus (var 5) (var 4)) (minus (plus (plus (times (var 0) (var 6)) (times (var 0) (var 7))) (times (var 1) (var 8))) (times (plus (times (var 0) (var 2)) (times (var 1) (var 4))) (var 9))))
    (plus (times (times (var 1) (minus (var 5) (var 4))) (minus (var 8) (times (var 4) (var 9)))) (times (var 0) (minus (times (minus (var 5) (var 4)) (plus (var 6) (var 7))) (times (times (minus (var 5) (var 4)) (var 2)) (var 9))))) refl
    ∙ ap (λ (t : ℤ). t *ℤ (z -ℤ g *ℤ w) +ℤ a *ℤ ((k -ℤ g) *ℤ (x +ℤ y) -ℤ (k -ℤ g) *ℤ r *ℤ w)) slope
    ∙ ring (a ∷ c ∷ r ∷ s ∷ g ∷ k ∷ x ∷ y ∷ z ∷ w ∷ [])
    (plus (times (times (var 0) (minus (var 2) (var 3))) (minus (var 8) (times (var 4) (var 9)))) (times (var 0) (minus (times (minus (var 5) (var 4)) (plus (var 6) (var 7))) (times (times (minus (var 5) (var 4)) (var 2)) (var 9)))))
    (times (var 0) (minus (times (minus (var 5) (var 4)) (plus (var 6) (var 7))) (plus (times (var 2) (minus (times (var 5) (var 9)) (var 8))) (times (var 3) (minus (var 8) (times (var 4) (var 9))))))) refl

-- a plane that holds the corners of a side, turned to the first quarter
pub record IsSlanted (a b c d r s g k : ℤ) : Type 0 where
  pub some : pos 0 <ℤ r
  pub first : a *ℤ r +ℤ c *ℤ g ≡ d
  pub second : b *ℤ r +ℤ c *ℤ g ≡ d
  pub third : a *ℤ s +ℤ c *ℤ k ≡ d
  pub back : (c *ℤ g -ℤ a *ℤ r -ℤ d) ≤ℤ pos 0

least_part : (a r t : ℤ) → pos 0 <ℤ r → (t -ℤ a *ℤ r) ≤ℤ pos 0 → a *ℤ r +ℤ t ≡ pos 0 → pos 0 ≤ℤ a
least_part a r t above h e = elim (signs a) [
  | inl below ↦ absurd (omega (arith, sums, neg_pos a r below above, h, e))
  | inr (inl none) ↦ omega (arith, sums, none)
  | inr (inr over) ↦ omega (arith, sums, over)
]

below_by : (a e : ℤ) → pos 0 ≤ℤ a → (a *ℤ e) <ℤ pos 0 → e <ℤ pos 0
below_by a e h k = elim (signs e) [
  | inl below ↦ below
  | inr (inl none) ↦ absurd (omega (arith, sums, least_least a e h (omega (arith, sums, none)), k))
  | inr (inr over) ↦ absurd (omega (arith, sums, least_least a e h (omega (arith, sums, over)), k))
]

above_by : (a e : ℤ) → pos 0 ≤ℤ a → pos 0 <ℤ (a *ℤ e) → pos 0 <ℤ e
above_by a e h k = elim (signs e) [
  | inl below ↦ absurd (omega (arith, sums, least_most a e h (omega (arith, sums, below)), k))
  | inr (inl none) ↦ absurd (omega (arith, sums, least_most a e h (omega (arith, sums, none)), k))
  | inr (inr over) ↦ over
]

slant_value : (a b c d r s g k x y z w : ℤ) → IsSlanted a b c d r s g k → (pos 0 ≤ℤ a) × ((k -ℤ g) *ℤ (a *ℤ x +ℤ b *ℤ y +ℤ c *ℤ z -ℤ d *ℤ w) ≡ a *ℤ ((k -ℤ g) *ℤ (x +ℤ y) -ℤ reach_at r s g k z w))
slant_value a b c d r s g k x y z w h =
    let same = same_parts a b r (c *ℤ g -ℤ d) h.some (omega (arith, sums, h.first)) (omega (arith, sums, h.second)) in (
      least_part a r (c *ℤ g -ℤ d) h.some (omega (arith, sums, h.back)) (omega (arith, sums, h.first)),
      ap (λ (t : ℤ). (k -ℤ g) *ℤ (a *ℤ x +ℤ t *ℤ y +ℤ c *ℤ z -ℤ d *ℤ w)) (sym same) ∙ side_value a c d r s g k x y z w h.first h.third,
    )

-- a point behind the plane of a side is nearer to the axis
pub nearer_up : (a b c d r s g k x y z w : ℤ) → g <ℤ k → IsSlanted a b c d r s g k → (a *ℤ x +ℤ b *ℤ y +ℤ c *ℤ z -ℤ d *ℤ w) <ℤ pos 0 → ((k -ℤ g) *ℤ (x +ℤ y)) <ℤ reach_at r s g k z w
nearer_up a b c d r s g k x y z w lt h below =
    let v = slant_value a b c d r s g k x y z w h in
    let less = below_by a ((k -ℤ g) *ℤ (x +ℤ y) -ℤ reach_at r s g k z w) v.0 (omega (arith, sums, v.1, pos_neg (k -ℤ g) (a *ℤ x +ℤ b *ℤ y +ℤ c *ℤ z -ℤ d *ℤ w) (omega (arith, sums, lt)) below)) in
    omega (arith, sums, less)

upside_down : (r s g k t z w : ℤ) → (k -ℤ g) *ℤ t -ℤ reach_at r s g k z w ≡ reach_at s r k g z w -ℤ (g -ℤ k) *ℤ t
upside_down r s g k t z w =
    ring (r ∷ s ∷ g ∷ k ∷ t ∷ z ∷ w ∷ [])
    (minus (times (minus (var 3) (var 2)) (var 4)) (plus (times (var 0) (minus (times (var 3) (var 6)) (var 5))) (times (var 1) (minus (var 5) (times (var 2) (var 6))))))
    (minus (plus (times (var 1) (minus (times (var 2) (var 6)) (var 5))) (times (var 0) (minus (var 5) (times (var 3) (var 6))))) (times (minus (var 2) (var 3)) (var 4))) refl

pub nearer_down : (a b c d r s g k x y z w : ℤ) → k <ℤ g → IsSlanted a b c d r s g k → (a *ℤ x +ℤ b *ℤ y +ℤ c *ℤ z -ℤ d *ℤ w) <ℤ pos 0 → ((g -ℤ k) *ℤ (x +ℤ y)) <ℤ reach_at s r k g z w
nearer_down a b c d r s g k x y z w lt h below =
    let v = slant_value a b c d r s g k x y z w h in
    let more = above_by a ((k -ℤ g) *ℤ (x +ℤ y) -ℤ reach_at r s g k z w) v.0 (omega (arith, sums, v.1, neg_neg (k -ℤ g) (a *ℤ x +ℤ b *ℤ y +ℤ c *ℤ z -ℤ d *ℤ w) (omega (arith, sums, lt)) below)) in
    omega (arith, sums, more, upside_down r s g k (x +ℤ y) z w)

-- the same sides in the four quarters, by their corners
pub slant_right_back : (a b c d r s g k : ℤ) → pos 0 <ℤ r → a *ℤ r +ℤ b *ℤ pos 0 +ℤ c *ℤ g -ℤ d *ℤ pos 1 ≡ pos 0 → a *ℤ pos 0 +ℤ b *ℤ r +ℤ c *ℤ g -ℤ d *ℤ pos 1 ≡ pos 0 → a *ℤ s +ℤ b *ℤ pos 0 +ℤ c *ℤ k -ℤ d *ℤ pos 1 ≡ pos 0 → (a *ℤ neg_ℤ r +ℤ b *ℤ pos 0 +ℤ c *ℤ g -ℤ d *ℤ pos 1) ≤ℤ pos 0 → IsSlanted a b c d r s g k
slant_right_back a b c d r s g k some x y far back =
    let a0 = times_none a in let b0 = times_none b in let one = times_one d in
    record { some = some; first = omega (arith, sums, x, b0, one); second = omega (arith, sums, y, a0, one); third = omega (arith, sums, far, b0, one); back = omega (arith, sums, back, b0, one, mul_neg_right a r) }

pub slant_left_back : (a b c d r s g k : ℤ) → pos 0 <ℤ r → a *ℤ neg_ℤ r +ℤ b *ℤ pos 0 +ℤ c *ℤ g -ℤ d *ℤ pos 1 ≡ pos 0 → a *ℤ pos 0 +ℤ b *ℤ r +ℤ c *ℤ g -ℤ d *ℤ pos 1 ≡ pos 0 → a *ℤ neg_ℤ s +ℤ b *ℤ pos 0 +ℤ c *ℤ k -ℤ d *ℤ pos 1 ≡ pos 0 → (a *ℤ r +ℤ b *ℤ pos 0 +ℤ c *ℤ g -ℤ d *ℤ pos 1) ≤ℤ pos 0 → IsSlanted (neg_ℤ a) b c d r s g k
slant_left_back a b c d r s g k some x y far back =
    let a0 = times_none a in let b0 = times_none b in let one = times_one d in let ar = mul_neg_right a r in let na = mul_neg_left a r in
    record { some = some; first = omega (arith, sums, x, b0, one, ar, na); second = omega (arith, sums, y, a0, one); third = omega (arith, sums, far, b0, one, mul_neg_right a s, mul_neg_left a s); back = omega (arith, sums, back, b0, one, na) }

pub slant_left_front : (a b c d r s g k : ℤ) → pos 0 <ℤ r → a *ℤ neg_ℤ r +ℤ b *ℤ pos 0 +ℤ c *ℤ g -ℤ d *ℤ pos 1 ≡ pos 0 → a *ℤ pos 0 +ℤ b *ℤ neg_ℤ r +ℤ c *ℤ g -ℤ d *ℤ pos 1 ≡ pos 0 → a *ℤ neg_ℤ s +ℤ b *ℤ pos 0 +ℤ c *ℤ k -ℤ d *ℤ pos 1 ≡ pos 0 → (a *ℤ r +ℤ b *ℤ pos 0 +ℤ c *ℤ g -ℤ d *ℤ pos 1) ≤ℤ pos 0 → IsSlanted (neg_ℤ a) (neg_ℤ b) c d r s g k
slant_left_front a b c d r s g k some x y far back =
    let a0 = times_none a in let b0 = times_none b in let one = times_one d in let ar = mul_neg_right a r in let na = mul_neg_left a r in
    record { some = some; first = omega (arith, sums, x, b0, one, ar, na); second = omega (arith, sums, y, a0, one, mul_neg_right b r, mul_neg_left b r); third = omega (arith, sums, far, b0, one, mul_neg_right a s, mul_neg_left a s); back = omega (arith, sums, back, b0, one, na) }

pub slant_right_front : (a b c d r s g k : ℤ) → pos 0 <ℤ r → a *ℤ r +ℤ b *ℤ pos 0 +ℤ c *ℤ g -ℤ d *ℤ pos 1 ≡ pos 0 → a *ℤ pos 0 +ℤ b *ℤ neg_ℤ r +ℤ c *ℤ g -ℤ d *ℤ pos 1 ≡ pos 0 → a *ℤ s +ℤ b *ℤ pos 0 +ℤ c *ℤ k -ℤ d *ℤ pos 1 ≡ pos 0 → (a *ℤ neg_ℤ r +ℤ b *ℤ pos 0 +ℤ c *ℤ g -ℤ d *ℤ pos 1) ≤ℤ pos 0 → IsSlanted a (neg_ℤ b) c d r s g k
slant_right_front a b c d r s g k some x y far back =
    let a0 = times_none a in let b0 = times_none b in let one = times_one d in
    record { some = some; first = omega (arith, sums, x, b0, one); second = omega (arith, sums, y, a0, one, mul_neg_right b r, mul_neg_left b r); third = omega (arith, sums, far, b0, one); back = omega (arith, sums, back, b0, one, mul_neg_right a r) }

-- the value at a point, with the signs of the quarter
pub left_value : (a b x y s t : ℤ) → (a *ℤ x +ℤ b *ℤ y +ℤ s -ℤ t) <ℤ pos 0 → (neg_ℤ a *ℤ neg_ℤ x +ℤ b *ℤ y +ℤ s -ℤ t) <ℤ pos 0
left_value a b x y s t h = omega (arith, sums, h, mul_neg_left a (neg_ℤ x), mul_neg_right a x)

pub front_value : (a b x y s t : ℤ) → (a *ℤ x +ℤ b *ℤ y +ℤ s -ℤ t) <ℤ pos 0 → (a *ℤ x +ℤ neg_ℤ b *ℤ neg_ℤ y +ℤ s -ℤ t) <ℤ pos 0
front_value a b x y s t h = omega (arith, sums, h, mul_neg_left b (neg_ℤ y), mul_neg_right b y)

-- ---- the planes of the ends
pub level_end : (a b c d r g : ℤ) → pos 0 <ℤ r → a *ℤ r +ℤ b *ℤ pos 0 +ℤ c *ℤ g -ℤ d *ℤ pos 1 ≡ pos 0 → a *ℤ pos 0 +ℤ b *ℤ r +ℤ c *ℤ g -ℤ d *ℤ pos 1 ≡ pos 0 → a *ℤ neg_ℤ r +ℤ b *ℤ pos 0 +ℤ c *ℤ g -ℤ d *ℤ pos 1 ≡ pos 0 → IsAcross c a b d g
level_end a b c d r g some right back left =
    let a0 = times_none a in let b0 = times_none b in let one = times_one d in
    let none : r *ℤ a ≡ pos 0 = omega (arith, sums, right, left, mul_neg_right a r, mul_comm_ℤ r a) in
    let offset : d ≡ c *ℤ g = omega (arith, sums, right, b0, one, none, mul_comm_ℤ r a) in
    record { second = zero_cancel r a some none; third = zero_cancel r b some (omega (arith, sums, back, a0, one, offset, mul_comm_ℤ r b)); offset = offset }

corner_value : (a b c d g k u v : ℤ) → IsAcross c a b d g → a *ℤ u +ℤ b *ℤ v +ℤ c *ℤ k -ℤ d *ℤ pos 1 ≡ c *ℤ (k -ℤ g)
corner_value a b c d g k u v h = omega (arith, sums, at_corner c a b d g k u v h)

point_value : (a b c d g x y z w : ℤ) → IsAcross c a b d g → a *ℤ x +ℤ b *ℤ y +ℤ c *ℤ z -ℤ d *ℤ w ≡ c *ℤ (z -ℤ g *ℤ w)
point_value a b c d g x y z w h = omega (arith, sums, at_point c a b d g z x y w h)

-- a point behind the plane of an end is on the side of the other end
pub over_low : (a b c d g k u v x y z w : ℤ) → g <ℤ k → IsAcross c a b d g → (a *ℤ u +ℤ b *ℤ v +ℤ c *ℤ k -ℤ d *ℤ pos 1) ≤ℤ pos 0 → (a *ℤ x +ℤ b *ℤ y +ℤ c *ℤ z -ℤ d *ℤ w) <ℤ pos 0 → (g *ℤ w) <ℤ z
over_low a b c d g k u v x y z w lt h most below =
    let r = above_with c (k -ℤ g) (z -ℤ g *ℤ w) (most_by _ _ (corner_value a b c d g k u v h) most) (less_by _ _ (point_value a b c d g x y z w h) below) (omega (arith, sums, lt)) in
    omega (arith, sums, r)

pub under_high : (a b c d g k u v x y z w : ℤ) → k <ℤ g → IsAcross c a b d g → (a *ℤ u +ℤ b *ℤ v +ℤ c *ℤ k -ℤ d *ℤ pos 1) ≤ℤ pos 0 → (a *ℤ x +ℤ b *ℤ y +ℤ c *ℤ z -ℤ d *ℤ w) <ℤ pos 0 → z <ℤ (g *ℤ w)
under_high a b c d g k u v x y z w lt h most below =
    let r = below_with c (k -ℤ g) (z -ℤ g *ℤ w) (most_by _ _ (corner_value a b c d g k u v h) most) (less_by _ _ (point_value a b c d g x y z w h) below) (omega (arith, sums, lt)) in
    omega (arith, sums, r)

both_reaches : (k x y r : ℤ) → (k *ℤ (x +ℤ y)) <ℤ r → (k *ℤ (neg_ℤ x +ℤ neg_ℤ y)) <ℤ r → pos 0 <ℤ r
both_reaches k x y r h g =
    let e : neg_ℤ x +ℤ neg_ℤ y ≡ neg_ℤ (x +ℤ y) = omega (arith, sums) in
    omega (arith, sums, h, g, ap (λ (t : ℤ). k *ℤ t) e, mul_neg_right k (x +ℤ y))

-- between two opposite sides a point is on the open side of an apex
pub under_apex : (a l h k x y z w : ℤ) → pos 0 <ℤ a → (k *ℤ (x +ℤ y)) <ℤ reach_at a (pos 0) l h z w → (k *ℤ (neg_ℤ x +ℤ neg_ℤ y)) <ℤ reach_at a (pos 0) l h z w → z <ℤ (h *ℤ w)
under_apex a l h k x y z w some right left =
    let r = pos_cancel a (h *ℤ w -ℤ z) some (omega (arith, sums, both_reaches k x y (reach_at a (pos 0) l h z w) right left, zero_mul (z -ℤ l *ℤ w))) in
    omega (arith, sums, r)

pub over_apex : (b l h k x y z w : ℤ) → pos 0 <ℤ b → (k *ℤ (x +ℤ y)) <ℤ reach_at (pos 0) b l h z w → (k *ℤ (neg_ℤ x +ℤ neg_ℤ y)) <ℤ reach_at (pos 0) b l h z w → (l *ℤ w) <ℤ z
over_apex b l h k x y z w some right left =
    let r = pos_cancel b (z -ℤ l *ℤ w) some (omega (arith, sums, both_reaches k x y (reach_at (pos 0) b l h z w) right left, zero_mul (h *ℤ w -ℤ z))) in
    omega (arith, sums, r)

-- ---- the corners
pub right_bounded : (a b c d r g : ℤ) → (a *ℤ r +ℤ b *ℤ pos 0 +ℤ c *ℤ g -ℤ d *ℤ pos 1) ≤ℤ pos 0 → (a *ℤ r +ℤ (c *ℤ g -ℤ d)) ≤ℤ pos 0
right_bounded a b c d r g h = omega (arith, sums, h, times_none b, times_one d)

pub left_bounded : (a b c d r g : ℤ) → (a *ℤ neg_ℤ r +ℤ b *ℤ pos 0 +ℤ c *ℤ g -ℤ d *ℤ pos 1) ≤ℤ pos 0 → (neg_ℤ a *ℤ r +ℤ (c *ℤ g -ℤ d)) ≤ℤ pos 0
left_bounded a b c d r g h = omega (arith, sums, h, times_none b, times_one d, mul_neg_left a r, mul_neg_right a r)

pub back_bounded : (a b c d r g : ℤ) → (a *ℤ pos 0 +ℤ b *ℤ r +ℤ c *ℤ g -ℤ d *ℤ pos 1) ≤ℤ pos 0 → (b *ℤ r +ℤ (c *ℤ g -ℤ d)) ≤ℤ pos 0
back_bounded a b c d r g h = omega (arith, sums, h, times_none a, times_one d)

pub front_bounded : (a b c d r g : ℤ) → (a *ℤ pos 0 +ℤ b *ℤ neg_ℤ r +ℤ c *ℤ g -ℤ d *ℤ pos 1) ≤ℤ pos 0 → (neg_ℤ b *ℤ r +ℤ (c *ℤ g -ℤ d)) ≤ℤ pos 0
front_bounded a b c d r g h = omega (arith, sums, h, times_none a, times_one d, mul_neg_left b r, mul_neg_right b r)

-- ---- a plane that no corner is ahead of
-- a point strictly inside a frustum
pub record IsBeside (a b l h x y z w : ℤ) : Type 0 where
  pub low : (l *ℤ w) <ℤ z
  pub high : z <ℤ (h *ℤ w)
  pub right_back : ((h -ℤ l) *ℤ (x +ℤ y)) <ℤ reach_at a b l h z w
  pub left_back : ((h -ℤ l) *ℤ (neg_ℤ x +ℤ y)) <ℤ reach_at a b l h z w
  pub left_front : ((h -ℤ l) *ℤ (neg_ℤ x +ℤ neg_ℤ y)) <ℤ reach_at a b l h z w
  pub right_front : ((h -ℤ l) *ℤ (x +ℤ neg_ℤ y)) <ℤ reach_at a b l h z w

-- a number m of which both ends are bounded by a plane: their corners at that distance along one axis aren't ahead
pub record IsBounded (a b g k m : ℤ) : Type 0 where
  pub low : (m *ℤ a +ℤ g) ≤ℤ pos 0
  pub high : (m *ℤ b +ℤ k) ≤ℤ pos 0

record IsSizeOf (P : ℤ → Type 0) (n : ℤ) : Type 0 where
  size : ℤ
  holds : P size
  most : n ≤ℤ size
  least : neg_ℤ size ≤ℤ n

size_of : (P : ℤ → Type 0) (n : ℤ) → P n → P (neg_ℤ n) → IsSizeOf P n
size_of P n h k = elim (signs n) [
  | inl below ↦ record { size = neg_ℤ n; holds = k; most = omega (arith, sums, below); least = omega (arith, sums, below) }
  | inr (inl none) ↦ record { size = n; holds = h; most = omega (arith, sums, none); least = omega (arith, sums, none) }
  | inr (inr above) ↦ record { size = n; holds = h; most = omega (arith, sums, above); least = omega (arith, sums, above) }
]

record IsSizeOfBoth (P : ℤ → Type 0) (m n : ℤ) : Type 0 where
  first : IsSizeOf P m
  second : n ≤ℤ first.size
  third : neg_ℤ first.size ≤ℤ n

size_of_both : (P : ℤ → Type 0) (m n : ℤ) → P m → P (neg_ℤ m) → P n → P (neg_ℤ n) → IsSizeOfBoth P m n
size_of_both P m n hm km hn kn =
    let f = size_of P m hm km in
    let g = size_of P n hn kn in
    elim (signs (f.size -ℤ g.size)) [
      | inl below ↦ record { first = record { size = g.size; holds = g.holds; most = omega (arith, sums, below, f.most); least = omega (arith, sums, below, f.least) }; second = g.most; third = g.least }
      | inr (inl none) ↦ record { first = f; second = omega (arith, sums, none, g.most); third = omega (arith, sums, none, g.least) }
      | inr (inr above) ↦ record { first = f; second = omega (arith, sums, above, g.most); third = omega (arith, sums, above, g.least) }
    ]

-- a number within the size of m, times x, is at most m times x or minus x
at_most_either : (a m x : ℤ) → a ≤ℤ m → neg_ℤ m ≤ℤ a → ((a *ℤ x) ≤ℤ (m *ℤ x)) ⊎ ((a *ℤ x) ≤ℤ (m *ℤ neg_ℤ x))
at_most_either a m x h k = elim (signs x) [
  | inl below ↦ inr (omega (arith, sums, least_most (a +ℤ m) x (omega (arith, sums, k)) (omega (arith, sums, below)), mul_neg_right m x, ring (a ∷ m ∷ x ∷ []) (times (plus (var 0) (var 1)) (var 2)) (plus (times (var 0) (var 2)) (times (var 1) (var 2))) refl))
  | inr (inl none) ↦ inl (omega (arith, sums, least_least (m -ℤ a) x (omega (arith, sums, h)) (omega (arith, sums, none)), ring (a ∷ m ∷ x ∷ []) (times (minus (var 1) (var 0)) (var 2)) (minus (times (var 1) (var 2)) (times (var 0) (var 2))) refl))
  | inr (inr above) ↦ inl (omega (arith, sums, least_least (m -ℤ a) x (omega (arith, sums, h)) (omega (arith, sums, above)), ring (a ∷ m ∷ x ∷ []) (times (minus (var 1) (var 0)) (var 2)) (minus (times (var 1) (var 2)) (times (var 0) (var 2))) refl))
]

-- m is above 0, a x + b y at most m t, and k t below r: k times the sum is below m r
below_reach : (a b m x y t k r : ℤ) → pos 0 <ℤ m → pos 0 <ℤ k → (a *ℤ x +ℤ b *ℤ y) ≤ℤ (m *ℤ t) → (k *ℤ t) <ℤ r → (k *ℤ (a *ℤ x +ℤ b *ℤ y)) <ℤ (m *ℤ r)
below_reach a b m x y t k r hm hk h below =
    omega (
      arith,
      sums,
      least_least k (m *ℤ t -ℤ (a *ℤ x +ℤ b *ℤ y)) (omega (arith, sums, hk)) (omega (arith, sums, h)),
      pos_pos m (r -ℤ k *ℤ t) hm (omega (arith, sums, below)),
      less_parts k (m *ℤ t) (a *ℤ x +ℤ b *ℤ y),
      less_parts m r (k *ℤ t),
      ring (k ∷ m ∷ t ∷ []) (times (var 0) (times (var 1) (var 2))) (times (var 1) (times (var 0) (var 2))) refl,
    )

along : (a b m x y k r : ℤ) → pos 0 <ℤ m → pos 0 <ℤ k → a ≤ℤ m → neg_ℤ m ≤ℤ a → b ≤ℤ m → neg_ℤ m ≤ℤ b → (k *ℤ (x +ℤ y)) <ℤ r → (k *ℤ (neg_ℤ x +ℤ y)) <ℤ r → (k *ℤ (neg_ℤ x +ℤ neg_ℤ y)) <ℤ r → (k *ℤ (x +ℤ neg_ℤ y)) <ℤ r → (k *ℤ (a *ℤ x +ℤ b *ℤ y)) <ℤ (m *ℤ r)
along a b m x y k r hm hk ha la hb lb pp np nn pn =
    let parts = λ (s t : ℤ). ring (m ∷ s ∷ t ∷ []) (times (var 0) (plus (var 1) (var 2))) (plus (times (var 0) (var 1)) (times (var 0) (var 2))) refl in
    elim (at_most_either a m x ha la) [
      | inl right ↦ elim (at_most_either b m y hb lb) [
        | inl back ↦ below_reach a b m x y (x +ℤ y) k r hm hk (omega (arith, sums, right, back, parts x y)) pp
        | inr front ↦ below_reach a b m x y (x +ℤ neg_ℤ y) k r hm hk (omega (arith, sums, right, front, parts x (neg_ℤ y))) pn
      ]
      | inr left ↦ elim (at_most_either b m y hb lb) [
        | inl back ↦ below_reach a b m x y (neg_ℤ x +ℤ y) k r hm hk (omega (arith, sums, left, back, parts (neg_ℤ x) y)) np
        | inr front ↦ below_reach a b m x y (neg_ℤ x +ℤ neg_ℤ y) k r hm hk (omega (arith, sums, left, front, parts (neg_ℤ x) (neg_ℤ y))) nn
      ]
    ]

-- the value of a plane, times the height, by its values at both ends
pub by_ends : (a b c d l h x y z w : ℤ) → (h -ℤ l) *ℤ (a *ℤ x +ℤ b *ℤ y +ℤ c *ℤ z -ℤ d *ℤ w) ≡ (h -ℤ l) *ℤ (a *ℤ x +ℤ b *ℤ y) +ℤ (h *ℤ w -ℤ z) *ℤ (c *ℤ l -ℤ d) +ℤ (z -ℤ l *ℤ w) *ℤ (c *ℤ h -ℤ d)
by_ends a b c d l h x y z w =
    ring (a ∷ b ∷ c ∷ d ∷ l ∷ h ∷ x ∷ y ∷ z ∷ w ∷ [])
    (times (minus (var 5) (var 4)) (minus (plus (plus (times (var 0) (var 6)) (times (var 1) (var 7))) (times (var 2) (var 8))) (times (var 3) (var 9))))
    (plus (plus (times (minus (var 5) (var 4)) (plus (times (var 0) (var 6)) (times (var 1) (var 7)))) (times (minus (times (var 5) (var 9)) (var 8)) (minus (times (var 2) (var 4)) (var 3)))) (times (minus (var 8) (times (var 4) (var 9))) (minus (times (var 2) (var 5)) (var 3)))) refl

ends_parts : (m a b u v g k : ℤ) → m *ℤ (a *ℤ u +ℤ b *ℤ v) +ℤ u *ℤ g +ℤ v *ℤ k ≡ u *ℤ (m *ℤ a +ℤ g) +ℤ v *ℤ (m *ℤ b +ℤ k)
ends_parts m a b u v g k =
    ring (m ∷ a ∷ b ∷ u ∷ v ∷ g ∷ k ∷ [])
    (plus (plus (times (var 0) (plus (times (var 1) (var 3)) (times (var 2) (var 4)))) (times (var 3) (var 5))) (times (var 4) (var 6)))
    (plus (times (var 3) (plus (times (var 0) (var 1)) (var 5))) (times (var 4) (plus (times (var 0) (var 2)) (var 6)))) refl

-- the size of the direction across the axis is 0
no_size : (a b c d r s l h x y z w m : ℤ) → l <ℤ h → IsBeside r s l h x y z w → IsBounded r s (c *ℤ l -ℤ d) (c *ℤ h -ℤ d) m → a ≤ℤ m → neg_ℤ m ≤ℤ a → b ≤ℤ m → neg_ℤ m ≤ℤ b → pos 0 ≤ℤ (a *ℤ x +ℤ b *ℤ y +ℤ c *ℤ z -ℤ d *ℤ w) → m ≡ pos 0
no_size a b c d r s l h x y z w m lt p e ha la hb lb k = elim (signs m) [
  | inl below ↦ absurd (omega (arith, sums, below, ha, la))
  | inr (inl none) ↦ none
  | inr (inr above) ↦ absurd (
      let up : pos 0 <ℤ (h -ℤ l) = omega (arith, sums, lt) in
      let u = h *ℤ w -ℤ z in
      let v = z -ℤ l *ℤ w in
      omega (
        arith,
        sums,
        least_least (h -ℤ l) (a *ℤ x +ℤ b *ℤ y +ℤ c *ℤ z -ℤ d *ℤ w) (omega (arith, sums, up)) k,
        by_ends a b c d l h x y z w,
        along a b m x y (h -ℤ l) (reach_at r s l h z w) above up ha la hb lb p.right_back p.left_back p.left_front p.right_front,
        ends_parts m r s u v (c *ℤ l -ℤ d) (c *ℤ h -ℤ d),
        least_most u (m *ℤ r +ℤ (c *ℤ l -ℤ d)) (omega (arith, sums, p.high)) e.low,
        least_most v (m *ℤ s +ℤ (c *ℤ h -ℤ d)) (omega (arith, sums, p.low)) e.high,
      ))
]

-- u g + v k is at least 0, with u and v above 0, and g and k at most 0
no_first : (u v g k : ℤ) → pos 0 <ℤ u → pos 0 <ℤ v → g ≤ℤ pos 0 → k ≤ℤ pos 0 → pos 0 ≤ℤ (u *ℤ g +ℤ v *ℤ k) → g ≡ pos 0
no_first u v g k hu hv hg hk h = elim (signs g) [
  | inl below ↦ absurd (omega (arith, sums, pos_neg u g hu below, least_most v k (omega (arith, sums, hv)) hk, h))
  | inr (inl none) ↦ none
  | inr (inr above) ↦ absurd (omega (arith, sums, above, hg))
]

-- a plane that has a point inside on it or ahead, and no corner ahead, is none
pub bounds_nothing : (a b c d r s l h x y z w : ℤ) → l <ℤ h → IsBeside r s l h x y z w →
    IsBounded r s (c *ℤ l -ℤ d) (c *ℤ h -ℤ d) a → IsBounded r s (c *ℤ l -ℤ d) (c *ℤ h -ℤ d) (neg_ℤ a) → IsBounded r s (c *ℤ l -ℤ d) (c *ℤ h -ℤ d) b → IsBounded r s (c *ℤ l -ℤ d) (c *ℤ h -ℤ d) (neg_ℤ b) →
    pos 0 ≤ℤ (a *ℤ x +ℤ b *ℤ y +ℤ c *ℤ z -ℤ d *ℤ w) → IsNothing a b c d
bounds_nothing a b c d r s l h x y z w lt p right left back front k =
    let g = c *ℤ l -ℤ d in
    let f = c *ℤ h -ℤ d in
    let both = size_of_both (IsBounded r s g f) a b right left back front in
    let none = no_size a b c d r s l h x y z w both.first.size lt p both.first.holds both.first.most both.first.least both.second both.third k in
    let first : a ≡ pos 0 = omega (arith, sums, none, both.first.most, both.first.least) in
    let second : b ≡ pos 0 = omega (arith, sums, none, both.second, both.third) in
    let up : pos 0 <ℤ (h -ℤ l) = omega (arith, sums, lt) in
    let u = h *ℤ w -ℤ z in
    let v = z -ℤ l *ℤ w in
    let hu : pos 0 <ℤ u = omega (arith, sums, p.high) in
    let hv : pos 0 <ℤ v = omega (arith, sums, p.low) in
    let across = no_times a x first in
    let beyond = no_times b y second in
    let hg : g ≤ℤ pos 0 = omega (arith, sums, right.low, no_times a r first) in
    let hf : f ≤ℤ pos 0 = omega (arith, sums, right.high, no_times a s first) in
    let level : (h -ℤ l) *ℤ (a *ℤ x +ℤ b *ℤ y) ≡ pos 0 = (let e : a *ℤ x +ℤ b *ℤ y ≡ pos 0 = omega (arith, sums, across, beyond) in ap (λ (t : ℤ). (h -ℤ l) *ℤ t) e ∙ ring (h ∷ l ∷ []) (times (minus (var 0) (var 1)) (num (pos 0))) (num (pos 0)) refl) in
    let sum : pos 0 ≤ℤ (u *ℤ g +ℤ v *ℤ f) = omega (arith, sums, least_least (h -ℤ l) (a *ℤ x +ℤ b *ℤ y +ℤ c *ℤ z -ℤ d *ℤ w) (omega (arith, sums, up)) k, by_ends a b c d l h x y z w, level) in
    let low = no_first u v g f hu hv hg hf sum in
    let high = no_first v u f g hv hu hf hg (omega (arith, sums, sum)) in
    let third = no_slope c l h (pos 0 -ℤ d) lt (omega (arith, sums, low)) (omega (arith, sums, high)) in
    record { first = first; second = second; third = third; fourth = omega (arith, sums, low, no_times c l third) }
