-- Numbers of the axes of a box: the planes of its faces, and the planes that none of its corners is ahead of.
use Rattle.std.proofs.Common.{◌≡◌, ◌⊎◌, inl, inr, [], ◌∷◌, refl, ap, ◌∙◌, arith, ℤ, pos, ◌+ℤ◌, ◌-ℤ◌, ◌*ℤ◌, ◌<ℤ◌, ◌≤ℤ◌}
use Rattle.plane_predicate.proofs.lemmas.IntegerRing.{sums, zero_mul}
use Rattle.plane_predicate.proofs.lemmas.Polynomials.{var, num, plus, times, minus, ring}
use Rattle.plane_predicate.proofs.lemmas.Signs.{signs, pos_pos, neg_pos, neg_neg, least_most, most_most, least_least, zero_cancel}

-- ---- products
pub less_parts : (a x y : ℤ) → a *ℤ (x -ℤ y) ≡ a *ℤ x -ℤ a *ℤ y
less_parts a x y = ring (a ∷ x ∷ y ∷ []) (times (var 0) (minus (var 1) (var 2))) (minus (times (var 0) (var 1)) (times (var 0) (var 2))) refl

pub no_times : (k x : ℤ) → k ≡ pos 0 → k *ℤ x ≡ pos 0
no_times k x e = ap (λ (t : ℤ). t *ℤ x) e ∙ zero_mul x

-- where a s is at most 0 and a t is below 0, t has the sign of s
pub above_with : (a s t : ℤ) → (a *ℤ s) ≤ℤ pos 0 → (a *ℤ t) <ℤ pos 0 → pos 0 <ℤ s → pos 0 <ℤ t
above_with a s t h k above = elim (signs a) [
  | inr (inl none) ↦ absurd (omega (arith, sums, no_times a t none, k))
  | inr (inr over) ↦ absurd (omega (arith, sums, pos_pos a s over above, h))
  | inl below ↦ elim (signs t) [
    | inr (inr good) ↦ good
    | inr (inl none) ↦ absurd (omega (arith, sums, k, most_most a t (omega (arith, sums, below)) (omega (arith, sums, none))))
    | inl less ↦ absurd (omega (arith, sums, k, neg_neg a t below less))
  ]
]

pub below_with : (a s t : ℤ) → (a *ℤ s) ≤ℤ pos 0 → (a *ℤ t) <ℤ pos 0 → s <ℤ pos 0 → t <ℤ pos 0
below_with a s t h k below = elim (signs a) [
  | inr (inl none) ↦ absurd (omega (arith, sums, no_times a t none, k))
  | inl under ↦ absurd (omega (arith, sums, neg_neg a s under below, h))
  | inr (inr over) ↦ elim (signs t) [
    | inl good ↦ good
    | inr (inl none) ↦ absurd (omega (arith, sums, k, least_least a t (omega (arith, sums, over)) (omega (arith, sums, none))))
    | inr (inr more) ↦ absurd (omega (arith, sums, k, pos_pos a t over more))
  ]
]

-- ---- the plane of a face across the first axis
-- a plane that holds three corners of a face across the first axis
pub record IsAcross (a b c d : ℤ) (at : ℤ) : Type 0 where
  pub second : b ≡ pos 0
  pub third : c ≡ pos 0
  pub offset : d ≡ a *ℤ at

-- a line that is 0 at two numbers is level
pub no_slope : (c l h s : ℤ) → l <ℤ h → s +ℤ c *ℤ l ≡ pos 0 → s +ℤ c *ℤ h ≡ pos 0 → c ≡ pos 0
no_slope c l h s lt e f = zero_cancel (h -ℤ l) c (omega (arith, sums, lt)) (omega (arith, sums, e, f, ring (c ∷ l ∷ h ∷ []) (times (minus (var 2) (var 1)) (var 0)) (minus (times (var 0) (var 2)) (times (var 0) (var 1))) refl))

pub times_one : (d : ℤ) → d *ℤ pos 1 ≡ d
times_one d = ring (d ∷ []) (times (var 0) (num (pos 1))) (var 0) refl

across : (a b c d at y z u v : ℤ) → y <ℤ u → z <ℤ v → a *ℤ at +ℤ b *ℤ y +ℤ c *ℤ z -ℤ d *ℤ pos 1 ≡ pos 0 → a *ℤ at +ℤ b *ℤ u +ℤ c *ℤ z -ℤ d *ℤ pos 1 ≡ pos 0 → a *ℤ at +ℤ b *ℤ y +ℤ c *ℤ v -ℤ d *ℤ pos 1 ≡ pos 0 → IsAcross a b c d at
across a b c d at y z u v hy hz first second third =
    let none = no_slope b y u (a *ℤ at +ℤ c *ℤ z -ℤ d *ℤ pos 1) hy (omega (arith, sums, first)) (omega (arith, sums, second)) in
    let nor = no_slope c z v (a *ℤ at +ℤ b *ℤ y -ℤ d *ℤ pos 1) hz (omega (arith, sums, first)) (omega (arith, sums, third)) in
    record { second = none; third = nor; offset = omega (arith, sums, first, no_times b y none, no_times c z nor, times_one d) }

pub at_corner : (a b c d at x y z : ℤ) → IsAcross a b c d at → a *ℤ x +ℤ b *ℤ y +ℤ c *ℤ z -ℤ d *ℤ pos 1 ≡ a *ℤ (x -ℤ at)
at_corner a b c d at x y z h = omega (arith, sums, no_times b y h.second, no_times c z h.third, times_one d, h.offset, less_parts a x at)

pub at_point : (a b c d at x y z w : ℤ) → IsAcross a b c d at → a *ℤ x +ℤ b *ℤ y +ℤ c *ℤ z -ℤ d *ℤ w ≡ a *ℤ (x -ℤ at *ℤ w)
at_point a b c d at x y z w h =
    omega (
      arith,
      sums,
      no_times b y h.second,
      no_times c z h.third,
      ap (λ (t : ℤ). t *ℤ w) h.offset,
      ring (a ∷ x ∷ at ∷ w ∷ []) (times (var 0) (minus (var 1) (times (var 2) (var 3)))) (minus (times (var 0) (var 1)) (times (times (var 0) (var 2)) (var 3))) refl,
    )

pub most_by : (x y : ℤ) → y ≡ x → y ≤ℤ pos 0 → x ≤ℤ pos 0
most_by x y e h = omega (arith, sums, e, h)

pub less_by : (x y : ℤ) → y ≡ x → y <ℤ pos 0 → x <ℤ pos 0
less_by x y e h = omega (arith, sums, e, h)

-- the plane of the low face: a point behind it is on the side of the far corner
pub past_low : (a b c d at far y z u v x s t w : ℤ) → at <ℤ far → y <ℤ u → z <ℤ v → a *ℤ at +ℤ b *ℤ y +ℤ c *ℤ z -ℤ d *ℤ pos 1 ≡ pos 0 → a *ℤ at +ℤ b *ℤ u +ℤ c *ℤ z -ℤ d *ℤ pos 1 ≡ pos 0 → a *ℤ at +ℤ b *ℤ y +ℤ c *ℤ v -ℤ d *ℤ pos 1 ≡ pos 0 →
    (a *ℤ far +ℤ b *ℤ y +ℤ c *ℤ z -ℤ d *ℤ pos 1) ≤ℤ pos 0 → (a *ℤ x +ℤ b *ℤ s +ℤ c *ℤ t -ℤ d *ℤ w) <ℤ pos 0 → (at *ℤ w) <ℤ x
past_low a b c d at far y z u v x s t w lt hy hz first second third most below =
    let h = across a b c d at y z u v hy hz first second third in
    let r = above_with a (far -ℤ at) (x -ℤ at *ℤ w) (most_by _ _ (at_corner a b c d at far y z h) most) (less_by _ _ (at_point a b c d at x s t w h) below) (omega (arith, sums, lt)) in
    omega (arith, sums, r)

pub past_high : (a b c d at far y z u v x s t w : ℤ) → far <ℤ at → y <ℤ u → z <ℤ v → a *ℤ at +ℤ b *ℤ y +ℤ c *ℤ z -ℤ d *ℤ pos 1 ≡ pos 0 → a *ℤ at +ℤ b *ℤ u +ℤ c *ℤ z -ℤ d *ℤ pos 1 ≡ pos 0 → a *ℤ at +ℤ b *ℤ y +ℤ c *ℤ v -ℤ d *ℤ pos 1 ≡ pos 0 →
    (a *ℤ far +ℤ b *ℤ y +ℤ c *ℤ z -ℤ d *ℤ pos 1) ≤ℤ pos 0 → (a *ℤ x +ℤ b *ℤ s +ℤ c *ℤ t -ℤ d *ℤ w) <ℤ pos 0 → x <ℤ (at *ℤ w)
past_high a b c d at far y z u v x s t w lt hy hz first second third most below =
    let h = across a b c d at y z u v hy hz first second third in
    let r = below_with a (far -ℤ at) (x -ℤ at *ℤ w) (most_by _ _ (at_corner a b c d at far y z h) most) (less_by _ _ (at_point a b c d at x s t w h) below) (omega (arith, sums, lt)) in
    omega (arith, sums, r)

-- ---- a plane that no corner is ahead of
-- between two numbers that are at most 0, on a line that isn't level, all are below 0
pub within : (a r low high x : ℤ) → low <ℤ x → x <ℤ high → (a *ℤ low +ℤ r) ≤ℤ pos 0 → (a *ℤ high +ℤ r) ≤ℤ pos 0 → ((a *ℤ x +ℤ r) <ℤ pos 0) ⊎ (a ≡ pos 0)
within a r low high x hl hh kl kh = elim (signs a) [
  | inr (inl none) ↦ inr none
  | inl below ↦ inl (omega (arith, sums, kl, less_parts a x low, neg_pos a (x -ℤ low) below (omega (arith, sums, hl))))
  | inr (inr above) ↦ inl (omega (arith, sums, kh, less_parts a high x, pos_pos a (high -ℤ x) above (omega (arith, sums, hh))))
]

most_within : (a r low x : ℤ) → (a *ℤ low +ℤ r) ≤ℤ pos 0 → ((a *ℤ x +ℤ r) <ℤ pos 0) ⊎ (a ≡ pos 0) → (a *ℤ x +ℤ r) ≤ℤ pos 0
most_within a r low x h (inl below) = omega (arith, sums, below)
most_within a r low x h (inr none) = omega (arith, sums, h, no_times a low none, no_times a x none)

pub between : (a r low high x : ℤ) → low <ℤ x → x <ℤ high → (a *ℤ low +ℤ r) ≤ℤ pos 0 → (a *ℤ high +ℤ r) ≤ℤ pos 0 → (a *ℤ x +ℤ r) ≤ℤ pos 0
between a r low high x hl hh kl kh = most_within a r low x kl (within a r low high x hl hh kl kh)

level_by : (a x : ℤ) → ((x <ℤ pos 0) ⊎ (a ≡ pos 0)) → pos 0 ≤ℤ x → a ≡ pos 0
level_by a x (inl below) h = absurd (omega (arith, sums, below, h))
level_by a x (inr none) h = none

pub level : (a r low high x : ℤ) → low <ℤ x → x <ℤ high → (a *ℤ low +ℤ r) ≤ℤ pos 0 → (a *ℤ high +ℤ r) ≤ℤ pos 0 → pos 0 ≤ℤ (a *ℤ x +ℤ r) → a ≡ pos 0
level a r low high x hl hh kl kh k = level_by a (a *ℤ x +ℤ r) (within a r low high x hl hh kl kh) k

-- a corner, counted as a point of weight w
abbrev pub sum_at : ℤ → ℤ → ℤ → ℤ → ℤ → ℤ → ℤ → ℤ → ℤ
sum_at a b c d x y z w = a *ℤ x +ℤ (b *ℤ y +ℤ (c *ℤ z -ℤ d *ℤ w))

pub scaled : (a b c d x y z w : ℤ) → pos 0 <ℤ w → (a *ℤ x +ℤ b *ℤ y +ℤ c *ℤ z -ℤ d *ℤ pos 1) ≤ℤ pos 0 → sum_at a b c d (x *ℤ w) (y *ℤ w) (z *ℤ w) w ≤ℤ pos 0
scaled a b c d x y z w above h =
    most_by _ _
    (ring (a ∷ b ∷ c ∷ d ∷ x ∷ y ∷ z ∷ w ∷ [])
    (times (var 7) (minus (plus (plus (times (var 0) (var 4)) (times (var 1) (var 5))) (times (var 2) (var 6))) (times (var 3) (num (pos 1)))))
    (plus (times (var 0) (times (var 4) (var 7))) (plus (times (var 1) (times (var 5) (var 7))) (minus (times (var 2) (times (var 6) (var 7))) (times (var 3) (var 7))))) refl)
    (least_most w (a *ℤ x +ℤ b *ℤ y +ℤ c *ℤ z -ℤ d *ℤ pos 1) (omega (arith, sums, above)) h)

-- a plane that no corner of a box is ahead of, counted as points of one weight
pub record BoundsCorners (a b c d : ℤ) (xl xh yl yh zl zh w : ℤ) : Type 0 where
  pub lll : sum_at a b c d xl yl zl w ≤ℤ pos 0
  pub hll : sum_at a b c d xh yl zl w ≤ℤ pos 0
  pub lhl : sum_at a b c d xl yh zl w ≤ℤ pos 0
  pub hhl : sum_at a b c d xh yh zl w ≤ℤ pos 0
  pub llh : sum_at a b c d xl yl zh w ≤ℤ pos 0
  pub hlh : sum_at a b c d xh yl zh w ≤ℤ pos 0
  pub lhh : sum_at a b c d xl yh zh w ≤ℤ pos 0
  pub hhh : sum_at a b c d xh yh zh w ≤ℤ pos 0

-- a point strictly between the ends on all axes
pub record IsWithin (xl xh yl yh zl zh x y z : ℤ) : Type 0 where
  pub x_low : xl <ℤ x
  pub x_high : x <ℤ xh
  pub y_low : yl <ℤ y
  pub y_high : y <ℤ yh
  pub z_low : zl <ℤ z
  pub z_high : z <ℤ zh

-- all numbers of a plane are 0
pub record IsNothing (a b c d : ℤ) : Type 0 where
  pub first : a ≡ pos 0
  pub second : b ≡ pos 0
  pub third : c ≡ pos 0
  pub fourth : d ≡ pos 0

pub nothing_at : (a b c d x y z w : ℤ) → IsNothing a b c d → a *ℤ x +ℤ b *ℤ y +ℤ c *ℤ z -ℤ d *ℤ w ≡ pos 0
nothing_at a b c d x y z w h = omega (arith, sums, no_times a x h.first, no_times b y h.second, no_times c z h.third, no_times d w h.fourth)

no_offset : (d w : ℤ) → pos 0 <ℤ w → (pos 0 -ℤ d *ℤ w) ≡ pos 0 → d ≡ pos 0
no_offset d w above e = zero_cancel w d above (omega (arith, sums, e, ring (d ∷ w ∷ []) (times (var 1) (var 0)) (times (var 0) (var 1)) refl))

-- a plane that has a point inside on it or ahead, and no corner ahead, is none
pub bounds_nothing : (a b c d xl xh yl yh zl zh x y z w : ℤ) → pos 0 <ℤ w → BoundsCorners a b c d xl xh yl yh zl zh w → IsWithin xl xh yl yh zl zh x y z → pos 0 ≤ℤ sum_at a b c d x y z w → IsNothing a b c d
bounds_nothing a b c d xl xh yl yh zl zh x y z w above h p k =
    let ll = between a _ xl xh x p.x_low p.x_high h.lll h.hll in
    let hl = between a _ xl xh x p.x_low p.x_high h.lhl h.hhl in
    let lh = between a _ xl xh x p.x_low p.x_high h.llh h.hlh in
    let hh = between a _ xl xh x p.x_low p.x_high h.lhh h.hhh in
    let rl = a *ℤ x +ℤ (c *ℤ zl -ℤ d *ℤ w) in
    let rh = a *ℤ x +ℤ (c *ℤ zh -ℤ d *ℤ w) in
    let low = between b rl yl yh y p.y_low p.y_high (omega (arith, sums, ll)) (omega (arith, sums, hl)) in
    let high = between b rh yl yh y p.y_low p.y_high (omega (arith, sums, lh)) (omega (arith, sums, hh)) in
    let third = level c (a *ℤ x +ℤ b *ℤ y -ℤ d *ℤ w) zl zh z p.z_low p.z_high (omega (arith, sums, low)) (omega (arith, sums, high)) (omega (arith, sums, k)) in
    let at_z = no_times c z third in
    let at_low = no_times c zl third in
    let second = level b rl yl yh y p.y_low p.y_high (omega (arith, sums, ll)) (omega (arith, sums, hl)) (omega (arith, sums, k, at_z, at_low)) in
    let at_y = no_times b y second in
    let at_yl = no_times b yl second in
    let first = level a (b *ℤ yl +ℤ (c *ℤ zl -ℤ d *ℤ w)) xl xh x p.x_low p.x_high h.lll h.hll (omega (arith, sums, k, at_z, at_low, at_y, at_yl)) in
    let at_x = no_times a x first in
    let at_xl = no_times a xl first in
    record { first = first; second = second; third = third; fourth = no_offset d w above (omega (arith, sums, k, at_x, at_y, at_z, h.lll, at_xl, at_yl, at_low)) }
