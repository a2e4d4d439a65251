-- Planes that no point is ahead of, turned about what they hold until a further point is on them.
use Rattle.std.proofs.Common.{◌≡◌, ◌⊎◌, inl, inr, [], ◌∷◌, ◌<◌, refl, sym, ap, ◌∙◌, subst, arith, ℤ, pos, ◌-ℤ◌, ◌*ℤ◌, ◌<ℤ◌, ◌≤ℤ◌, ℕ, zero, suc}
use Rattle.std.proofs.lemmas.Bool.{cases_lt}
use Rattle.plane_predicate.specs.Space.{Coefficients, Coordinates, value, opposite_of}
use Rattle.plane_predicate.proofs.lemmas.IntegerRing.{sums, mul_comm_ℤ, zero_mul}
use Rattle.plane_predicate.proofs.lemmas.Polynomials.{var, num, plus, times, minus, ring}
use Rattle.plane_predicate.proofs.lemmas.Signs.{signs, pos_neg, least_least, least_most, most_least, least_cancel, most_most}
use Rattle.plane_predicate.proofs.lemmas.Vectors.{value-opposite}
use Rattle.scad_hull.proofs.lemmas.Alternative.{plane_less, value_plane_less}

pub last_or_below : (i n : ℕ) → i < suc n → (i < n) ⊎ (i ≡ n)
last_or_below i n h = elim (cases_lt i n) [ inl l ↦ inl l | inr g ↦ inr (omega (arith, h, g)) ]

-- ---- a least ratio
-- of the numbers below n at which g is above 0, one at which -f / g is least
pub record Nearest (f g : ℕ → ℤ) (n : ℕ) : Type 0 where
  pub k : ℕ
  pub k_in : k < n
  pub above : pos 0 <ℤ g k
  pub least : (i : ℕ) → i < n → pos 0 <ℤ g i → (f i *ℤ g k) ≤ℤ (f k *ℤ g i)

-- a d ≤ c b and c h < e d give a h ≤ e b
passed_on : (a b c d e h : ℤ) → pos 0 <ℤ b → pos 0 <ℤ d → pos 0 <ℤ h → (a *ℤ d) ≤ℤ (c *ℤ b) → (c *ℤ h) <ℤ (e *ℤ d) → (a *ℤ h) ≤ℤ (e *ℤ b)
passed_on a b c d e h hb hd hh first second =
    let same = ring (a ∷ b ∷ c ∷ d ∷ e ∷ h ∷ []) (times (var 3) (minus (times (var 4) (var 1)) (times (var 0) (var 5)))) (plus (times (var 1) (minus (times (var 4) (var 3)) (times (var 2) (var 5)))) (times (var 5) (minus (times (var 2) (var 1)) (times (var 0) (var 3))))) refl in
    let one = least_least b (e *ℤ d -ℤ c *ℤ h) (omega (arith, sums, hb)) (omega (arith, sums, second)) in
    let two = least_least h (c *ℤ b -ℤ a *ℤ d) (omega (arith, sums, hh)) (omega (arith, sums, first)) in
    let left : pos 0 ≤ℤ (e *ℤ b -ℤ a *ℤ h) = least_cancel d (e *ℤ b -ℤ a *ℤ h) hd (omega (arith, sums, same, one, two)) in
    omega (arith, sums, left)

most_itself : (x : ℤ) → x ≤ℤ x
most_itself x = omega (arith, sums)

most_or_more : (x y : ℤ) → (x ≤ℤ y) ⊎ (y <ℤ x)
most_or_more x y = elim (signs (x -ℤ y)) [ inl below ↦ inl (omega (arith, sums, below)) | inr other ↦ elim other [ inl none ↦ inl (omega (arith, sums, none)) | inr above ↦ inr (omega (arith, sums, above)) ] ]

not_above : (x : ℤ) → (x ≤ℤ pos 0) ⊎ (pos 0 <ℤ x)
not_above x = most_or_more x (pos 0)

pub both_signs : (x : ℤ) → x ≤ℤ pos 0 → pos 0 <ℤ x → ⊥
both_signs x h k = omega (arith, sums, h, k)

-- the first number with g above 0
begun : (f g : ℕ → ℤ) (n : ℕ) → ((i : ℕ) → i < n → g i ≤ℤ pos 0) → pos 0 <ℤ g n → Nearest f g (suc n)
begun f g n none above = record {
  k = n;
  k_in = omega arith;
  above = above;
  least = λ i lt h. elim (last_or_below i n lt) [
    | inl l ↦ absurd (both_signs (g i) (none i l) h)
    | inr e ↦ subst (λ (j : ℕ). (f j *ℤ g n) ≤ℤ (f n *ℤ g j)) (sym e) (most_itself (f n *ℤ g n))
  ];
}

-- a further number at which the ratio isn't less
kept : (f g : ℕ → ℤ) (n : ℕ) (r : Nearest f g n) → (pos 0 <ℤ g n → (f n *ℤ g r.k) ≤ℤ (f r.k *ℤ g n)) → Nearest f g (suc n)
kept f g n r last = record {
  k = r.k;
  k_in = omega (arith, r.k_in);
  above = r.above;
  least = λ i lt h. elim (last_or_below i n lt) [
    | inl l ↦ r.least i l h
    | inr e ↦ subst (λ (j : ℕ). pos 0 <ℤ g j → (f j *ℤ g r.k) ≤ℤ (f r.k *ℤ g j)) (sym e) last h
  ];
}

-- a further number at which the ratio is less
exchanged : (f g : ℕ → ℤ) (n : ℕ) (r : Nearest f g n) → pos 0 <ℤ g n → (f r.k *ℤ g n) <ℤ (f n *ℤ g r.k) → Nearest f g (suc n)
exchanged f g n r above less = record {
  k = n;
  k_in = omega arith;
  above = above;
  least = λ i lt h. elim (last_or_below i n lt) [
    | inl l ↦ passed_on (f i) (g i) (f r.k) (g r.k) (f n) (g n) h r.above above (r.least i l h) less
    | inr e ↦ subst (λ (j : ℕ). (f j *ℤ g n) ≤ℤ (f n *ℤ g j)) (sym e) (most_itself (f n *ℤ g n))
  ];
}

one_more : (f g : ℕ → ℤ) (n : ℕ) → ((i : ℕ) → i < n → g i ≤ℤ pos 0) ⊎ Nearest f g n → ((i : ℕ) → i < suc n → g i ≤ℤ pos 0) ⊎ Nearest f g (suc n)
one_more f g n (inl none) = elim (not_above (g n)) [
  | inl most ↦ inl (λ i lt. elim (last_or_below i n lt) [ inl l ↦ none i l | inr e ↦ subst (λ (j : ℕ). g j ≤ℤ pos 0) (sym e) most ])
  | inr above ↦ inr (begun f g n none above)
]
one_more f g n (inr r) = elim (not_above (g n)) [
  | inl most ↦ inr (kept f g n r (λ above. absurd (both_signs (g n) most above)))
  | inr above ↦ elim (most_or_more (f n *ℤ g r.k) (f r.k *ℤ g n)) [
    | inl most ↦ inr (kept f g n r (λ h. most))
    | inr less ↦ inr (exchanged f g n r above less)
  ]
]

pub nearest : (f g : ℕ → ℤ) (n : ℕ) → ((i : ℕ) → i < n → g i ≤ℤ pos 0) ⊎ Nearest f g n
nearest f g zero = inl (λ i lt. absurd (omega (arith, lt)))
nearest f g (suc n) = one_more f g n (nearest f g n)

-- ---- one turn
-- no point is ahead of the plane, some point is behind it, and q isn't
pub record Bounds (P : ℕ → Coordinates) (n : ℕ) (q : Coordinates) (x : Coefficients) : Type 0 where
  pub most : (i : ℕ) → i < n → value x (P i) ≤ℤ pos 0
  pub at : pos 0 ≤ℤ value x q
  pub far : ℕ
  pub far_in : far < n
  pub behind : value x (P far) <ℤ pos 0

-- a plane turned about the points that it has on m: a point off m has come to lie on it, or it holds the points of m
pub record Turned (P : ℕ → Coordinates) (n : ℕ) (q : Coordinates) (x m : Coefficients) : Type 0 where
  pub plane : Coefficients
  pub bounds : Bounds P n q plane
  pub keeps : (p : Coordinates) → value x p ≡ pos 0 → value m p ≡ pos 0 → value plane p ≡ pos 0
  pub more : ((k : ℕ) × (k < n) × (value plane (P k) ≡ pos 0) × (value m (P k) ≡ pos 0 → ⊥)) ⊎ ((p : Coordinates) → value m p ≡ pos 0 → value plane p ≡ pos 0)

difference_most : (x y u : ℤ) → u ≡ x -ℤ y → x ≤ℤ y → u ≤ℤ pos 0
difference_most x y u e h = omega (arith, sums, e, h)

most_product : (x y : ℤ) → x ≤ℤ pos 0 → y ≤ℤ pos 0 → pos 0 ≤ℤ (x *ℤ y)
most_product x y h k = most_most x y h k

-- at a point that isn't ahead of m
not_ahead : (mk xk xp mp : ℤ) → pos 0 <ℤ mk → xk ≤ℤ pos 0 → xp ≤ℤ pos 0 → (pos 0 <ℤ mp → (xp *ℤ mk) ≤ℤ (xk *ℤ mp)) → (mk *ℤ xp) ≤ℤ (xk *ℤ mp)
not_ahead mk xk xp mp above hk hp least = elim (not_above mp) [
  | inl most ↦ omega (arith, sums, least_most mk xp (omega (arith, sums, above)) hp, most_product xk mp hk most)
  | inr more ↦ omega (arith, sums, mul_comm_ℤ mk xp, least more)
]

zero_difference : (s t x y u : ℤ) → u ≡ s *ℤ x -ℤ t *ℤ y → x ≡ pos 0 → y ≡ pos 0 → u ≡ pos 0
zero_difference s t x y u e hx hy = omega (arith, sums, e, ap (λ (z : ℤ). s *ℤ z) hx, ap (λ (z : ℤ). t *ℤ z) hy, mul_comm_ℤ s (pos 0), mul_comm_ℤ t (pos 0), zero_mul s, zero_mul t)

at_itself : (s t u : ℤ) → u ≡ s *ℤ t -ℤ t *ℤ s → u ≡ pos 0
at_itself s t u e = e ∙ ring (s ∷ t ∷ []) (minus (times (var 0) (var 1)) (times (var 1) (var 0))) (num (pos 0)) refl

behind_still : (s t x y u : ℤ) → u ≡ s *ℤ x -ℤ t *ℤ y → pos 0 <ℤ s → x <ℤ pos 0 → y ≡ pos 0 → u <ℤ pos 0
behind_still s t x y u e hs hx hy = omega (arith, sums, e, pos_neg s x hs hx, ap (λ (z : ℤ). t *ℤ z) hy, mul_comm_ℤ t (pos 0), zero_mul t)

at_still : (s t x y u : ℤ) → u ≡ s *ℤ x -ℤ t *ℤ y → pos 0 <ℤ s → t ≤ℤ pos 0 → pos 0 ≤ℤ x → pos 0 ≤ℤ y → pos 0 ≤ℤ u
at_still s t x y u e hs ht hx hy = omega (arith, sums, e, least_least s x (omega (arith, sums, hs)) hx, most_least t y ht hy)

not_zero_above : (x : ℤ) → pos 0 <ℤ x → x ≡ pos 0 → ⊥
not_zero_above x h e = omega (arith, sums, h, e)

not_zero_most : (x : ℤ) → x ≤ℤ pos 0 → (x ≡ pos 0 → ⊥) → x <ℤ pos 0
not_zero_most x h n = elim (signs x) [ inl below ↦ below | inr other ↦ elim other [ inl none ↦ absurd (n none) | inr above ↦ absurd (both_signs x h above) ] ]

-- turned towards m as far as the points that are ahead of m allow
turned_to : (P : ℕ → Coordinates) (n : ℕ) (q : Coordinates) (x m : Coefficients) → Bounds P n q x → pos 0 ≤ℤ value m q → (r : ℕ) → r < n → value m (P r) ≡ pos 0 → value x (P r) <ℤ pos 0 →
    Nearest (λ (i : ℕ). value x (P i)) (λ (i : ℕ). value m (P i)) n → Turned P n q x m
turned_to P n q x m b side r r_in on behind k =
    let s = value m (P k.k) in
    let t = value x (P k.k) in
    let y : Coefficients = plane_less s x t m in
    let is : (p : Coordinates) → value y p ≡ s *ℤ value x p -ℤ t *ℤ value m p = value_plane_less s x t m in
    record {
      plane = y;
      bounds = record {
        most = λ i lt. difference_most _ _ _ (is (P i)) (not_ahead s t (value x (P i)) (value m (P i)) k.above (b.most k.k k.k_in) (b.most i lt) (k.least i lt));
        at = at_still s t (value x q) (value m q) (value y q) (is q) k.above (b.most k.k k.k_in) b.at side;
        far = r;
        far_in = r_in;
        behind = behind_still s t (value x (P r)) (value m (P r)) (value y (P r)) (is (P r)) k.above behind on;
      };
      keeps = λ p hx hm. zero_difference s t (value x p) (value m p) (value y p) (is p) hx hm;
      more = inl (k.k, k.k_in, at_itself s t (value y (P k.k)) (is (P k.k)), not_zero_above s k.above);
    }

-- no point is ahead of m
taken : (P : ℕ → Coordinates) (n : ℕ) (q : Coordinates) (x m : Coefficients) → pos 0 ≤ℤ value m q → ((i : ℕ) → i < n → value m (P i) ≤ℤ pos 0) → (s : ℕ) → s < n → (value m (P s) ≡ pos 0 → ⊥) → Turned P n q x m
taken P n q x m side most s s_in off = record {
  plane = m;
  bounds = record { most = most; at = side; far = s; far_in = s_in; behind = not_zero_most (value m (P s)) (most s s_in) off };
  keeps = λ p hx hm. hm;
  more = inr (λ p h. h);
}

by_side : (P : ℕ → Coordinates) (n : ℕ) (q : Coordinates) (x m : Coefficients) → Bounds P n q x → pos 0 ≤ℤ value m q → (r : ℕ) → r < n → value m (P r) ≡ pos 0 → value x (P r) <ℤ pos 0 → (s : ℕ) → s < n → (value m (P s) ≡ pos 0 → ⊥) → Turned P n q x m
by_side P n q x m b side r r_in on behind s s_in off = elim (nearest (λ (i : ℕ). value x (P i)) (λ (i : ℕ). value m (P i)) n) [
  | inl most ↦ taken P n q x m side most s s_in off
  | inr k ↦ turned_to P n q x m b side r r_in on behind k
]

opposite_zero : (m : Coefficients) (p : Coordinates) → value m p ≡ pos 0 → value (opposite_of m) p ≡ pos 0
opposite_zero m p h = omega (arith, sums, value-opposite m p, h)

zero_opposite : (m : Coefficients) (p : Coordinates) → value (opposite_of m) p ≡ pos 0 → value m p ≡ pos 0
zero_opposite m p h = omega (arith, sums, value-opposite m p, h)

from_opposite : (P : ℕ → Coordinates) (n : ℕ) (q : Coordinates) (x m : Coefficients) → Turned P n q x (opposite_of m) → Turned P n q x m
from_opposite P n q x m t = record {
  plane = t.plane;
  bounds = t.bounds;
  keeps = λ p hx hm. t.keeps p hx (opposite_zero m p hm);
  more = elim t.more [
    | inl k ↦ inl (k.0, k.1, k.2, λ h. k.3 (opposite_zero m (P k.0) h))
    | inr all ↦ inr (λ p h. all p (opposite_zero m p h))
  ];
}

-- one turn, about the points of a plane that has on it a point behind x, and not all points
pub turn : (P : ℕ → Coordinates) (n : ℕ) (q : Coordinates) (x m : Coefficients) → Bounds P n q x → (r : ℕ) → r < n → value m (P r) ≡ pos 0 → value x (P r) <ℤ pos 0 → (s : ℕ) → s < n → (value m (P s) ≡ pos 0 → ⊥) → Turned P n q x m
turn P n q x m b r r_in on behind s s_in off = elim (most_or_more (pos 0) (value m q)) [
  | inl side ↦ by_side P n q x m b side r r_in on behind s s_in off
  | inr other ↦ from_opposite P n q x m (by_side P n q x (opposite_of m) b (omega (arith, sums, value-opposite m q, other)) r r_in (opposite_zero m (P r) on) behind s s_in (λ h. off (zero_opposite m (P s) h)))
]
