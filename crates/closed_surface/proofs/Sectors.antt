-- What a value falls by at the half planes of a sector is what it falls by from the one bound of the sector to the other.
use Rattle.std.proofs.Common.{◌≡◌, ◌≢◌, inl, inr, Bool, true, false, not, ◌&&◌, if◌then◌else◌, List, [], ◌∷◌, map, refl, sym, ap, ap₂, ◌∙◌, true≢false, arith, ℤ, pos, neg_ℤ, ◌+ℤ◌, ◌-ℤ◌, ◌*ℤ◌, ◌<ℤ◌, ◌≤ℤ◌, int_lt}
use Rattle.std.specs.Ordering.{int_eq}
use Rattle.std.proofs.lemmas.Bool.{and_parts}
use Rattle.std.proofs.lemmas.Bool.Decides.{Decides-int_eq}
use Rattle.plane_predicate.specs.Space.{Coefficients, opposite_of, is_same}
use Rattle.plane_predicate.proofs.lemmas.IntegerRing.{sums, mul_comm_ℤ}
use Rattle.plane_predicate.proofs.lemmas.Signs.{signs, pos_pos, pos_neg, neg_pos, least_least, least_most, pos_cancel}
use Rattle.closed_surface.specs.Ways.{Direction}
use Rattle.closed_surface.specs.Around.{triple_product_of, IsParallelToNone, HaveNoParallels, sides_at, fall_at, fall}
use Rattle.closed_surface.proofs.lemmas.Each.{Each, total_same, total_sum}
use Rattle.closed_surface.proofs.lemmas.Numbers.{below, not_below, below_back, false_by, at_most, at_least, zero_at_most, zero_at_least, negative_above, negative_below, negative_apart, negative_zero}
use Rattle.closed_surface.proofs.Turns.{turn_exchanged, turn_itself, four_turns, turn_opposite, opposite_turn}
use Rattle.plane_predicate.specs.Sums.{sum_over}

-- ---- tests of numbers
negative_back : (x y : ℤ) → y ≡ neg_ℤ x → y ≡ pos 0 → x ≡ pos 0
negative_back x y e h = omega (arith, sums)

twice_above : (x y z : ℤ) → x ≡ neg_ℤ y → z ≡ neg_ℤ y → pos 0 <ℤ x → pos 0 <ℤ z
twice_above x y z e k h = omega (arith, sums)

twice_below : (x y z : ℤ) → x ≡ neg_ℤ y → z ≡ neg_ℤ y → x <ℤ pos 0 → z <ℤ pos 0
twice_below x y z e k h = omega (arith, sums)

same_out : (x : ℤ) → pos 0 ≡ x -ℤ x
same_out x = omega (arith, sums)

both : (a b c d : Bool) → a ≡ c → b ≡ d → (a && b) ≡ (c && d)
both a b c d h k = ap₂ (λ (x y : Bool). x && y) h k

never : (a b : Bool) → b ≡ false → (a && b) ≡ false
never true b h = h
never false b h = refl

-- ---- where a ray lies in the two parts of a sector. x and y are the turns from the first bound and to the second, u and v
-- those of the ray that parts it, t that of the bounds, and z that from the ray to the parting one
before : (x y u v t z : ℤ) → pos 0 <ℤ u → pos 0 <ℤ v → pos 0 ≤ℤ t → x *ℤ v -ℤ u *ℤ y +ℤ t *ℤ z ≡ pos 0 → pos 0 <ℤ z → pos 0 <ℤ x → pos 0 <ℤ y
before x y u v t z hu hv ht e hz hx = pos_cancel u y hu (omega (arith, sums, pos_pos x v hx hv, least_least t z ht (at_least z hz)))

beyond : (x y u v t z : ℤ) → pos 0 <ℤ u → pos 0 <ℤ v → pos 0 ≤ℤ t → x *ℤ v -ℤ u *ℤ y +ℤ t *ℤ z ≡ pos 0 → z <ℤ pos 0 → pos 0 <ℤ y → pos 0 <ℤ x
beyond x y u v t z hu hv ht e hz hy = pos_cancel v x hv (omega (arith, sums, mul_comm_ℤ v x, pos_pos u y hu hy, least_most t z ht (at_most z hz)))

-- a plane that both bounds are on one side of has the rays between them on it too
first_ahead : (x y u v t z : ℤ) → pos 0 <ℤ x → pos 0 <ℤ y → pos 0 <ℤ u → v <ℤ pos 0 → pos 0 ≤ℤ t → x *ℤ v -ℤ u *ℤ y +ℤ t *ℤ z ≡ pos 0 → pos 0 <ℤ z
first_ahead x y u v t z hx hy hu hv ht e = elim (signs z) [
  | inl k ↦ absurd (omega (arith, sums, pos_pos u y hu hy, pos_neg x v hx hv, least_most t z ht (at_most z k)))
  | inr (inl k) ↦ absurd (omega (arith, sums, pos_pos u y hu hy, pos_neg x v hx hv, least_most t z ht (zero_at_most z k)))
  | inr (inr k) ↦ k
]

first_behind : (x y u v t z : ℤ) → pos 0 <ℤ x → pos 0 <ℤ y → u <ℤ pos 0 → pos 0 <ℤ v → pos 0 ≤ℤ t → x *ℤ v -ℤ u *ℤ y +ℤ t *ℤ z ≡ pos 0 → z <ℤ pos 0
first_behind x y u v t z hx hy hu hv ht e = elim (signs z) [
  | inl k ↦ k
  | inr (inl k) ↦ absurd (omega (arith, sums, neg_pos u y hu hy, pos_pos x v hx hv, least_least t z ht (zero_at_least z k)))
  | inr (inr k) ↦ absurd (omega (arith, sums, neg_pos u y hu hy, pos_pos x v hx hv, least_least t z ht (at_least z k)))
]

tests_before : (x y z : ℤ) → pos 0 <ℤ z → (pos 0 <ℤ x → pos 0 <ℤ y) → (int_lt (pos 0) x && int_lt (pos 0) y) ≡ (int_lt (pos 0) x && int_lt (pos 0) z)
tests_before x y z hz h = elim (signs x) [
  | inl k ↦ both _ _ _ _ (not_below (pos 0) x (at_most x k)) refl ∙ sym (both _ _ _ _ (not_below (pos 0) x (at_most x k)) refl)
  | inr (inl k) ↦ both _ _ _ _ (not_below (pos 0) x (zero_at_most x k)) refl ∙ sym (both _ _ _ _ (not_below (pos 0) x (zero_at_most x k)) refl)
  | inr (inr k) ↦ both _ _ _ _ refl (below (pos 0) y (h k) ∙ sym (below (pos 0) z hz))
]

tests_beyond : (x y w : ℤ) → pos 0 <ℤ w → (pos 0 <ℤ y → pos 0 <ℤ x) → (int_lt (pos 0) x && int_lt (pos 0) y) ≡ (int_lt (pos 0) w && int_lt (pos 0) y)
tests_beyond x y w hw h = elim (signs y) [
  | inl k ↦ never _ _ (not_below (pos 0) y (at_most y k)) ∙ sym (never _ _ (not_below (pos 0) y (at_most y k)))
  | inr (inl k) ↦ never _ _ (not_below (pos 0) y (zero_at_most y k)) ∙ sym (never _ _ (not_below (pos 0) y (zero_at_most y k)))
  | inr (inr k) ↦ both _ _ _ _ (below (pos 0) x (h k) ∙ sym (below (pos 0) w hw)) refl
]

-- ---- sums
abbrev gate : Bool → ℤ → ℤ
gate true x = x
gate false x = pos 0

-- ---- planes that are apart are not the same
pub same_plane : (m n : Coefficients) → is_same m n ≡ true → m ≡ n
same_plane m n h =
    let x = and_parts (int_eq m.a n.a) (int_eq m.b n.b && (int_eq m.c n.c && int_eq m.d n.d)) h in
    let y = and_parts (int_eq m.b n.b) (int_eq m.c n.c && int_eq m.d n.d) x.1 in
    let z = and_parts (int_eq m.c n.c) (int_eq m.d n.d) y.1 in
    let a = (Decides-int_eq m.a n.a).0 x.0 in
    let b = (Decides-int_eq m.b n.b).0 y.0 in
    let c = (Decides-int_eq m.c n.c).0 z.0 in
    let d = (Decides-int_eq m.d n.d).0 z.1 in
    λ i. record { a = a i; b = b i; c = c i; d = d i }

int_itself : (x : ℤ) → int_eq x x ≡ true
int_itself x = (Decides-int_eq x x).1 refl

pub same_itself : (m : Coefficients) → is_same m m ≡ true
same_itself m = rw (int_itself m.a, int_itself m.b, int_itself m.c, int_itself m.d) refl

module _ (d : Direction) where
  apart_sames : (n m : Coefficients) → triple_product_of d n m ≢ pos 0 → (is_same n m ≡ false) × (is_same m n ≡ false)
  apart_sames n m h = (
    false_by (is_same n m) (λ e. h (ap (λ (k : Coefficients). triple_product_of d n k) (sym (same_plane n m e)) ∙ turn_itself d n)),
    false_by (is_same m n) (λ e. h (ap (λ (k : Coefficients). triple_product_of d n k) (same_plane m n e) ∙ turn_itself d n)),
  )

  apart_all : (n : Coefficients) (ms : List Coefficients) → IsParallelToNone d n ms → Each (λ m. triple_product_of d n m ≢ pos 0) ms
  apart_all n [] h = tt
  apart_all n (m ∷ ms) h = (h.0, apart_all n ms h.1)

  apart_opposite : (n : Coefficients) (ms : List Coefficients) → IsParallelToNone d n ms → IsParallelToNone d (opposite_of n) ms
  apart_opposite n [] h = tt
  apart_opposite n (m ∷ ms) h = (negative_apart _ _ (opposite_turn d n m) h.0, apart_opposite n ms h.1)

  -- the sides of a ray that is on none of the planes
  abbrev ray_sides : List Coefficients → Coefficients → List Bool
  ray_sides ms r = map (λ m. int_lt (triple_product_of d m r) (pos 0)) ms

  -- the ray lies strictly between the bounds
  abbrev inside : Coefficients → Coefficients → Coefficients → Bool
  inside a b r = int_lt (pos 0) (triple_product_of d a r) && int_lt (pos 0) (triple_product_of d r b)

  chosen : (c : Bool) (x y z : Bool) → c ≡ false → y ≡ z → (if c then x else y) ≡ z
  chosen true x y z e h = absurd (true≢false e)
  chosen false x y z e h = h

  chosen_itself : (c : Bool) (x y : Bool) → c ≡ true → (if c then x else y) ≡ x
  chosen_itself true x y e = refl
  chosen_itself false x y e = absurd (true≢false (sym e))

  -- at a half of n the other planes have the sides of the ray
  own_tail : (n r : Coefficients) (b : Bool) (ms : List Coefficients) → IsParallelToNone d n ms → sides_at d ms n r b ≡ ray_sides ms r
  own_tail n r b [] h = refl
  own_tail n r b (m ∷ ms) h = ap₂ (λ (x : Bool) (xs : List Bool). x ∷ xs) (chosen (is_same m n) b (int_lt (triple_product_of d m r) (pos 0)) _ (apart_sames n m h.0).1 refl) (own_tail n r b ms h.1)

  own_sides : (n r : Coefficients) (b : Bool) (ms : List Coefficients) → IsParallelToNone d n ms → sides_at d (n ∷ ms) n r b ≡ b ∷ ray_sides ms r
  own_sides n r b ms h = ap₂ (λ (x : Bool) (xs : List Bool). x ∷ xs) (chosen_itself (is_same n n) b (int_lt (triple_product_of d n r) (pos 0)) (same_itself n)) (own_tail n r b ms h)

  -- at a half of another plane, n has the side c
  other_sides : (n m r : Coefficients) (c b : Bool) (ms : List Coefficients) → triple_product_of d n m ≢ pos 0 → int_lt (triple_product_of d n r) (pos 0) ≡ c → sides_at d (n ∷ ms) m r b ≡ c ∷ sides_at d ms m r b
  other_sides n m r c b ms h e = ap (λ (x : Bool). x ∷ sides_at d ms m r b) (chosen (is_same n m) b (int_lt (triple_product_of d n r) (pos 0)) c (apart_sames n m h).0 e)

  other_fall : (n m r : Coefficients) (c b : Bool) (ms : List Coefficients) (f : List Bool → ℤ) → triple_product_of d n m ≢ pos 0 → int_lt (triple_product_of d n r) (pos 0) ≡ c →
      fall_at d (n ∷ ms) f m r b ≡ fall_at d ms (λ s. f (c ∷ s)) m r b
  other_fall n m r c b ms f h e = ap₂ (λ (s t : List Bool). f s -ℤ f t) (other_sides n m r c b ms h e) (other_sides n m r c (not b) ms h e)

  own_fall : (n r : Coefficients) (b : Bool) (ms : List Coefficients) (f : List Bool → ℤ) → IsParallelToNone d n ms → fall_at d (n ∷ ms) f n r b ≡ f (b ∷ ray_sides ms r) -ℤ f (not b ∷ ray_sides ms r)
  own_fall n r b ms f h = ap₂ (λ (s t : List Bool). f s -ℤ f t) (own_sides n r b ms h) (own_sides n r (not b) ms h)

  -- ---- what falls within a sector
  abbrev part : Coefficients → Coefficients → List Coefficients → (List Bool → ℤ) → Coefficients → ℤ
  part a b ms f m = gate (inside a b m) (fall_at d ms f m m true) +ℤ gate (inside a b (opposite_of m)) (fall_at d ms f m (opposite_of m) false)

  gate_false : (x : Bool) (u : ℤ) → x ≡ false → gate x u ≡ pos 0
  gate_false x u e = ap (λ (b : Bool). gate b u) e

  gate_same : (x : Bool) (u v : ℤ) → (x ≡ true → u ≡ v) → gate x u ≡ gate x v
  gate_same true u v h = h refl
  gate_same false u v h = refl

  -- n has one side all over the sector
  kept : (a b n m r : Coefficients) (c side : Bool) (ms : List Coefficients) (f : List Bool → ℤ) → triple_product_of d n m ≢ pos 0 →
      (inside a b r ≡ true → int_lt (triple_product_of d n r) (pos 0) ≡ c) →
      gate (inside a b r) (fall_at d (n ∷ ms) f m r side) ≡ gate (inside a b r) (fall_at d ms (λ s. f (c ∷ s)) m r side)
  kept a b n m r c side ms f h e = gate_same (inside a b r) _ _ (λ k. other_fall n m r c side ms f h (e k))

  sum_left : (x y u : ℤ) → x ≡ y → u ≡ pos 0 → x ≡ y +ℤ u
  sum_left x y u e z = omega (arith, sums)

  sum_right : (x y u : ℤ) → x ≡ y → u ≡ pos 0 → x ≡ u +ℤ y
  sum_right x y u e z = omega (arith, sums)

  -- the ray w parts the sector; n has the side c before it, and the other side beyond
  parted : (a b w n m r : Coefficients) (c side : Bool) (ms : List Coefficients) (f : List Bool → ℤ) → triple_product_of d n m ≢ pos 0 →
      pos 0 <ℤ triple_product_of d a w → pos 0 <ℤ triple_product_of d w b → pos 0 ≤ℤ triple_product_of d a b → triple_product_of d r w ≢ pos 0 →
      (pos 0 <ℤ triple_product_of d r w → int_lt (triple_product_of d n r) (pos 0) ≡ c) → (triple_product_of d r w <ℤ pos 0 → int_lt (triple_product_of d n r) (pos 0) ≡ not c) →
      gate (inside a b r) (fall_at d (n ∷ ms) f m r side)
      ≡ gate (inside a w r) (fall_at d ms (λ s. f (c ∷ s)) m r side) +ℤ gate (inside w b r) (fall_at d ms (λ s. f (not c ∷ s)) m r side)
  parted a b w n m r c side ms f h hu hv ht hz before_is beyond_is = elim (signs (triple_product_of d r w)) [
    | inl z ↦ sum_right _ _ _
        (ap₂ gate
        (tests_beyond (triple_product_of d a r) (triple_product_of d r b) (triple_product_of d w r) (negative_above _ _ (turn_exchanged d r w) z)
        (beyond (triple_product_of d a r) (triple_product_of d r b) (triple_product_of d a w) (triple_product_of d w b) (triple_product_of d a b) (triple_product_of d r w) hu hv ht (four_turns d a r w b) z))
        (other_fall n m r (not c) side ms f h (beyond_is z)))
        (gate_false (inside a w r) _ (never _ _ (not_below (pos 0) (triple_product_of d r w) (at_most _ z))))
    | inr (inl z) ↦ absurd (hz z)
    | inr (inr z) ↦ sum_left _ _ _
        (ap₂ gate
        (tests_before (triple_product_of d a r) (triple_product_of d r b) (triple_product_of d r w) z
        (before (triple_product_of d a r) (triple_product_of d r b) (triple_product_of d a w) (triple_product_of d w b) (triple_product_of d a b) (triple_product_of d r w) hu hv ht (four_turns d a r w b) z))
        (other_fall n m r c side ms f h (before_is z)))
        (gate_false (inside w b r) _ (both _ _ _ _ (not_below (pos 0) (triple_product_of d w r) (at_most _ (negative_below _ _ (turn_exchanged d r w) z))) refl))
  ]

  -- ---- both halves of a plane
  parts_kept : (a b n : Coefficients) (c : Bool) (ms : List Coefficients) (f : List Bool → ℤ) →
      ((r : Coefficients) → inside a b r ≡ true → int_lt (triple_product_of d n r) (pos 0) ≡ c) →
      (m : Coefficients) → triple_product_of d n m ≢ pos 0 → part a b (n ∷ ms) f m ≡ part a b ms (λ s. f (c ∷ s)) m
  parts_kept a b n c ms f e m h =
      ap₂ (λ (x y : ℤ). x +ℤ y) (kept a b n m m c true ms f h (e m)) (kept a b n m (opposite_of m) c false ms f h (e (opposite_of m)))

  cross_sums : (x y a b c e : ℤ) → x ≡ a +ℤ b → y ≡ c +ℤ e → x +ℤ y ≡ (a +ℤ c) +ℤ (b +ℤ e)
  cross_sums x y a b c e h k = omega (arith, sums)

  -- the side of n before the ray w, and beyond
  abbrev Parts : Coefficients → Coefficients → Bool → Type 0
  Parts w n c = (r : Coefficients) → (pos 0 <ℤ triple_product_of d r w → int_lt (triple_product_of d n r) (pos 0) ≡ c) × (triple_product_of d r w <ℤ pos 0 → int_lt (triple_product_of d n r) (pos 0) ≡ not c)

  parts_parted : (a b w n : Coefficients) (c : Bool) (ms : List Coefficients) (f : List Bool → ℤ) →
      pos 0 <ℤ triple_product_of d a w → pos 0 <ℤ triple_product_of d w b → pos 0 ≤ℤ triple_product_of d a b → Parts w n c →
      ((m : Coefficients) → triple_product_of d n m ≢ pos 0 → triple_product_of d m w ≢ pos 0) →
      (m : Coefficients) → triple_product_of d n m ≢ pos 0 → part a b (n ∷ ms) f m ≡ part a w ms (λ s. f (c ∷ s)) m +ℤ part w b ms (λ s. f (not c ∷ s)) m
  parts_parted a b w n c ms f hu hv ht e off m h =
      cross_sums _ _
      (gate (inside a w m) (fall_at d ms (λ s. f (c ∷ s)) m m true)) (gate (inside w b m) (fall_at d ms (λ s. f (not c ∷ s)) m m true))
      (gate (inside a w (opposite_of m)) (fall_at d ms (λ s. f (c ∷ s)) m (opposite_of m) false)) (gate (inside w b (opposite_of m)) (fall_at d ms (λ s. f (not c ∷ s)) m (opposite_of m) false))
      (parted a b w n m m c true ms f h hu hv ht (off m h) (e m).0 (e m).1)
      (parted a b w n m (opposite_of m) c false ms f h hu hv ht
      (λ z. off m h (negative_back (triple_product_of d m w) (triple_product_of d (opposite_of m) w) (opposite_turn d m w) z))
      (e (opposite_of m)).0 (e (opposite_of m)).1)

  parts_itself : (n : Coefficients) → Parts n n true
  parts_itself n r = (
    λ h. below _ _ (negative_below (triple_product_of d r n) (triple_product_of d n r) (turn_exchanged d r n) h),
    λ h. not_below _ _ (at_least _ (negative_above (triple_product_of d r n) (triple_product_of d n r) (turn_exchanged d r n) h)),
  )

  parts_opposite : (n : Coefficients) → Parts (opposite_of n) n false
  parts_opposite n r = (
    λ h. not_below _ _ (at_least _ (twice_above (triple_product_of d r (opposite_of n)) (triple_product_of d r n) (triple_product_of d n r) (turn_opposite d r n) (turn_exchanged d r n) h)),
    λ h. below _ _ (twice_below (triple_product_of d r (opposite_of n)) (triple_product_of d r n) (triple_product_of d n r) (turn_opposite d r n) (turn_exchanged d r n) h),
  )

  -- ---- a sector that n doesn't part
  abbrev IsOneSided : Coefficients → Coefficients → Coefficients → Bool → Type 0
  IsOneSided a b n c = (r : Coefficients) → inside a b r ≡ true → int_lt (triple_product_of d n r) (pos 0) ≡ c

  inside_turns : (a b r : Coefficients) → inside a b r ≡ true → (pos 0 <ℤ triple_product_of d a r) × (pos 0 <ℤ triple_product_of d r b)
  inside_turns a b r h =
      let w = and_parts (int_lt (pos 0) (triple_product_of d a r)) (int_lt (pos 0) (triple_product_of d r b)) h in (below_back _ _ w.0, below_back _ _ w.1)

  behind_all : (a b n : Coefficients) → pos 0 ≤ℤ triple_product_of d a b → pos 0 <ℤ triple_product_of d a n → triple_product_of d n b <ℤ pos 0 → IsOneSided a b n true
  behind_all a b n t u v r h =
      let w = inside_turns a b r h in
      below _ _ (negative_below (triple_product_of d r n) (triple_product_of d n r) (turn_exchanged d r n)
      (first_ahead (triple_product_of d a r) (triple_product_of d r b) (triple_product_of d a n) (triple_product_of d n b) (triple_product_of d a b) (triple_product_of d r n) w.0 w.1 u v t (four_turns d a r n b)))

  ahead_all : (a b n : Coefficients) → pos 0 ≤ℤ triple_product_of d a b → triple_product_of d a n <ℤ pos 0 → pos 0 <ℤ triple_product_of d n b → IsOneSided a b n false
  ahead_all a b n t u v r h =
      let w = inside_turns a b r h in
      not_below _ _ (at_least _ (negative_above (triple_product_of d r n) (triple_product_of d n r) (turn_exchanged d r n)
      (first_behind (triple_product_of d a r) (triple_product_of d r b) (triple_product_of d a n) (triple_product_of d n b) (triple_product_of d a b) (triple_product_of d r n) w.0 w.1 u v t (four_turns d a r n b))))

  -- ---- the sector
  abbrev Falls : Coefficients → Coefficients → List Coefficients → Type 0
  Falls a b ms = (f : List Bool → ℤ) → sum_over (part a b ms f) ms ≡ f (ray_sides ms a) -ℤ f (ray_sides ms b)

  no_parts : (a b n : Coefficients) (ms : List Coefficients) (f : List Bool → ℤ) → inside a b n ≡ false → inside a b (opposite_of n) ≡ false → part a b ms f n ≡ pos 0
  no_parts a b n ms f h k = ap₂ (λ (x y : ℤ). x +ℤ y) (gate_false (inside a b n) _ h) (gate_false (inside a b (opposite_of n)) _ k)

  first_gate : (x y : Bool) (u v : ℤ) → x ≡ true → y ≡ false → gate x u +ℤ gate y v ≡ u
  first_gate x y u v h k = ap₂ (λ (b c : Bool). gate b u +ℤ gate c v) h k ∙ omega (arith, sums)

  second_gate : (x y : Bool) (u v : ℤ) → x ≡ false → y ≡ true → gate x u +ℤ gate y v ≡ v
  second_gate x y u v h k = ap₂ (λ (b c : Bool). gate b u +ℤ gate c v) h k ∙ omega (arith, sums)

  first_part : (a b n : Coefficients) (ms : List Coefficients) (f : List Bool → ℤ) → inside a b n ≡ true → inside a b (opposite_of n) ≡ false → part a b ms f n ≡ fall_at d ms f n n true
  first_part a b n ms f h k =
      first_gate (inside a b n) (inside a b (opposite_of n)) (fall_at d ms f n n true) (fall_at d ms f n (opposite_of n) false) h k

  second_part : (a b n : Coefficients) (ms : List Coefficients) (f : List Bool → ℤ) → inside a b n ≡ false → inside a b (opposite_of n) ≡ true → part a b ms f n ≡ fall_at d ms f n (opposite_of n) false
  second_part a b n ms f h k =
      second_gate (inside a b n) (inside a b (opposite_of n)) (fall_at d ms f n n true) (fall_at d ms f n (opposite_of n) false) h k

  -- a plane's opposite half isn't between the bounds where the half itself lies beyond the first one
  never_opposite : (a b n : Coefficients) → pos 0 <ℤ triple_product_of d a n → inside a b (opposite_of n) ≡ false
  never_opposite a b n u =
      both _ _ false _ (not_below _ _ (at_most _ (negative_below (triple_product_of d a n) (triple_product_of d a (opposite_of n)) (turn_opposite d a n) u))) refl

  kept_sum : (x y z w : ℤ) → x ≡ pos 0 → y ≡ z → w ≡ z → x +ℤ y ≡ w
  kept_sum x y z w h k l = omega (arith, sums)

  -- x is what falls at the ray, y what falls elsewhere: p before it, and q beyond
  parted_sum : (x y p q i j k l w : ℤ) → x ≡ j -ℤ k → y ≡ p +ℤ q → p ≡ i -ℤ j → q ≡ k -ℤ l → w ≡ i -ℤ l → x +ℤ y ≡ w
  parted_sum x y p q i j k l w h hy hp hq hw = omega (arith, sums)

  -- x and x' are what falls at the two halves of a plane, y what falls elsewhere: p on the one side, and q on the other
  round_sum : (x x' y p q i j k l : ℤ) → x ≡ i -ℤ j → x' ≡ k -ℤ l → y ≡ p +ℤ q → p ≡ j -ℤ k → q ≡ l -ℤ i → (x +ℤ x') +ℤ y ≡ pos 0
  round_sum x x' y p q i j k l h h' hy hp hq = omega (arith, sums)

  -- n lies on one side
  falls_kept : (a b n : Coefficients) (c : Bool) (ms : List Coefficients) → IsParallelToNone d n ms → IsOneSided a b n c →
      inside a b n ≡ false → inside a b (opposite_of n) ≡ false → int_lt (triple_product_of d n a) (pos 0) ≡ c → int_lt (triple_product_of d n b) (pos 0) ≡ c →
      Falls a b ms → Falls a b (n ∷ ms)
  falls_kept a b n c ms apart one no_first no_second ha hb rest f =
      kept_sum _ _ _ _ (no_parts a b n (n ∷ ms) f no_first no_second)
      (total_same (λ m. triple_product_of d n m ≢ pos 0) _ _ (parts_kept a b n c ms f one) ms (apart_all n ms apart) ∙ rest (λ s. f (c ∷ s)))
      (ap₂ (λ (x y : Bool). f (x ∷ ray_sides ms a) -ℤ f (y ∷ ray_sides ms b)) ha hb)

  -- the ray w of n parts the sector
  falls_parted : (a b w n : Coefficients) (c : Bool) (ms : List Coefficients) → IsParallelToNone d n ms →
      pos 0 <ℤ triple_product_of d a w → pos 0 <ℤ triple_product_of d w b → pos 0 ≤ℤ triple_product_of d a b → Parts w n c →
      ((m : Coefficients) → triple_product_of d n m ≢ pos 0 → triple_product_of d m w ≢ pos 0) →
      ((f : List Bool → ℤ) → part a b (n ∷ ms) f n ≡ f (c ∷ ray_sides ms w) -ℤ f (not c ∷ ray_sides ms w)) →
      int_lt (triple_product_of d n a) (pos 0) ≡ c → int_lt (triple_product_of d n b) (pos 0) ≡ not c →
      Falls a w ms → Falls w b ms → Falls a b (n ∷ ms)
  falls_parted a b w n c ms apart hu hv ht sides off own ha hb low high f =
      parted_sum _ _ _ _ (f (c ∷ ray_sides ms a)) (f (c ∷ ray_sides ms w)) (f (not c ∷ ray_sides ms w)) (f (not c ∷ ray_sides ms b)) _ (own f)
      (total_same (λ m. triple_product_of d n m ≢ pos 0) _ _ (parts_parted a b w n c ms f hu hv ht sides off) ms (apart_all n ms apart) ∙ total_sum _ _ ms)
      (low (λ s. f (c ∷ s))) (high (λ s. f (not c ∷ s)))
      (ap₂ (λ (x y : Bool). f (x ∷ ray_sides ms a) -ℤ f (y ∷ ray_sides ms b)) ha hb)

  off_itself : (n m : Coefficients) → triple_product_of d n m ≢ pos 0 → triple_product_of d m n ≢ pos 0
  off_itself n m h = negative_apart (triple_product_of d n m) (triple_product_of d m n) (turn_exchanged d n m) h

  off_opposite : (n m : Coefficients) → triple_product_of d n m ≢ pos 0 → triple_product_of d m (opposite_of n) ≢ pos 0
  off_opposite n m h = negative_apart (triple_product_of d m n) (triple_product_of d m (opposite_of n)) (turn_opposite d m n) (off_itself n m h)

  -- where a half of n lies, by the turns of n
  tests : (a b r : Coefficients) (x y : Bool) → int_lt (pos 0) (triple_product_of d a r) ≡ x → int_lt (pos 0) (triple_product_of d r b) ≡ y → inside a b r ≡ (x && y)
  tests a b r x y h k = both _ _ x y h k

  -- the four ways in which n may lie against the bounds
  abbrev ByTurns : Coefficients → Coefficients → Coefficients → List Coefficients → Type 0
  ByTurns a b n ms = IsParallelToNone d n ms → pos 0 ≤ℤ triple_product_of d a b →
      ((w : Coefficients) → IsParallelToNone d w ms → pos 0 ≤ℤ triple_product_of d a w → Falls a w ms) → ((w : Coefficients) → IsParallelToNone d w ms → pos 0 ≤ℤ triple_product_of d w b → Falls w b ms) →
      Falls a b ms → Falls a b (n ∷ ms)

  inner_first : (a b n : Coefficients) (ms : List Coefficients) → pos 0 <ℤ triple_product_of d a n → pos 0 <ℤ triple_product_of d n b → ByTurns a b n ms
  inner_first a b n ms u v apart t low high rest =
      let no = never_opposite a b n u in
      let yes = tests a b n true true (below _ _ u) (below _ _ v) in
      falls_parted a b n n true ms apart u v t (parts_itself n) (off_itself n)
      (λ f. first_part a b n (n ∷ ms) f yes no ∙ own_fall n n true ms f apart)
      (below _ _ (negative_below (triple_product_of d a n) (triple_product_of d n a) (turn_exchanged d a n) u)) (not_below _ _ (at_least _ v))
      (low n apart (at_least _ u)) (high n apart (at_least _ v))

  inner_second : (a b n : Coefficients) (ms : List Coefficients) → triple_product_of d a n <ℤ pos 0 → triple_product_of d n b <ℤ pos 0 → ByTurns a b n ms
  inner_second a b n ms u v apart t low high rest =
      let uu = negative_above (triple_product_of d a n) (triple_product_of d a (opposite_of n)) (turn_opposite d a n) u in
      let vv = negative_above (triple_product_of d n b) (triple_product_of d (opposite_of n) b) (opposite_turn d n b) v in
      let no = tests a b n false (int_lt (pos 0) (triple_product_of d n b)) (not_below _ _ (at_most _ u)) refl in
      let yes = tests a b (opposite_of n) true true (below _ _ uu) (below _ _ vv) in
      falls_parted a b (opposite_of n) n false ms apart uu vv t (parts_opposite n) (off_opposite n)
      (λ f. second_part a b n (n ∷ ms) f no yes ∙ own_fall n (opposite_of n) false ms f apart)
      (not_below _ _ (at_least _ (negative_above (triple_product_of d a n) (triple_product_of d n a) (turn_exchanged d a n) u))) (below _ _ v)
      (low (opposite_of n) (apart_opposite n ms apart) (at_least _ uu)) (high (opposite_of n) (apart_opposite n ms apart) (at_least _ vv))

  outer_behind : (a b n : Coefficients) (ms : List Coefficients) → pos 0 <ℤ triple_product_of d a n → triple_product_of d n b <ℤ pos 0 → ByTurns a b n ms
  outer_behind a b n ms u v apart t low high rest =
      falls_kept a b n true ms apart (behind_all a b n t u v)
      (never _ _ (not_below _ _ (at_most _ v))) (never_opposite a b n u)
      (below _ _ (negative_below (triple_product_of d a n) (triple_product_of d n a) (turn_exchanged d a n) u)) (below _ _ v) rest

  outer_ahead : (a b n : Coefficients) (ms : List Coefficients) → triple_product_of d a n <ℤ pos 0 → pos 0 <ℤ triple_product_of d n b → ByTurns a b n ms
  outer_ahead a b n ms u v apart t low high rest =
      falls_kept a b n false ms apart (ahead_all a b n t u v)
      (tests a b n false (int_lt (pos 0) (triple_product_of d n b)) (not_below _ _ (at_most _ u)) refl)
      (never _ _ (not_below _ _ (at_most _ (negative_below (triple_product_of d n b) (triple_product_of d (opposite_of n) b) (opposite_turn d n b) v))))
      (not_below _ _ (at_least _ (negative_above (triple_product_of d a n) (triple_product_of d n a) (turn_exchanged d a n) u))) (not_below _ _ (at_least _ v)) rest

  by_turns : (a b n : Coefficients) (ms : List Coefficients) → triple_product_of d a n ≢ pos 0 → triple_product_of d b n ≢ pos 0 → ByTurns a b n ms
  by_turns a b n ms ha hb = elim (signs (triple_product_of d a n)) [
    | inl u ↦ elim (signs (triple_product_of d n b)) [
      | inl v ↦ inner_second a b n ms u v
      | inr (inl v) ↦ absurd (hb (negative_zero (triple_product_of d n b) (triple_product_of d b n) (turn_exchanged d n b) v))
      | inr (inr v) ↦ outer_ahead a b n ms u v
    ]
    | inr (inl u) ↦ absurd (ha u)
    | inr (inr u) ↦ elim (signs (triple_product_of d n b)) [
      | inl v ↦ outer_behind a b n ms u v
      | inr (inl v) ↦ absurd (hb (negative_zero (triple_product_of d n b) (triple_product_of d b n) (turn_exchanged d n b) v))
      | inr (inr v) ↦ inner_first a b n ms u v
    ]
  ]

  sector : (ms : List Coefficients) → HaveNoParallels d ms → (a b : Coefficients) → IsParallelToNone d a ms → IsParallelToNone d b ms → pos 0 ≤ℤ triple_product_of d a b → Falls a b ms
  sector [] h a b ha hb t f = same_out (f [])
  sector (n ∷ ms) h a b ha hb t f =
      by_turns a b n ms ha.0 hb.0 h.0 t
      (λ w hw u. sector ms h.1 a w ha.1 hw u) (λ w hw v. sector ms h.1 w b hw hb.1 v) (sector ms h.1 a b ha.1 hb.1 t) f

  -- ---- the whole way round: two half turns
  half_turns : (n m r : Coefficients) (side : Bool) (ms : List Coefficients) (f : List Bool → ℤ) → triple_product_of d n m ≢ pos 0 → triple_product_of d n r ≢ pos 0 →
      fall_at d (n ∷ ms) f m r side
      ≡ gate (inside n (opposite_of n) r) (fall_at d ms (λ s. f (false ∷ s)) m r side) +ℤ gate (inside (opposite_of n) n r) (fall_at d ms (λ s. f (true ∷ s)) m r side)
  half_turns n m r side ms f h hr = elim (signs (triple_product_of d n r)) [
    | inl u ↦ sum_right _ _ _
        (other_fall n m r true side ms f h (below _ _ u)
        ∙ sym (ap (λ (b : Bool). gate b (fall_at d ms (λ s. f (true ∷ s)) m r side))
        (tests (opposite_of n) n r true true
        (below _ _ (negative_above (triple_product_of d n r) (triple_product_of d (opposite_of n) r) (opposite_turn d n r) u))
        (below _ _ (negative_above (triple_product_of d n r) (triple_product_of d r n) (turn_exchanged d n r) u)))))
        (gate_false (inside n (opposite_of n) r) _ (both _ _ false _ (not_below _ _ (at_most _ u)) refl))
    | inr (inl u) ↦ absurd (hr u)
    | inr (inr u) ↦ sum_left _ _ _
        (other_fall n m r false side ms f h (not_below _ _ (at_least _ u))
        ∙ sym (ap (λ (b : Bool). gate b (fall_at d ms (λ s. f (false ∷ s)) m r side))
        (tests n (opposite_of n) r true true (below _ _ u)
        (below _ _ (twice_above (triple_product_of d n r) (triple_product_of d r n) (triple_product_of d r (opposite_of n)) (turn_exchanged d r n) (turn_opposite d r n) u)))))
        (gate_false (inside (opposite_of n) n r) _ (both _ _ false _ (not_below _ _ (at_most _ (negative_below (triple_product_of d n r) (triple_product_of d (opposite_of n) r) (opposite_turn d n r) u))) refl))
  ]

  round_parts : (n : Coefficients) (ms : List Coefficients) (f : List Bool → ℤ) (m : Coefficients) → triple_product_of d n m ≢ pos 0 →
      fall d (n ∷ ms) f m ≡ part n (opposite_of n) ms (λ s. f (false ∷ s)) m +ℤ part (opposite_of n) n ms (λ s. f (true ∷ s)) m
  round_parts n ms f m h =
      cross_sums _ _
      (gate (inside n (opposite_of n) m) (fall_at d ms (λ s. f (false ∷ s)) m m true)) (gate (inside (opposite_of n) n m) (fall_at d ms (λ s. f (true ∷ s)) m m true))
      (gate (inside n (opposite_of n) (opposite_of m)) (fall_at d ms (λ s. f (false ∷ s)) m (opposite_of m) false)) (gate (inside (opposite_of n) n (opposite_of m)) (fall_at d ms (λ s. f (true ∷ s)) m (opposite_of m) false))
      (half_turns n m m true ms f h h)
      (half_turns n m (opposite_of m) false ms f h (negative_apart (triple_product_of d n m) (triple_product_of d n (opposite_of m)) (turn_opposite d n m) h))

  pub round : (planes : List Coefficients) → HaveNoParallels d planes → (f : List Bool → ℤ) → sum_over (fall d planes f) planes ≡ pos 0
  round [] h f = refl
  round (n ∷ ms) h f =
      round_sum _ _ _ _ _
      (f (true ∷ ray_sides ms n)) (f (false ∷ ray_sides ms n)) (f (false ∷ ray_sides ms (opposite_of n))) (f (true ∷ ray_sides ms (opposite_of n)))
      (own_fall n n true ms f h.0) (own_fall n (opposite_of n) false ms f h.0)
      (total_same (λ m. triple_product_of d n m ≢ pos 0) _ _ (round_parts n ms f) ms (apart_all n ms h.0) ∙ total_sum _ _ ms)
      (sector ms h.1 n (opposite_of n) h.0 (apart_opposite n ms h.0) (zero_at_least _ (negative_zero (triple_product_of d n n) (triple_product_of d n (opposite_of n)) (turn_opposite d n n) (turn_itself d n))) (λ s. f (false ∷ s)))
      (sector ms h.1 (opposite_of n) n (apart_opposite n ms h.0) h.0 (zero_at_least _ (negative_zero (triple_product_of d n n) (triple_product_of d (opposite_of n) n) (opposite_turn d n n) (turn_itself d n))) (λ s. f (true ∷ s)))
