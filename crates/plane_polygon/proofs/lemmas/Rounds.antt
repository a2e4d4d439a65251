-- Going round a polygon from any corner, and why the corners behind a plane stand together.
use Rattle.std.proofs.Common.{◌≡◌, ◌≢◌, ◌⊎◌, inl, inr, ℕ, zero, suc, ◌+◌, ◌-◌, ◌<◌, ◌≤◌, sym, ap, ◌∙◌, subst, subst₂, arith, ℤ, pos, ◌+ℤ◌, ◌-ℤ◌, ◌*ℤ◌, ◌<ℤ◌, ◌≤ℤ◌, add-zero, add-suc}
use Rattle.std.proofs.Math.IntN.{*ℤ-zero}
use Rattle.std.proofs.lemmas.Bool.Decides.{eqb_tells}
use Rattle.plane_predicate.specs.Space.{Coefficients, Coordinates, value, orientation_seen_from}
use Rattle.plane_predicate.proofs.lemmas.IntegerRing.{sums}
use Rattle.plane_predicate.proofs.lemmas.Identities.{turn_round}
use Rattle.plane_polygon.specs.Polygons.{Outline, edge_plane, edge_count, corner, IsPolygon}
use Rattle.plane_predicate.proofs.lemmas.Signs.{signs, neg_neg, pos_neg, least_least, least_most, most_most}
use Rattle.plane_polygon.proofs.lemmas.FourPoints.{four_points}
use Rattle.plane_polygon.proofs.lemmas.Hull.{after_is, after_below, plane_directed, corner_on, corner_on_edge, corner_on_next, strictly_left}
use Rattle.plane_predicate.specs.Indices.{index_after}

-- t steps round a list of length k, from a
abbrev pub step : ℕ → ℕ → ℕ → ℕ
step k a zero = a
step k a (suc t) = index_after k (step k a t)

pub step_below : (k a t : ℕ) → a < k → step k a t < k
step_below k a zero h = h
step_below k a (suc t) h = after_below k (step k a t) (step_below k a t h)

pub step_is : (k a t : ℕ) → a < k → t < k → ((step k a t ≡ a + t) × (a + t < k)) ⊎ (step k a t + k ≡ a + t)
step_is k a zero h l = inl (omega arith, omega arith)
step_is k a (suc t) h l =
    elim (step_is k a t h (omega arith)) [
      | inl p ↦ elim (after_is k (step k a t)) [ inl q ↦ inr (omega arith) | inr q ↦ inl (omega arith, omega arith) ]
      | inr p ↦ elim (after_is k (step k a t)) [ inl q ↦ absurd (omega arith) | inr q ↦ inr (omega arith) ]
    ]

pub step_step : (k a i t : ℕ) → step k (step k a i) t ≡ step k a (i + t)
step_step k a i zero = ap (step k a) (sym (add-zero i))
step_step k a i (suc t) = ap (index_after k) (step_step k a i t) ∙ ap (step k a) (sym (add-suc i t))

pub step_apart : (k a t u : ℕ) → a < k → t < k → u < k → u ≢ t → step k a u ≢ step k a t
step_apart k a t u h l m n e =
    elim (step_is k a t h l) [
      | inl p ↦ elim (step_is k a u h m) [ inl q ↦ n (omega arith) | inr q ↦ omega arith ]
      | inr p ↦ elim (step_is k a u h m) [ inl q ↦ omega arith | inr q ↦ n (omega arith) ]
    ]

-- one more step from the last brings back to the first
pub step_round : (k a t : ℕ) → a < k → suc t ≡ k → index_after k (step k a t) ≡ a
step_round k a t h e =
    elim (step_is k a t h (omega arith)) [
      | inl p ↦ elim (after_is k (step k a t)) [ inl q ↦ omega arith | inr q ↦ absurd (omega arith) ]
      | inr p ↦ elim (after_is k (step k a t)) [ inl q ↦ absurd (omega arith) | inr q ↦ omega arith ]
    ]

-- corner and edge t, from a
abbrev pub corner_from : Outline → ℕ → ℕ → Coordinates
corner_from s a t = corner s (step (edge_count s) a t)

abbrev pub edge_from : Outline → ℕ → ℕ → Coefficients
edge_from s a t = edge_plane s (step (edge_count s) a t)

next_apart : (k a t u : ℕ) → a < k → t < k → u < k → u ≢ suc t → (suc t ≡ k → u ≢ 0) → (suc t ≡ k) ⊎ (suc t < k) → step k a u ≢ index_after k (step k a t)
next_apart k a t u h l m n z (inl e) w = step_apart k a 0 u h (omega arith) m (z e) (w ∙ step_round k a t h e)
next_apart k a t u h l m n z (inr b) w = step_apart k a (suc t) u h b m n w

pub at_most : (m n : ℕ) → m ≤ n → (m ≡ n) ⊎ (m < n)
at_most m n h = grind arith

pub behind_from : (s : Outline) → IsPolygon s → (a t u : ℕ) → a < edge_count s → t < edge_count s → u < edge_count s → u ≢ t → u ≢ suc t → (suc t ≡ edge_count s → u ≢ 0) → value (edge_from s a u) (corner_from s a t) <ℤ pos 0
behind_from s h a t u ha ht hu n m z =
    let k = edge_count s in
    h.behind (step k a t) (step k a u) (step_below k a t ha) (step_below k a u ha) (step_apart k a t u ha ht hu n) (next_apart k a t u ha ht hu m z (at_most (suc t) k ht))

zero_most : (x : ℤ) → x ≡ pos 0 → x ≤ℤ pos 0
zero_most x h = omega (arith, sums)

below_most : (x : ℤ) → x <ℤ pos 0 → x ≤ℤ pos 0
below_most x h = omega (arith, sums)

-- no corner is ahead of an edge
pub no_edge_behind : (s : Outline) → IsPolygon s → (i j : ℕ) → i < edge_count s → j < edge_count s → value (edge_plane s j) (corner s i) ≤ℤ pos 0
no_edge_behind s h i j hi hj =
    elim (eqb_tells j i) [
      | inl p ↦ zero_most (value (edge_plane s j) (corner s i)) (subst (λ (n : ℕ). value (edge_plane s n) (corner s i) ≡ pos 0) (sym p.1) (corner_on_edge s i))
      | inr p ↦ elim (eqb_tells j (index_after (edge_count s) i)) [
        | inl q ↦ zero_most (value (edge_plane s j) (corner s i)) (subst (λ (n : ℕ). value (edge_plane s n) (corner s i) ≡ pos 0) (sym q.1) (corner_on_next s i))
        | inr q ↦ below_most (value (edge_plane s j) (corner s i)) (h.behind i j hi hj p.1 q.1)
      ]
    ]

pub not_ahead_from : (s : Outline) → IsPolygon s → (a t u : ℕ) → a < edge_count s → t < edge_count s → u < edge_count s → value (edge_from s a u) (corner_from s a t) ≤ℤ pos 0
not_ahead_from s h a t u ha ht hu = no_edge_behind s h (step (edge_count s) a t) (step (edge_count s) a u) (step_below (edge_count s) a t ha) (step_below (edge_count s) a u ha)

-- ---- turns between any three corners in order
-- corner i, the next one, and corner 0
near_turn : (s : Outline) → IsPolygon s → (a i : ℕ) → a < edge_count s → 1 ≤ i → suc i < edge_count s → pos 0 <ℤ orientation_seen_from s.plane (corner_from s a 0) (corner_from s a i) (corner_from s a (suc i))
near_turn s h a i ha low high =
    subst (λ (v : ℤ). pos 0 <ℤ v) (turn_round s.plane (corner_from s a 0) (corner_from s a i) (corner_from s a (suc i)))
    (strictly_left s h (step (edge_count s) a i) (step_below (edge_count s) a i ha) (corner_from s a 0) (corner_on s a) (behind_from s h a 0 (suc i) ha (omega arith) high (omega arith) (omega arith) (λ _. omega arith)))

pub lt_le : (x : ℤ) → pos 0 <ℤ x → pos 0 ≤ℤ x
lt_le x h = omega (arith, sums)

first_gone : (t v x y z : ℤ) → v ≡ pos 0 → t *ℤ v -ℤ x +ℤ y -ℤ z ≡ pos 0 → pos 0 -ℤ x +ℤ y -ℤ z ≡ pos 0
first_gone t v x y z e h = subst (λ (u : ℤ). u -ℤ x +ℤ y -ℤ z ≡ pos 0) (ap (λ (n : ℤ). t *ℤ n) e ∙ *ℤ-zero t) h

-- 0 - x + y - z is above 0
no_sum : (x y z : ℤ) → x ≤ℤ pos 0 → pos 0 ≤ℤ y → z <ℤ pos 0 → pos 0 -ℤ x +ℤ y -ℤ z ≡ pos 0 → ⊥
no_sum x y z hx hy hz e = omega (arith, sums)

-- t p = u q + v r, with p and r below 0, q at most 0, u and v above 0
sign_of_sum : (t u v p q r : ℤ) → pos 0 <ℤ u → pos 0 <ℤ v → p <ℤ pos 0 → q ≤ℤ pos 0 → r <ℤ pos 0 → pos 0 -ℤ u *ℤ q +ℤ t *ℤ p -ℤ v *ℤ r ≡ pos 0 → pos 0 <ℤ t
sign_of_sum t u v p q r hu hv hp hq hr e =
    elim (signs t) [
      | inl k ↦ absurd (no_sum (u *ℤ q) (t *ℤ p) (v *ℤ r) (least_most u q (lt_le u hu) hq) (lt_le (t *ℤ p) (neg_neg t p k hp)) (pos_neg v r hv hr) e)
      | inr (inl k) ↦ absurd (no_sum (u *ℤ q) (t *ℤ p) (v *ℤ r) (least_most u q (lt_le u hu) hq) (most_most t p (omega (arith, sums)) (omega (arith, sums))) (pos_neg v r hv hr) e)
      | inr (inr k) ↦ k
    ]

-- what edge 1 says of corners 0, i, i + 1 and j
edge_one : (s : Outline) → IsPolygon s → (a i j : ℕ) → a < edge_count s → (m : Coefficients) → value m (corner_from s a 0) ≡ pos 0 →
    pos 0 -ℤ orientation_seen_from s.plane (corner_from s a 0) (corner_from s a (suc i)) (corner_from s a j) *ℤ value m (corner_from s a i)
    +ℤ orientation_seen_from s.plane (corner_from s a 0) (corner_from s a i) (corner_from s a j) *ℤ value m (corner_from s a (suc i))
    -ℤ orientation_seen_from s.plane (corner_from s a 0) (corner_from s a i) (corner_from s a (suc i)) *ℤ value m (corner_from s a j) ≡ pos 0
edge_one s h a i j ha m e =
    first_gone (orientation_seen_from s.plane (corner_from s a i) (corner_from s a (suc i)) (corner_from s a j)) (value m (corner_from s a 0))
    (orientation_seen_from s.plane (corner_from s a 0) (corner_from s a (suc i)) (corner_from s a j) *ℤ value m (corner_from s a i))
    (orientation_seen_from s.plane (corner_from s a 0) (corner_from s a i) (corner_from s a j) *ℤ value m (corner_from s a (suc i)))
    (orientation_seen_from s.plane (corner_from s a 0) (corner_from s a i) (corner_from s a (suc i)) *ℤ value m (corner_from s a j))
    e
    (four_points s.plane (plane_directed s h) (corner_from s a 0) (corner_from s a i) (corner_from s a (suc i)) (corner_from s a j) (corner_on s (step (edge_count s) a 0)) (corner_on s (step (edge_count s) a i)) (corner_on s (step (edge_count s) a (suc i))) (corner_on s (step (edge_count s) a j)) m)

far_turn : (s : Outline) → IsPolygon s → (a d i j : ℕ) → a < edge_count s → 1 ≤ i → j ≡ i + suc d → j < edge_count s → pos 0 <ℤ orientation_seen_from s.plane (corner_from s a 0) (corner_from s a i) (corner_from s a j)
far_turn s h a zero i j ha low e high =
    let next : suc i ≡ j = omega arith in
    subst (λ (n : ℕ). pos 0 <ℤ orientation_seen_from s.plane (corner_from s a 0) (corner_from s a i) (corner_from s a n)) next (near_turn s h a i ha low (omega arith))
far_turn s h a (suc d) i j ha low e high =
    let k = edge_count s in
    sign_of_sum (orientation_seen_from s.plane (corner_from s a 0) (corner_from s a i) (corner_from s a j))
    (orientation_seen_from s.plane (corner_from s a 0) (corner_from s a (suc i)) (corner_from s a j))
    (orientation_seen_from s.plane (corner_from s a 0) (corner_from s a i) (corner_from s a (suc i)))
    (value (edge_from s a 1) (corner_from s a (suc i))) (value (edge_from s a 1) (corner_from s a i)) (value (edge_from s a 1) (corner_from s a j))
    (far_turn s h a d (suc i) j ha (omega arith) (omega arith) high)
    (near_turn s h a i ha low (omega arith))
    (behind_from s h a (suc i) 1 ha (omega arith) (omega arith) (omega arith) (omega arith) (λ _. omega arith))
    (not_ahead_from s h a i 1 ha (omega arith) (omega arith))
    (behind_from s h a j 1 ha high (omega arith) (omega arith) (omega arith) (λ _. omega arith))
    (edge_one s h a i j ha (edge_from s a 1) (corner_on_next s a))

-- three corners in order bend left
pub any_turn : (s : Outline) → IsPolygon s → (a i j l : ℕ) → a < edge_count s → i < j → j < l → l < edge_count s → pos 0 <ℤ orientation_seen_from s.plane (corner_from s a i) (corner_from s a j) (corner_from s a l)
any_turn s h a i j l ha b c d =
    let k = edge_count s in
    let far = far_turn s h (step k a i) (l - j - 1) (j - i) (l - i) (step_below k a i ha) (omega arith) (omega arith) (omega arith) in
    let ej : corner_from s (step k a i) (j - i) ≡ corner_from s a j = ap (corner s) (step_step k a i (j - i) ∙ ap (step k a) (omega arith)) in
    let el : corner_from s (step k a i) (l - i) ≡ corner_from s a l = ap (corner s) (step_step k a i (l - i) ∙ ap (step k a) (omega arith)) in
    subst₂ (λ (p q : Coordinates). pos 0 <ℤ orientation_seen_from s.plane (corner_from s a i) p q) ej el far

-- no plane has corners 0 and j behind it, and i and l not, where i is between 0 and j, and l above j
no_mixed : (x y z w : ℤ) → x <ℤ pos 0 → pos 0 ≤ℤ y → z <ℤ pos 0 → pos 0 ≤ℤ w → x -ℤ y +ℤ z -ℤ w ≡ pos 0 → ⊥
no_mixed x y z w hx hy hz hw e = omega (arith, sums)

pub no_alternation : (s : Outline) → IsPolygon s → (a i j l : ℕ) → a < edge_count s → 0 < i → i < j → j < l → l < edge_count s → (m : Coefficients) →
    value m (corner_from s a 0) <ℤ pos 0 → pos 0 ≤ℤ value m (corner_from s a i) → value m (corner_from s a j) <ℤ pos 0 → pos 0 ≤ℤ value m (corner_from s a l) → ⊥
no_alternation s h a i j l ha hi hj hl hk m m0 mi mj ml =
    no_mixed
    (orientation_seen_from s.plane (corner_from s a i) (corner_from s a j) (corner_from s a l) *ℤ value m (corner_from s a 0))
    (orientation_seen_from s.plane (corner_from s a 0) (corner_from s a j) (corner_from s a l) *ℤ value m (corner_from s a i))
    (orientation_seen_from s.plane (corner_from s a 0) (corner_from s a i) (corner_from s a l) *ℤ value m (corner_from s a j))
    (orientation_seen_from s.plane (corner_from s a 0) (corner_from s a i) (corner_from s a j) *ℤ value m (corner_from s a l))
    (pos_neg (orientation_seen_from s.plane (corner_from s a i) (corner_from s a j) (corner_from s a l)) (value m (corner_from s a 0)) (any_turn s h a i j l ha hj hl hk) m0)
    (least_least (orientation_seen_from s.plane (corner_from s a 0) (corner_from s a j) (corner_from s a l)) (value m (corner_from s a i)) (lt_le (orientation_seen_from s.plane (corner_from s a 0) (corner_from s a j) (corner_from s a l)) (any_turn s h a 0 j l ha (omega arith) hl hk)) mi)
    (pos_neg (orientation_seen_from s.plane (corner_from s a 0) (corner_from s a i) (corner_from s a l)) (value m (corner_from s a j)) (any_turn s h a 0 i l ha hi (omega arith) hk) mj)
    (least_least (orientation_seen_from s.plane (corner_from s a 0) (corner_from s a i) (corner_from s a j)) (value m (corner_from s a l)) (lt_le (orientation_seen_from s.plane (corner_from s a 0) (corner_from s a i) (corner_from s a j)) (any_turn s h a 0 i j ha hi hj (omega arith))) ml)
    (four_points s.plane (plane_directed s h) (corner_from s a 0) (corner_from s a i) (corner_from s a j) (corner_from s a l) (corner_on s (step (edge_count s) a 0)) (corner_on s (step (edge_count s) a i)) (corner_on s (step (edge_count s) a j)) (corner_on s (step (edge_count s) a l)) m)
