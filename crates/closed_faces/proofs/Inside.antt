-- A point on the plane of a convex face and on a second plane that holds no corner: it is inside the face exactly where the
-- edges that cross the second plane tell so.
use Rattle.std.proofs.Common.{◌≡◌, ◌≢◌, ◌⊎◌, inl, inr, ℕ, zero, suc, ◌+◌, ◌-◌, ◌<◌, ◌≤◌, Bool, true, false, cond, ◌&&◌, List, [], ◌∷◌, ◌++◌, length, map, refl, sym, ap, ap₂, ◌∙◌, subst, arith, int_lt, ℤ, pos, negsuc, ◌+ℤ◌, ◌-ℤ◌, ◌*ℤ◌, ◌<ℤ◌, ◌≤ℤ◌}
use Rattle.std.specs.Bool.{Decides}
use Rattle.std.specs.List.{list_all}
use Rattle.std.proofs.lemmas.Bool.{cases_lt, true≢false}
use Rattle.std.proofs.lemmas.Bool.Decides.{nat_tests, Decides-and}
use Rattle.std.proofs.lemmas.Int.{ints}
use Rattle.std.proofs.lemmas.List.Folds.{list_all-append, list_all-map}
use Rattle.plane_predicate.specs.Space.{Coefficients, Coordinates, orientation_seen_from, value}
use Rattle.plane_predicate.proofs.lemmas.IntegerRing.{sums}
use Rattle.plane_predicate.proofs.lemmas.Signs.{signs, least_least, least_most, most_least, most_most, neg_neg, neg_pos, pos_cancel, pos_neg, pos_pos}
use Rattle.primitives.specs.DirectedEdges.{next_in_face}
use Rattle.closed_faces.specs.Crossings.{edge_of_face, edges_of_face, goes_ahead, is_left_of_all, count_of_corners, vertex, Face, IsConvexFace, IsCutByPlane}
use Rattle.closed_faces.proofs.Coplanar.{between, four_points, no_times, side_plane, side_seen, turn_back, turn_none, turn_round, weight_plane, weight_seen}
use Rattle.closed_faces.proofs.lemmas.Edges.{after_in, after_inner, after_last, round_again, same_round}
use Rattle.closed_faces.proofs.lemmas.Sums.{last_or_below, sum_below, sum_of_differences, zero_below}
use Rattle.plane_predicate.specs.Indices.{indices_below}

-- ---- numbers
pub same_or_other : (i k : ℕ) → (i ≡ k) ⊎ (i ≢ k)
same_or_other i k = elim (cases_lt i k) [
  | inl less ↦ inr (λ e. omega (arith, less, e))
  | inr more ↦ elim (cases_lt k i) [ inl l ↦ inr (λ e. omega (arith, l, e)) | inr m ↦ inl (omega (arith, more, m)) ]
]

pub all_or_some : (P Q : ℕ → Type 0) (n : ℕ) → ((k : ℕ) → k < n → P k ⊎ Q k) → ((k : ℕ) → k < n → P k) ⊎ ((k : ℕ) × (k < n) × Q k)
all_or_some P Q zero h = inl (λ k lt. absurd (omega (arith, lt)))
all_or_some P Q (suc n) h = elim (h n (omega arith)) [
  | inr q ↦ inr (n, omega arith, q)
  | inl p ↦ elim (all_or_some P Q n (λ k lt. h k (omega (arith, lt)))) [
    | inr some ↦ inr (some.0, omega (arith, some.1), some.2)
    | inl all ↦ inl (λ k lt. elim (last_or_below k n lt) [ inl l ↦ all k l | inr e ↦ subst P (sym e) p ])
  ]
]

pub sum_none : (g : ℕ → ℤ) (n : ℕ) → ((k : ℕ) → k < n → g k ≡ pos 0) → sum_below g n ≡ pos 0
sum_none g zero h = refl
sum_none g (suc n) h = ap₂ (λ (a b : ℤ). a +ℤ b) (sum_none g n (λ k lt. h k (omega (arith, lt)))) (h n (omega arith))

plus_none : (s x : ℤ) → x ≡ pos 0 → s +ℤ x ≡ s
plus_none s x e = omega (arith, sums, e)

none_plus : (s x : ℤ) → s ≡ pos 0 → s +ℤ x ≡ x
none_plus s x e = omega (arith, sums, e)

pub sum_one : (g : ℕ → ℤ) (n u : ℕ) → u < n → ((k : ℕ) → k < n → k ≢ u → g k ≡ pos 0) → sum_below g n ≡ g u
sum_one g zero u lt h = absurd (omega (arith, lt))
sum_one g (suc n) u lt h = elim (last_or_below u n lt) [
  | inl l ↦ plus_none (sum_below g n) (g n) (h n (omega arith) (λ e. omega (arith, l, e))) ∙ sum_one g n u l (λ k lk. h k (omega (arith, lk)))
  | inr e ↦ none_plus (sum_below g n) (g n) (sum_none g n (λ k lk. h k (omega (arith, lk)) (λ s. omega (arith, lk, s, e)))) ∙ ap g (sym e)
]

pub not_true : (b : Bool) → (b ≡ true → ⊥) → b ≡ false
not_true true h = absurd (h refl)
not_true false h = refl

pub not_false : (b : Bool) → (b ≡ false → ⊥) → b ≡ true
not_false true h = refl
not_false false h = absurd (h refl)

-- 1 where a number is above 0
abbrev pub high : ℤ → ℤ
high v = cond (int_lt (pos 0) v) (pos 1) (pos 0)

below_test : (v : ℤ) → v <ℤ pos 0 → int_lt (pos 0) v ≡ false
below_test v h = not_true (int_lt (pos 0) v) (λ e. omega (arith, ints, h, e))

above_test : (v : ℤ) → pos 0 <ℤ v → int_lt (pos 0) v ≡ true
above_test v h = not_false (int_lt (pos 0) v) (λ e. omega (arith, ints, h, e))

high_above : (v : ℤ) → pos 0 <ℤ v → high v ≡ pos 1
high_above v h = ap (λ (b : Bool). cond b (pos 1) (pos 0)) (above_test v h)

high_below : (v : ℤ) → v <ℤ pos 0 → high v ≡ pos 0
high_below v h = ap (λ (b : Bool). cond b (pos 1) (pos 0)) (below_test v h)

high_at_least : (b : Bool) → pos 0 ≤ℤ cond b (pos 1) (pos 0)
high_at_least true = omega (arith, sums)
high_at_least false = omega (arith, sums)

high_least : (v : ℤ) → pos 0 ≤ℤ high v
high_least v = high_at_least (int_lt (pos 0) v)

pub other_sign : (v : ℤ) → v ≢ pos 0 → (v <ℤ pos 0) ⊎ (pos 0 <ℤ v)
other_sign v h = elim (signs v) [ inl below ↦ inl below | inr other ↦ elim other [ inl none ↦ absurd (h none) | inr above ↦ inr above ] ]

pub both_ways : (v : ℤ) → v <ℤ pos 0 → pos 0 <ℤ v → ⊥
both_ways v h k = omega (arith, sums, h, k)

-- ---- tests
pub above_decides : (v : ℤ) → Decides (int_lt (pos 0) v) (pos 0 <ℤ v)
above_decides v = (λ h. omega (arith, ints, h), λ h. above_test v h)

pub below_decides : (v : ℤ) → Decides (int_lt v (pos 0)) (v <ℤ pos 0)
below_decides v = (λ h. omega (arith, ints, h), λ h. not_false (int_lt v (pos 0)) (λ e. omega (arith, ints, h, e)))

pub ahead_decides : (n : Coefficients) (a b : Coordinates) → Decides (goes_ahead n a b) ((value n a <ℤ pos 0) × (pos 0 <ℤ value n b))
ahead_decides n a b = Decides-and (int_lt (value n a) (pos 0)) (int_lt (pos 0) (value n b)) (below_decides (value n a)) (above_decides (value n b))

and_parts : (a b : Bool) → a && b ≡ true → (a ≡ true) × (b ≡ true)
and_parts true b h = (refl, h)
and_parts false b h = absurd (true≢false (sym h))

and_both : (a b : Bool) → a ≡ true → b ≡ true → a && b ≡ true
and_both true b h k = k
and_both false b h k = absurd (true≢false (sym h))

each_below : (test : ℕ → Bool) (n : ℕ) → list_all test (indices_below n) ≡ true → (k : ℕ) → k < n → test k ≡ true
each_below test zero h k lt = absurd (omega (arith, lt))
each_below test (suc n) h k lt =
    let both = and_parts (list_all test (indices_below n)) (test n && true) (sym (list_all-append test (indices_below n) (n ∷ [])) ∙ h) in
    elim (last_or_below k n lt) [
      | inl l ↦ each_below test n both.0 k l
      | inr e ↦ subst (λ (i : ℕ). test i ≡ true) (sym e) (and_parts (test n) true both.1).0
    ]

all_below : (test : ℕ → Bool) (n : ℕ) → ((k : ℕ) → k < n → test k ≡ true) → list_all test (indices_below n) ≡ true
all_below test zero h = refl
all_below test (suc n) h = list_all-append test (indices_below n) (n ∷ []) ∙ and_both (list_all test (indices_below n)) (test n && true) (all_below test n (λ k lt. h k (omega (arith, lt)))) (and_both (test n) true (h n (omega arith)) refl)

-- ---- the faces and planes that are meant
-- the orientation_seen_from of an edge and the point
abbrev pub lean : Face → Coordinates → ℕ → ℤ
lean f x k = orientation_seen_from f.plane (vertex f k) (vertex f (next_in_face k (count_of_corners f))) x

abbrev pub height : Face → Coefficients → ℕ → ℤ
height f h k = value h (vertex f k)

-- the point x is on the face's plane and on the plane h, which holds no corner; and it is on no line of an edge that crosses h
pub record IsSpot (f : Face) (h : Coefficients) (x : Coordinates) : Type 0 where
  pub convex : IsConvexFace f
  pub off : (k : ℕ) → k < count_of_corners f → height f h k ≢ pos 0
  pub weight : pos 0 <ℤ x.w
  pub on : value f.plane x ≡ pos 0
  pub level : value h x ≡ pos 0
  pub apart : (k : ℕ) → k < count_of_corners f → IsCutByPlane h (edge_of_face f k) → lean f x k ≢ pos 0

pub record IsUp (f : Face) (h : Coefficients) (k : ℕ) : Type 0 where
  pub low : height f h k <ℤ pos 0
  pub high_end : pos 0 <ℤ height f h (next_in_face k (count_of_corners f))

pub record IsDown (f : Face) (h : Coefficients) (k : ℕ) : Type 0 where
  pub high_end : pos 0 <ℤ height f h k
  pub low : height f h (next_in_face k (count_of_corners f)) <ℤ pos 0

pub left_decides : (f : Face) (x : Coordinates) → Decides (is_left_of_all f x) ((k : ℕ) → k < count_of_corners f → pos 0 <ℤ lean f x k)
left_decides f x =
    let test : ℕ → Bool = λ k. int_lt (pos 0) (lean f x k) in
    let same : is_left_of_all f x ≡ list_all test (indices_below (count_of_corners f)) = list_all-map (λ e. int_lt (pos 0) (orientation_seen_from f.plane e.from e.to x)) (edge_of_face f) (indices_below (count_of_corners f)) in
    (λ h k lt. (above_decides (lean f x k)).0 (each_below test (count_of_corners f) (sym same ∙ h) k lt), λ h. same ∙ all_below test (count_of_corners f) (λ k lt. (above_decides (lean f x k)).1 (h k lt)))

-- ---- turns of corners
least_by : (x : ℤ) → pos 0 <ℤ x → pos 0 ≤ℤ x
least_by x h = omega (arith, sums, h)

least_none : (x : ℤ) → x ≡ pos 0 → pos 0 ≤ℤ x
least_none x e = omega (arith, sums, e)

-- no corner is to the right of an edge
pub least_left : (f : Face) → IsConvexFace f → (k i : ℕ) → k < count_of_corners f → i < count_of_corners f → pos 0 ≤ℤ orientation_seen_from f.plane (vertex f k) (vertex f (next_in_face k (count_of_corners f))) (vertex f i)
least_left f c k i hk hi =
    let p = vertex f k in let q = vertex f (next_in_face k (count_of_corners f)) in
    elim (same_or_other i k) [
      | inl e ↦ subst (λ (j : ℕ). pos 0 ≤ℤ orientation_seen_from f.plane p q (vertex f j)) (sym e) (least_none _ (sym (turn_round f.plane p q p) ∙ sym (turn_round f.plane q p p) ∙ turn_none f.plane p q))
      | inr apart ↦ elim (same_or_other i (next_in_face k (count_of_corners f))) [
        | inl e ↦ subst (λ (j : ℕ). pos 0 ≤ℤ orientation_seen_from f.plane p q (vertex f j)) (sym e) (least_none _ (sym (turn_round f.plane p q q) ∙ turn_none f.plane q p))
        | inr other ↦ least_by _ (c.left k i hk hi apart other)
      ]
    ]

corner_on : (f : Face) → IsConvexFace f → (k : ℕ) → k < count_of_corners f → value f.plane (vertex f k) ≡ pos 0
corner_on f c k lt = c.on k lt

-- ---- edges that cross the plane
pub step_up : (f : Face) (h : Coefficients) (x : Coordinates) → IsSpot f h x → (k : ℕ) → k < count_of_corners f → ((high (height f h (next_in_face k (count_of_corners f))) ≤ℤ high (height f h k)) ⊎ IsUp f h k)
step_up f h x s k lt =
    let v = height f h k in let w = height f h (next_in_face k (count_of_corners f)) in
    elim (other_sign w (s.off (next_in_face k (count_of_corners f)) (after_in k (count_of_corners f) lt))) [
      | inl below ↦ inl (omega (arith, sums, high_below w below, high_least v))
      | inr above ↦ elim (other_sign v (s.off k lt)) [
        | inl low ↦ inr (record { low = low; high_end = above })
        | inr high_one ↦ inl (omega (arith, sums, high_above v high_one, high_above w above))
      ]
    ]

pub step_down : (f : Face) (h : Coefficients) (x : Coordinates) → IsSpot f h x → (k : ℕ) → k < count_of_corners f → ((high (height f h k) ≤ℤ high (height f h (next_in_face k (count_of_corners f)))) ⊎ IsDown f h k)
step_down f h x s k lt =
    let v = height f h k in let w = height f h (next_in_face k (count_of_corners f)) in
    elim (other_sign v (s.off k lt)) [
      | inl below ↦ inl (omega (arith, sums, high_below v below, high_least w))
      | inr above ↦ elim (other_sign w (s.off (next_in_face k (count_of_corners f)) (after_in k (count_of_corners f) lt))) [
        | inl low ↦ inr (record { high_end = above; low = low })
        | inr high_one ↦ inl (omega (arith, sums, high_above w high_one, high_above v above))
      ]
    ]

-- where no edge goes up, all corners are on one side
differences_least : (a b : ℤ) → b ≤ℤ a → pos 0 ≤ℤ ((pos 0 -ℤ b) -ℤ (pos 0 -ℤ a))
differences_least a b h = omega (arith, sums, h)

same_from : (a b : ℤ) → (pos 0 -ℤ b) -ℤ (pos 0 -ℤ a) ≡ pos 0 → b ≡ a
same_from a b e = omega (arith, sums, e)

same_high : (f : Face) (h : Coefficients) → 0 < count_of_corners f → ((k : ℕ) → k < count_of_corners f → high (height f h (next_in_face k (count_of_corners f))) ≤ℤ high (height f h k)) → (k : ℕ) → k < count_of_corners f → high (height f h k) ≡ high (height f h 0)
same_high f h some most =
    let g : ℕ → ℤ = λ k. pos 0 -ℤ high (height f h k) in
    same_round (λ k. high (height f h k)) (count_of_corners f) (λ k lt. same_from (high (height f h k)) (high (height f h (next_in_face k (count_of_corners f))))
    (zero_below (λ i. g (next_in_face i (count_of_corners f)) -ℤ g i) (count_of_corners f) (λ i li. differences_least (high (height f h i)) (high (height f h (next_in_face i (count_of_corners f)))) (most i li)) (round_again g (count_of_corners f)) k lt))

-- where some edge goes up, some edge goes down
less_one : (a b : ℤ) → a -ℤ b ≡ pos 0 → a ≡ pos 1 → b ≡ pos 0 → ⊥
less_one a b e f g = omega (arith, sums, e, f, g)

least_difference : (a b : ℤ) → b ≤ℤ a → pos 0 ≤ℤ (a -ℤ b)
least_difference a b h = omega (arith, sums, h)

pub some_down : (f : Face) (h : Coefficients) (u : ℕ) → u < count_of_corners f → IsUp f h u → ((k : ℕ) → k < count_of_corners f → high (height f h k) ≤ℤ high (height f h (next_in_face k (count_of_corners f)))) → ⊥
some_down f h u lt up most =
    let g : ℕ → ℤ = λ k. high (height f h k) in
    less_one (g (next_in_face u (count_of_corners f))) (g u)
    (zero_below (λ i. g (next_in_face i (count_of_corners f)) -ℤ g i) (count_of_corners f) (λ i li. least_difference (g (next_in_face i (count_of_corners f))) (g i) (most i li)) (round_again g (count_of_corners f)) u lt)
    (high_above (height f h (next_in_face u (count_of_corners f))) up.high_end) (high_below (height f h u) up.low)

-- ---- all corners on one side
abbrev pub AreAbove : Face → Coefficients → Type 0
AreAbove f h = (k : ℕ) → k < count_of_corners f → pos 0 <ℤ height f h k

abbrev pub AreBelow : Face → Coefficients → Type 0
AreBelow f h = (k : ℕ) → k < count_of_corners f → height f h k <ℤ pos 0

one_zero : (a b : ℤ) → a ≡ b → a ≡ pos 0 → b ≡ pos 1 → ⊥
one_zero a b e f g = omega (arith, sums, e, f, g)

pub one_side : (f : Face) (h : Coefficients) (x : Coordinates) → IsSpot f h x → ((k : ℕ) → k < count_of_corners f → high (height f h (next_in_face k (count_of_corners f))) ≤ℤ high (height f h k)) → AreAbove f h ⊎ AreBelow f h
one_side f h x s most =
    let some : 0 < count_of_corners f = omega (arith, s.convex.three) in
    let same = same_high f h some most in
    elim (other_sign (height f h 0) (s.off 0 some)) [
      | inr above ↦ inl (λ k lt. elim (other_sign (height f h k) (s.off k lt)) [ inr good ↦ good | inl low ↦ absurd (one_zero _ _ (same k lt) (high_below (height f h k) low) (high_above (height f h 0) above)) ])
      | inl below ↦ inr (λ k lt. elim (other_sign (height f h k) (s.off k lt)) [ inl good ↦ good | inr up ↦ absurd (one_zero _ _ (sym (same k lt)) (high_below (height f h 0) below) (high_above (height f h k) up)) ])
    ]

pos_by_neg : (b s : ℤ) → b <ℤ pos 0 → (b *ℤ s) <ℤ pos 0 → pos 0 <ℤ s
pos_by_neg b s hb h = elim (signs s) [
  | inl below ↦ absurd (omega (arith, sums, h, neg_neg b s hb below))
  | inr other ↦ elim other [ inl none ↦ absurd (omega (arith, sums, h, most_most b s (omega (arith, sums, hb)) (omega (arith, sums, none)))) | inr above ↦ above ]
]

carry_above : (a b c z r s t u : ℤ) → a *ℤ r -ℤ b *ℤ s +ℤ c *ℤ t -ℤ z *ℤ u ≡ pos 0 → z ≡ pos 0 → pos 0 <ℤ a → pos 0 <ℤ b → pos 0 <ℤ c → pos 0 <ℤ r → pos 0 <ℤ t → pos 0 <ℤ s
carry_above a b c z r s t u e none ha hb hc hr ht = pos_cancel b s hb (omega (arith, sums, e, no_times z u none, pos_pos a r ha hr, pos_pos c t hc ht))

carry_below : (a b c z r s t u : ℤ) → a *ℤ r -ℤ b *ℤ s +ℤ c *ℤ t -ℤ z *ℤ u ≡ pos 0 → z ≡ pos 0 → a <ℤ pos 0 → b <ℤ pos 0 → c <ℤ pos 0 → pos 0 <ℤ r → pos 0 <ℤ t → pos 0 <ℤ s
carry_below a b c z r s t u e none ha hb hc hr ht = pos_by_neg b s hb (omega (arith, sums, e, no_times z u none, neg_pos a r ha hr, neg_pos c t hc ht))

-- a orientation_seen_from from corner 0 that is above 0 is handed on to the next corner
hand : (f : Face) (h : Coefficients) (x : Coordinates) → IsSpot f h x → AreAbove f h ⊎ AreBelow f h → ((k : ℕ) → k < count_of_corners f → pos 0 <ℤ lean f x k) → (k : ℕ) → k < count_of_corners f → pos 0 <ℤ orientation_seen_from f.plane (vertex f 0) (vertex f k) x → pos 0 <ℤ orientation_seen_from f.plane (vertex f 0) (vertex f (next_in_face k (count_of_corners f))) x
hand f h x s sided left k lt turned =
    let l = next_in_face k (count_of_corners f) in
    let hl = after_in k (count_of_corners f) lt in
    let some : 0 < count_of_corners f = omega (arith, lt) in
    let four = four_points h f.plane (vertex f 0) (vertex f k) (vertex f l) x s.convex.directed (s.convex.on 0 some) (s.convex.on k lt) (s.convex.on l hl) s.on in
    elim sided [
      | inl all ↦ carry_above (height f h 0) (height f h k) (height f h l) (value h x) (lean f x k) (orientation_seen_from f.plane (vertex f 0) (vertex f l) x) (orientation_seen_from f.plane (vertex f 0) (vertex f k) x) (orientation_seen_from f.plane (vertex f 0) (vertex f k) (vertex f l)) four s.level (all 0 some) (all k lt) (all l hl) (left k lt) turned
      | inr all ↦ carry_below (height f h 0) (height f h k) (height f h l) (value h x) (lean f x k) (orientation_seen_from f.plane (vertex f 0) (vertex f l) x) (orientation_seen_from f.plane (vertex f 0) (vertex f k) x) (orientation_seen_from f.plane (vertex f 0) (vertex f k) (vertex f l)) four s.level (all 0 some) (all k lt) (all l hl) (left k lt) turned
    ]

march : (f : Face) (h : Coefficients) (x : Coordinates) → IsSpot f h x → AreAbove f h ⊎ AreBelow f h → ((k : ℕ) → k < count_of_corners f → pos 0 <ℤ lean f x k) → (i : ℕ) → suc i < count_of_corners f → pos 0 <ℤ orientation_seen_from f.plane (vertex f 0) (vertex f (suc i)) x
march f h x s sided left zero lt = subst (λ (k : ℕ). pos 0 <ℤ orientation_seen_from f.plane (vertex f 0) (vertex f k) x) (after_inner 0 (count_of_corners f) lt) (left 0 (omega (arith, lt)))
march f h x s sided left (suc i) lt =
    subst (λ (k : ℕ). pos 0 <ℤ orientation_seen_from f.plane (vertex f 0) (vertex f k) x) (after_inner (suc i) (count_of_corners f) lt)
    (hand f h x s sided left (suc i) (omega (arith, lt)) (march f h x s sided left i (omega (arith, lt))))

not_above_none : (v : ℤ) → v ≡ pos 0 → pos 0 <ℤ v → ⊥
not_above_none v e h = omega (arith, sums, e, h)

-- the point isn't left of all edges then
pub not_inside : (f : Face) (h : Coefficients) (x : Coordinates) → IsSpot f h x → AreAbove f h ⊎ AreBelow f h → ((k : ℕ) → k < count_of_corners f → pos 0 <ℤ lean f x k) → ⊥
not_inside f h x s sided left =
    let i = count_of_corners f - 2 in
    let last : suc i < count_of_corners f = omega (arith, s.convex.three) in
    let ends : suc (suc i) ≡ count_of_corners f = omega (arith, s.convex.three) in
    not_above_none (orientation_seen_from f.plane (vertex f 0) (vertex f 0) x) (turn_none f.plane (vertex f 0) x)
    (subst (λ (k : ℕ). pos 0 <ℤ orientation_seen_from f.plane (vertex f 0) (vertex f k) x) (after_last (suc i) (count_of_corners f) ends) (hand f h x s sided left (suc i) last (march f h x s sided left i last)))

-- ---- at most one edge goes up, and at most one down
ups_clash : (a b c d r s t u : ℤ) → a *ℤ r -ℤ b *ℤ s +ℤ c *ℤ t -ℤ d *ℤ u ≡ pos 0 → a <ℤ pos 0 → pos 0 <ℤ b → c <ℤ pos 0 → pos 0 <ℤ d → pos 0 ≤ℤ r → pos 0 <ℤ s → pos 0 ≤ℤ t → pos 0 ≤ℤ u → ⊥
ups_clash a b c d r s t u e ha hb hc hd hr hs ht hu =
    omega (arith, sums, e, most_least a r (omega (arith, sums, ha)) hr, pos_pos b s hb hs, most_least c t (omega (arith, sums, hc)) ht, least_least d u (omega (arith, sums, hd)) hu)

downs_clash : (a b c d r s t u : ℤ) → a *ℤ r -ℤ b *ℤ s +ℤ c *ℤ t -ℤ d *ℤ u ≡ pos 0 → pos 0 <ℤ a → b <ℤ pos 0 → pos 0 <ℤ c → d <ℤ pos 0 → pos 0 ≤ℤ r → pos 0 <ℤ s → pos 0 ≤ℤ t → pos 0 ≤ℤ u → ⊥
downs_clash a b c d r s t u e ha hb hc hd hr hs ht hu =
    omega (arith, sums, e, least_least a r (omega (arith, sums, ha)) hr, neg_pos b s hb hs, least_least c t (omega (arith, sums, hc)) ht, most_least d u (omega (arith, sums, hd)) hu)

by_round : (n : Coefficients) (p q r : Coordinates) → pos 0 ≤ℤ orientation_seen_from n q r p → pos 0 ≤ℤ orientation_seen_from n p q r
by_round n p q r h = subst (λ (v : ℤ). pos 0 ≤ℤ v) (turn_round n p q r) h

by_round_above : (n : Coefficients) (p q r : Coordinates) → pos 0 <ℤ orientation_seen_from n q r p → pos 0 <ℤ orientation_seen_from n p q r
by_round_above n p q r h = subst (λ (v : ℤ). pos 0 <ℤ v) (turn_round n p q r) h

pub one_up : (f : Face) (h : Coefficients) (x : Coordinates) → IsSpot f h x → (u k : ℕ) → u < count_of_corners f → k < count_of_corners f → IsUp f h u → IsUp f h k → u ≢ k → ⊥
one_up f h x s u k hu hk up also apart =
    let v = next_in_face u (count_of_corners f) in let l = next_in_face k (count_of_corners f) in
    let hv = after_in u (count_of_corners f) hu in let hl = after_in k (count_of_corners f) hk in
    let c = s.convex in
    ups_clash (height f h u) (height f h v) (height f h k) (height f h l) _ _ _ _
    (four_points h f.plane (vertex f u) (vertex f v) (vertex f k) (vertex f l) c.directed (c.on u hu) (c.on v hv) (c.on k hk) (c.on l hl))
    up.low up.high_end also.low also.high_end
    (by_round f.plane (vertex f v) (vertex f k) (vertex f l) (least_left f c k v hk hv))
    (by_round_above f.plane (vertex f u) (vertex f k) (vertex f l) (c.left k u hk hu apart (λ e. both_ways (height f h u) up.low (subst (λ (j : ℕ). pos 0 <ℤ height f h j) (sym e) also.high_end))))
    (least_left f c u l hu hl) (least_left f c u k hu hk)

pub one_down : (f : Face) (h : Coefficients) (x : Coordinates) → IsSpot f h x → (u k : ℕ) → u < count_of_corners f → k < count_of_corners f → IsDown f h u → IsDown f h k → u ≢ k → ⊥
one_down f h x s u k hu hk down also apart =
    let v = next_in_face u (count_of_corners f) in let l = next_in_face k (count_of_corners f) in
    let hv = after_in u (count_of_corners f) hu in let hl = after_in k (count_of_corners f) hk in
    let c = s.convex in
    downs_clash (height f h u) (height f h v) (height f h k) (height f h l) _ _ _ _
    (four_points h f.plane (vertex f u) (vertex f v) (vertex f k) (vertex f l) c.directed (c.on u hu) (c.on v hv) (c.on k hk) (c.on l hl))
    down.high_end down.low also.high_end also.low
    (by_round f.plane (vertex f v) (vertex f k) (vertex f l) (least_left f c k v hk hv))
    (by_round_above f.plane (vertex f u) (vertex f k) (vertex f l) (c.left k u hk hu apart (λ e. both_ways (height f h u) (subst (λ (j : ℕ). height f h j <ℤ pos 0) (sym e) also.low) down.high_end)))
    (least_left f c u l hu hl) (least_left f c u k hu hk)
