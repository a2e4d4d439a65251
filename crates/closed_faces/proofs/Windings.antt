-- Whether a point is inside a convex face, as a sum over the edges that cross a second plane.
use Rattle.std.proofs.Common.{◌≡◌, ◌≢◌, ◌⊎◌, inl, inr, ℕ, zero, suc, ◌+◌, ◌<◌, ◌≤◌, Bool, true, false, cond, ◌&&◌, List, [], ◌∷◌, refl, sym, ap, ap₂, ◌∙◌, subst, arith, int_lt, ℤ, pos, ◌+ℤ◌, ◌-ℤ◌, ◌*ℤ◌, ◌<ℤ◌, ◌≤ℤ◌}
use Rattle.std.proofs.lemmas.Bool.{true≢false}
use Rattle.plane_predicate.specs.Space.{Coefficients, Coordinates, orientation_seen_from, value}
use Rattle.plane_predicate.proofs.lemmas.IntegerRing.{sums}
use Rattle.plane_predicate.proofs.lemmas.Signs.{signs, least_least, least_most, most_least, most_most, neg_pos, pos_neg, pos_pos}
use Rattle.primitives.specs.DirectedEdges.{next_in_face}
use Rattle.closed_faces.specs.Crossings.{edge_of_face, goes_ahead, is_left_of_all, count_of_corners, vertex, Face, IsConvexFace}
use Rattle.closed_faces.proofs.Coplanar.{between, side_plane, side_seen, weight_plane, weight_seen}
use Rattle.closed_faces.proofs.lemmas.Edges.{after_in}
use Rattle.closed_faces.proofs.Inside.{ahead_decides, all_or_some, above_decides, below_decides, both_ways, height, lean, least_left, left_decides, not_inside, not_true, one_down, one_side, one_up, other_sign, same_or_other, some_down, step_down, step_up, sum_none, sum_one, AreAbove, AreBelow, IsDown, IsSpot, IsUp}
use Rattle.closed_faces.proofs.lemmas.Sums.{sum_below, sum_of_differences}

-- ---- signs of sums of products
above_of : (k t a b c d : ℤ) → k *ℤ t ≡ a *ℤ b +ℤ c *ℤ d → pos 0 <ℤ a → pos 0 <ℤ b → pos 0 <ℤ c → pos 0 ≤ℤ d → pos 0 <ℤ (k *ℤ t)
above_of k t a b c d e ha hb hc hd = omega (arith, sums, e, pos_pos a b ha hb, least_least c d (omega (arith, sums, hc)) hd)

first_above : (k t : ℤ) → pos 0 <ℤ (k *ℤ t) → pos 0 <ℤ t → pos 0 <ℤ k
first_above k t h ht = elim (signs k) [
  | inl below ↦ absurd (omega (arith, sums, h, neg_pos k t below ht))
  | inr other ↦ elim other [ inl none ↦ absurd (omega (arith, sums, h, most_least k t (omega (arith, sums, none)) (omega (arith, sums, ht)))) | inr above ↦ above ]
]

second_above : (k t : ℤ) → pos 0 <ℤ (k *ℤ t) → pos 0 <ℤ k → pos 0 <ℤ t
second_above k t h hk = elim (signs t) [
  | inl below ↦ absurd (omega (arith, sums, h, pos_neg k t hk below))
  | inr other ↦ elim other [ inl none ↦ absurd (omega (arith, sums, h, least_most k t (omega (arith, sums, hk)) (omega (arith, sums, none)))) | inr above ↦ above ]
]

clash : (k t a b c d : ℤ) → k *ℤ t ≡ a *ℤ b +ℤ c *ℤ d → pos 0 ≤ℤ k → pos 0 <ℤ t → a <ℤ pos 0 → pos 0 <ℤ b → c <ℤ pos 0 → pos 0 <ℤ d → ⊥
clash k t a b c d e hk ht ha hb hc hd = omega (arith, sums, e, least_least k t hk (omega (arith, sums, ht)), neg_pos a b ha hb, neg_pos c d hc hd)

-- what two numbers above and below 0 make of two others
spread : (v u a b : ℤ) → pos 0 <ℤ v → u <ℤ pos 0 → pos 0 ≤ℤ a → pos 0 ≤ℤ b → pos 0 ≤ℤ (v *ℤ a -ℤ u *ℤ b)
spread v u a b hv hu ha hb = omega (arith, sums, least_least v a (omega (arith, sums, hv)) ha, most_least u b (omega (arith, sums, hu)) hb)

spread_first : (v u a b : ℤ) → pos 0 <ℤ v → u <ℤ pos 0 → pos 0 <ℤ a → pos 0 ≤ℤ b → pos 0 <ℤ (v *ℤ a -ℤ u *ℤ b)
spread_first v u a b hv hu ha hb = omega (arith, sums, pos_pos v a hv ha, most_least u b (omega (arith, sums, hu)) hb)

spread_second : (v u a b : ℤ) → pos 0 <ℤ v → u <ℤ pos 0 → pos 0 ≤ℤ a → pos 0 <ℤ b → pos 0 <ℤ (v *ℤ a -ℤ u *ℤ b)
spread_second v u a b hv hu ha hb = omega (arith, sums, least_least v a (omega (arith, sums, hv)) ha, neg_pos u b hu hb)

least_by : (x : ℤ) → pos 0 <ℤ x → pos 0 ≤ℤ x
least_by x h = omega (arith, sums, h)

true_is_false : true ≡ false → ⊥
true_is_false = true≢false

weighed : (f : Face) → IsConvexFace f → (k : ℕ) → k < count_of_corners f → pos 0 <ℤ value weight_plane (vertex f k)
weighed f c k lt = subst (λ (t : ℤ). pos 0 <ℤ t) (sym (weight_seen (vertex f k))) (c.weights k lt)

weighed_point : (x : Coordinates) → pos 0 <ℤ x.w → pos 0 <ℤ value weight_plane x
weighed_point x h = subst (λ (t : ℤ). pos 0 <ℤ t) (sym (weight_seen x)) h

-- ---- one edge u goes up, and one edge d goes down
record IsPair (f : Face) (h : Coefficients) (x : Coordinates) (u d : ℕ) : Type 0 where
  spot : IsSpot f h x
  up_in : u < count_of_corners f
  down_in : d < count_of_corners f
  up : IsUp f h u
  down : IsDown f h d

-- how far the edge down is from the line of the edge up
abbrev width : Face → Coefficients → ℕ → ℕ → ℤ
width f h u d =
    height f h d *ℤ orientation_seen_from f.plane (vertex f u) (vertex f (next_in_face u (count_of_corners f))) (vertex f (next_in_face d (count_of_corners f)))
    -ℤ height f h (next_in_face d (count_of_corners f)) *ℤ orientation_seen_from f.plane (vertex f u) (vertex f (next_in_face u (count_of_corners f))) (vertex f d)

width_least : (f : Face) (h : Coefficients) (x : Coordinates) (u d : ℕ) → IsPair f h x u d → pos 0 ≤ℤ width f h u d
width_least f h x u d p =
    let e = next_in_face d (count_of_corners f) in
    spread (height f h d) (height f h e) _ _ p.down.high_end p.down.low (least_left f p.spot.convex u e p.up_in (after_in d (count_of_corners f) p.down_in)) (least_left f p.spot.convex u d p.up_in p.down_in)

-- what a plane m sees of x, by what it sees of the ends of the two edges
seen : (m : Coefficients) (f : Face) (h : Coefficients) (x : Coordinates) (u d : ℕ) → IsPair f h x u d →
    width f h u d *ℤ value m x ≡ lean f x d *ℤ (height f h (next_in_face u (count_of_corners f)) *ℤ value m (vertex f u) -ℤ height f h u *ℤ value m (vertex f (next_in_face u (count_of_corners f)))) +ℤ lean f x u *ℤ (height f h d *ℤ value m (vertex f (next_in_face d (count_of_corners f))) -ℤ height f h (next_in_face d (count_of_corners f)) *ℤ value m (vertex f d))
seen m f h x u d p =
    let v = next_in_face u (count_of_corners f) in let e = next_in_face d (count_of_corners f) in
    let c = p.spot.convex in
    between m h f.plane (vertex f u) (vertex f v) (vertex f d) (vertex f e) x c.directed (c.on u p.up_in) (c.on v (after_in u (count_of_corners f) p.up_in)) (c.on d p.down_in) (c.on e (after_in d (count_of_corners f) p.down_in)) p.spot.on p.spot.level

weighed_up : (f : Face) (h : Coefficients) (x : Coordinates) (u d : ℕ) → IsPair f h x u d → pos 0 <ℤ (height f h (next_in_face u (count_of_corners f)) *ℤ value weight_plane (vertex f u) -ℤ height f h u *ℤ value weight_plane (vertex f (next_in_face u (count_of_corners f))))
weighed_up f h x u d p =
    let v = next_in_face u (count_of_corners f) in
    spread_first (height f h v) (height f h u) _ _ p.up.high_end p.up.low (weighed f p.spot.convex u p.up_in) (least_by _ (weighed f p.spot.convex v (after_in u (count_of_corners f) p.up_in)))

weighed_down : (f : Face) (h : Coefficients) (x : Coordinates) (u d : ℕ) → IsPair f h x u d → pos 0 <ℤ (height f h d *ℤ value weight_plane (vertex f (next_in_face d (count_of_corners f))) -ℤ height f h (next_in_face d (count_of_corners f)) *ℤ value weight_plane (vertex f d))
weighed_down f h x u d p =
    let e = next_in_face d (count_of_corners f) in
    spread_first (height f h d) (height f h e) _ _ p.down.high_end p.down.low (weighed f p.spot.convex e (after_in d (count_of_corners f) p.down_in)) (least_by _ (weighed f p.spot.convex d p.down_in))

-- the point isn't to the right of both
not_both : (f : Face) (h : Coefficients) (x : Coordinates) (u d : ℕ) → IsPair f h x u d → lean f x u <ℤ pos 0 → lean f x d <ℤ pos 0 → ⊥
not_both f h x u d p hu hd =
    clash (width f h u d) (value weight_plane x) (lean f x d) _ (lean f x u) _ (seen weight_plane f h x u d p) (width_least f h x u d p) (weighed_point x p.spot.weight) hd (weighed_up f h x u d p) hu (weighed_down f h x u d p)

width_above : (f : Face) (h : Coefficients) (x : Coordinates) (u d : ℕ) → IsPair f h x u d → pos 0 <ℤ lean f x u → pos 0 <ℤ lean f x d → pos 0 <ℤ width f h u d
width_above f h x u d p hu hd =
    first_above (width f h u d) (value weight_plane x)
    (above_of (width f h u d) (value weight_plane x) (lean f x d) _ (lean f x u) _ (seen weight_plane f h x u d p) hd (weighed_up f h x u d p) hu (least_by _ (weighed_down f h x u d p)))
    (weighed_point x p.spot.weight)

-- left of both, it is left of all
left_of_other : (f : Face) (h : Coefficients) (x : Coordinates) (u d : ℕ) → IsPair f h x u d → pos 0 <ℤ lean f x u → pos 0 <ℤ lean f x d → (k : ℕ) → k < count_of_corners f → k ≢ u → k ≢ d → pos 0 <ℤ lean f x k
left_of_other f h x u d p hu hd k lt apart other =
    let n = count_of_corners f in
    let v = next_in_face u n in let e = next_in_face d n in let l = next_in_face k n in
    let c = p.spot.convex in
    let m = side_plane f.plane (vertex f k) (vertex f l) in
    let at : (i : ℕ) → i < n → pos 0 ≤ℤ value m (vertex f i) = λ i li. subst (λ (t : ℤ). pos 0 ≤ℤ t) (sym (side_seen f.plane (vertex f k) (vertex f l) (vertex f i))) (least_left f c k i lt li) in
    let strictly : (i : ℕ) → i < n → i ≢ k → i ≢ l → pos 0 <ℤ value m (vertex f i) = λ i li a b. subst (λ (t : ℤ). pos 0 <ℤ t) (sym (side_seen f.plane (vertex f k) (vertex f l) (vertex f i))) (c.left k i lt li a b) in
    let hv = after_in u n p.up_in in let he = after_in d n p.down_in in
    let first : pos 0 <ℤ (height f h v *ℤ value m (vertex f u) -ℤ height f h u *ℤ value m (vertex f v)) = elim (same_or_other u l) [
      | inr off ↦ spread_first (height f h v) (height f h u) _ _ p.up.high_end p.up.low (strictly u p.up_in (λ s. apart (sym s)) off) (at v hv)
      | inl same ↦ spread_second (height f h v) (height f h u) _ _ p.up.high_end p.up.low (at u p.up_in)
          (strictly v hv
          (λ s. one_down f h x p.spot k d lt p.down_in (record { high_end = subst (λ (i : ℕ). pos 0 <ℤ height f h i) s p.up.high_end; low = subst (λ (i : ℕ). height f h i <ℤ pos 0) same p.up.low }) p.down other)
          (λ s. both_ways (height f h u) p.up.low (subst (λ (i : ℕ). pos 0 <ℤ height f h i) (s ∙ sym same) p.up.high_end)))
    ] in
    let second : pos 0 ≤ℤ (height f h d *ℤ value m (vertex f e) -ℤ height f h e *ℤ value m (vertex f d)) = spread (height f h d) (height f h e) _ _ p.down.high_end p.down.low (at e he) (at d p.down_in) in
    subst (λ (t : ℤ). pos 0 <ℤ t) (side_seen f.plane (vertex f k) (vertex f l) x)
    (second_above (width f h u d) (value m x) (above_of (width f h u d) (value m x) (lean f x d) _ (lean f x u) _ (seen m f h x u d p) hd first hu second) (width_above f h x u d p hu hd))

left_of_each : (f : Face) (h : Coefficients) (x : Coordinates) (u d : ℕ) → IsPair f h x u d → pos 0 <ℤ lean f x u → pos 0 <ℤ lean f x d → (k : ℕ) → k < count_of_corners f → pos 0 <ℤ lean f x k
left_of_each f h x u d p hu hd k lt = elim (same_or_other k u) [
  | inl e ↦ subst (λ (i : ℕ). pos 0 <ℤ lean f x i) (sym e) hu
  | inr apart ↦ elim (same_or_other k d) [
    | inl e ↦ subst (λ (i : ℕ). pos 0 <ℤ lean f x i) (sym e) hd
    | inr other ↦ left_of_other f h x u d p hu hd k lt apart other
  ]
]

-- ---- the sum
abbrev pub one : Bool → ℤ
one b = cond b (pos 1) (pos 0)

-- 1 for an edge that goes up with the point strictly left of it
abbrev pub ups : Face → Coefficients → Coordinates → ℕ → ℤ
ups f h x k = one (goes_ahead h (vertex f k) (vertex f (next_in_face k (count_of_corners f))) && int_lt (pos 0) (lean f x k))

-- 1 for an edge that goes down with the point strictly right of it
abbrev pub downs : Face → Coefficients → Coordinates → ℕ → ℤ
downs f h x k = one (goes_ahead h (vertex f (next_in_face k (count_of_corners f))) (vertex f k) && int_lt (lean f x k) (pos 0))

one_false : (b c : Bool) → b ≡ false → one (b && c) ≡ pos 0
one_false true c e = absurd (true_is_false e)
one_false false c e = refl

one_true : (b c : Bool) → b ≡ true → one (b && c) ≡ one c
one_true true c e = refl
one_true false c e = absurd (true_is_false (sym e))

one_when : (b : Bool) → b ≡ true → one b ≡ pos 1
one_when true e = refl
one_when false e = absurd (true_is_false (sym e))

one_unless : (b : Bool) → (b ≡ true → ⊥) → one b ≡ pos 0
one_unless true h = absurd (h refl)
one_unless false h = refl

no_ups : (f : Face) (h : Coefficients) (x : Coordinates) (k : ℕ) → (IsUp f h k → ⊥) → ups f h x k ≡ pos 0
no_ups f h x k none =
    let a = vertex f k in let b = vertex f (next_in_face k (count_of_corners f)) in
    one_false (goes_ahead h a b) (int_lt (pos 0) (lean f x k)) (not_true (goes_ahead h a b) (λ e. (let both = (ahead_decides h a b).0 e in none (record { low = both.0; high_end = both.1 }))))

no_downs : (f : Face) (h : Coefficients) (x : Coordinates) (k : ℕ) → (IsDown f h k → ⊥) → downs f h x k ≡ pos 0
no_downs f h x k none =
    let a = vertex f k in let b = vertex f (next_in_face k (count_of_corners f)) in
    one_false (goes_ahead h b a) (int_lt (lean f x k) (pos 0)) (not_true (goes_ahead h b a) (λ e. (let both = (ahead_decides h b a).0 e in none (record { low = both.0; high_end = both.1 }))))

nothing : (a b : ℤ) → a ≡ pos 0 → b ≡ pos 0 → a -ℤ b ≡ pos 0
nothing a b e f = omega (arith, sums, e, f)

sided_up : (f : Face) (h : Coefficients) (k : ℕ) → k < count_of_corners f → AreAbove f h ⊎ AreBelow f h → IsUp f h k → ⊥
sided_up f h k lt (inl all) up = both_ways (height f h k) up.low (all k lt)
sided_up f h k lt (inr all) up = both_ways (height f h (next_in_face k (count_of_corners f))) (all (next_in_face k (count_of_corners f)) (after_in k (count_of_corners f) lt)) up.high_end

sided_down : (f : Face) (h : Coefficients) (k : ℕ) → k < count_of_corners f → AreAbove f h ⊎ AreBelow f h → IsDown f h k → ⊥
sided_down f h k lt (inl all) down = both_ways (height f h (next_in_face k (count_of_corners f))) down.low (all (next_in_face k (count_of_corners f)) (after_in k (count_of_corners f) lt))
sided_down f h k lt (inr all) down = both_ways (height f h k) (all k lt) down.high_end

on_one_side : (f : Face) (h : Coefficients) (x : Coordinates) → IsSpot f h x → AreAbove f h ⊎ AreBelow f h → one (is_left_of_all f x) ≡ sum_below (λ k. ups f h x k -ℤ downs f h x k) (count_of_corners f)
on_one_side f h x s sided =
    one_unless (is_left_of_all f x) (λ e. not_inside f h x s sided ((left_decides f x).0 e))
    ∙ sym (sum_none (λ k. ups f h x k -ℤ downs f h x k) (count_of_corners f) (λ k lt. nothing (ups f h x k) (downs f h x k) (no_ups f h x k (sided_up f h k lt sided)) (no_downs f h x k (sided_down f h k lt sided))))

difference : (a b c x y : ℤ) → a ≡ x → b ≡ y → c ≡ x -ℤ y → c ≡ a -ℤ b
difference a b c x y e f g = omega (arith, sums, e, f, g)

-- the test of the two edges
by_pair : (f : Face) (h : Coefficients) (x : Coordinates) (u d : ℕ) → IsPair f h x u d → one (is_left_of_all f x) ≡ one (int_lt (pos 0) (lean f x u)) -ℤ one (int_lt (lean f x d) (pos 0))
by_pair f h x u d p =
    let a = lean f x u in let b = lean f x d in
    let cut_up = p.spot.apart u p.up_in (inl ((ahead_decides h (vertex f u) (vertex f (next_in_face u (count_of_corners f)))).1 (p.up.low, p.up.high_end))) in
    let cut_down = p.spot.apart d p.down_in (inr ((ahead_decides h (vertex f (next_in_face d (count_of_corners f))) (vertex f d)).1 (p.down.low, p.down.high_end))) in
    let out : (k : ℕ) → k < count_of_corners f → lean f x k <ℤ pos 0 → one (is_left_of_all f x) ≡ pos 0 = λ k lt below. one_unless (is_left_of_all f x) (λ e. both_ways (lean f x k) below ((left_decides f x).0 e k lt)) in
    let yes_up : pos 0 <ℤ a → one (int_lt (pos 0) a) ≡ pos 1 = λ above. one_when (int_lt (pos 0) a) ((above_decides a).1 above) in
    let no_up : a <ℤ pos 0 → one (int_lt (pos 0) a) ≡ pos 0 = λ below. one_unless (int_lt (pos 0) a) (λ e. both_ways a below ((above_decides a).0 e)) in
    let yes_down : b <ℤ pos 0 → one (int_lt b (pos 0)) ≡ pos 1 = λ below. one_when (int_lt b (pos 0)) ((below_decides b).1 below) in
    let no_down : pos 0 <ℤ b → one (int_lt b (pos 0)) ≡ pos 0 = λ above. one_unless (int_lt b (pos 0)) (λ e. both_ways b ((below_decides b).0 e) above) in
    elim (other_sign a cut_up) [
      | inl below ↦ elim (other_sign b cut_down) [
        | inl low ↦ absurd (not_both f h x u d p below low)
        | inr above ↦ difference _ _ _ (pos 0) (pos 0) (no_up below) (no_down above) (out u p.up_in below)
      ]
      | inr left ↦ elim (other_sign b cut_down) [
        | inl low ↦ difference _ _ _ (pos 1) (pos 1) (yes_up left) (yes_down low) (out d p.down_in low)
        | inr above ↦ difference _ _ _ (pos 1) (pos 0) (yes_up left) (no_down above) (one_when (is_left_of_all f x) ((left_decides f x).1 (left_of_each f h x u d p left above)))
      ]
    ]

with_pair : (f : Face) (h : Coefficients) (x : Coordinates) (u d : ℕ) → IsPair f h x u d → one (is_left_of_all f x) ≡ sum_below (λ k. ups f h x k -ℤ downs f h x k) (count_of_corners f)
with_pair f h x u d p =
    let first : sum_below (ups f h x) (count_of_corners f) ≡ one (int_lt (pos 0) (lean f x u)) =
    sum_one (ups f h x) (count_of_corners f) u p.up_in (λ k lt apart. no_ups f h x k (λ also. one_up f h x p.spot k u lt p.up_in also p.up apart))
    ∙ one_true (goes_ahead h (vertex f u) (vertex f (next_in_face u (count_of_corners f)))) (int_lt (pos 0) (lean f x u)) ((ahead_decides h (vertex f u) (vertex f (next_in_face u (count_of_corners f)))).1 (p.up.low, p.up.high_end)) in
    let second : sum_below (downs f h x) (count_of_corners f) ≡ one (int_lt (lean f x d) (pos 0)) =
    sum_one (downs f h x) (count_of_corners f) d p.down_in (λ k lt apart. no_downs f h x k (λ also. one_down f h x p.spot k d lt p.down_in also p.down apart))
    ∙ one_true (goes_ahead h (vertex f (next_in_face d (count_of_corners f))) (vertex f d)) (int_lt (lean f x d) (pos 0)) ((ahead_decides h (vertex f (next_in_face d (count_of_corners f))) (vertex f d)).1 (p.down.low, p.down.high_end)) in
    by_pair f h x u d p ∙ sym (sum_of_differences (ups f h x) (downs f h x) (count_of_corners f) ∙ ap₂ (λ (a b : ℤ). a -ℤ b) first second)

-- the point is inside where more edges go up on its right hand than down on its left
pub winding : (f : Face) (h : Coefficients) (x : Coordinates) → IsSpot f h x → one (is_left_of_all f x) ≡ sum_below (λ k. ups f h x k -ℤ downs f h x k) (count_of_corners f)
winding f h x s = elim (all_or_some _ (IsUp f h) (count_of_corners f) (step_up f h x s)) [
  | inl none ↦ on_one_side f h x s (one_side f h x s none)
  | inr up ↦ elim (all_or_some _ (IsDown f h) (count_of_corners f) (step_down f h x s)) [
    | inl none ↦ absurd (some_down f h up.0 up.1 up.2 none)
    | inr down ↦ with_pair f h x up.0 down.0 (record { spot = s; up_in = up.1; down_in = down.1; up = up.2; down = down.2 })
  ]
]
