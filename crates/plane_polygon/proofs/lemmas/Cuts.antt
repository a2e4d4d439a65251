-- Where a plane crosses an edge.
use Rattle.std.proofs.Common.{◌≡◌, ◌⊎◌, inl, inr, refl, sym, ap, ◌∙◌, subst, arith, ℤ, pos, ◌+ℤ◌, ◌-ℤ◌, ◌*ℤ◌, neg_ℤ, ◌<ℤ◌, ◌≤ℤ◌}
use Rattle.std.proofs.Math.IntN.{*ℤ-zero, zero-*ℤ}
use Rattle.plane_predicate.specs.Space.{Coefficients, Coordinates, value, meeting_by_cramers_rule}
use Rattle.plane_predicate.proofs.lemmas.IntegerRing.{sums, mul_comm_ℤ, mul_neg_left}
use Rattle.plane_predicate.proofs.lemmas.Identities.{combine, as_cramer, growth, growths, value_combine, value_swapped, weight_swapped}
use Rattle.plane_predicate.proofs.lemmas.Signs.{pos_pos, neg_neg, pos_neg, neg_pos, least_least, least_most, neg_cancel, pos_cancel}

-- p is behind r and q is not, both on n and e
pub record Crossing (n e r : Coefficients) (p q : Coordinates) : Type 0 where
  pub p_weight : pos 0 <ℤ p.w
  pub q_weight : pos 0 <ℤ q.w
  pub p_on : value n p ≡ pos 0
  pub q_on : value n q ≡ pos 0
  pub p_edge : value e p ≡ pos 0
  pub q_edge : value e q ≡ pos 0
  pub before : value r p <ℤ pos 0
  pub past : pos 0 ≤ℤ value r q

grown : (a b : ℤ) → pos 0 ≤ℤ a → b <ℤ pos 0 → pos 0 <ℤ (a -ℤ b)
grown a b h k = omega (arith, sums)

pub lt_le : (x : ℤ) → pos 0 <ℤ x → pos 0 ≤ℤ x
lt_le x h = omega (arith, sums)

same_product : (a b : ℤ) → a -ℤ b ≡ pos 0 → a ≡ b
same_product a b e = omega (arith, sums)

zero_least : (x : ℤ) → x ≡ pos 0 → pos 0 ≤ℤ x
zero_least x e = omega (arith, sums)

no_growth : (u v x y : ℤ) → x ≡ pos 0 → y ≡ pos 0 → u *ℤ x -ℤ v *ℤ y ≡ pos 0
no_growth u v x y hx hy = rw (hx, hy, *ℤ-zero u, *ℤ-zero v) refl

-- u y - v x is above 0
grows : (u v x y : ℤ) → pos 0 <ℤ u → pos 0 <ℤ v → x <ℤ pos 0 → pos 0 ≤ℤ y → pos 0 <ℤ (u *ℤ y -ℤ v *ℤ x)
grows u v x y hu hv hx hy = grown (u *ℤ y) (v *ℤ x) (least_least u y (lt_le u hu) hy) (pos_neg v x hv hx)

-- the sign of a factor from an equation of products
other_positive : (t g w f : ℤ) → pos 0 <ℤ t → pos 0 <ℤ g → pos 0 <ℤ f → t *ℤ g -ℤ w *ℤ f ≡ pos 0 → pos 0 <ℤ w
other_positive t g w f ht hg hf e = pos_cancel f w hf (subst (λ (x : ℤ). pos 0 <ℤ x) (same_product (t *ℤ g) (w *ℤ f) e ∙ mul_comm_ℤ w f) (pos_pos t g ht hg))

-- the way along e turns left where it meets r, as it does at the next edge f
pub crossing_turns : (n e f r : Coefficients) (p q : Coordinates) → Crossing n e r p q → pos 0 <ℤ (meeting_by_cramers_rule n e f).w → value f p <ℤ pos 0 → value f q ≡ pos 0 → pos 0 <ℤ (meeting_by_cramers_rule n e r).w
crossing_turns n e f r p q c t fp fq =
    other_positive (meeting_by_cramers_rule n e f).w (growth r p q) (meeting_by_cramers_rule n e r).w (growth f p q) t
    (grows p.w q.w (value r p) (value r q) c.p_weight c.q_weight c.before c.past)
    (grows p.w q.w (value f p) (value f q) c.p_weight c.q_weight fp (zero_least (value f q) fq))
    (growths n e f r p q ∙ no_growth (meeting_by_cramers_rule e f r).w (meeting_by_cramers_rule n f r).w (growth n p q) (growth e p q) (no_growth p.w q.w (value n q) (value n p) c.q_on c.p_on) (no_growth p.w q.w (value e q) (value e p) c.q_edge c.p_edge))

-- the point of the way from p to q that lies on r
abbrev pub crossing : Coefficients → Coordinates → Coordinates → Coordinates
crossing r p q = combine (value r q) p (neg_ℤ (value r p)) q

swap_zero : (x y : ℤ) → y *ℤ x +ℤ neg_ℤ x *ℤ y ≡ pos 0
swap_zero x y = omega (arith, sums, mul_neg_left x y, mul_comm_ℤ x y)

two_zeros : (u v x y : ℤ) → x ≡ pos 0 → y ≡ pos 0 → u *ℤ x +ℤ v *ℤ y ≡ pos 0
two_zeros u v x y hx hy = rw (hx, hy, *ℤ-zero u, *ℤ-zero v) refl

three_zeros : (x y z a b c l r : ℤ) → x ≡ pos 0 → y ≡ pos 0 → z ≡ pos 0 → l -ℤ r ≡ x *ℤ a +ℤ y *ℤ b +ℤ z *ℤ c → l ≡ r
three_zeros x y z a b c l r hx hy hz e = same_product l r (e ∙ rw (hx, hy, hz, zero-*ℤ a, zero-*ℤ b, zero-*ℤ c) refl)

-- what the meeting of n, e and r says of m, as a combination of p and q
pub meeting_value : (n e r m : Coefficients) (p q : Coordinates) → Crossing n e r p q →
    (meeting_by_cramers_rule n e r).w *ℤ (value r q *ℤ value m p +ℤ neg_ℤ (value r p) *ℤ value m q) ≡ (value r q *ℤ p.w +ℤ neg_ℤ (value r p) *ℤ q.w) *ℤ value m (meeting_by_cramers_rule n e r)
meeting_value n e r m p q c =
    let v = crossing r p q in
    ap (λ (x : ℤ). (meeting_by_cramers_rule n e r).w *ℤ x) (sym (value_combine m (value r q) p (neg_ℤ (value r p)) q))
    ∙ three_zeros (value n v) (value e v) (value r v) (meeting_by_cramers_rule m e r).w (meeting_by_cramers_rule n m r).w (meeting_by_cramers_rule n e m).w ((meeting_by_cramers_rule n e r).w *ℤ value m v) (v.w *ℤ value m (meeting_by_cramers_rule n e r))
    (value_combine n (value r q) p (neg_ℤ (value r p)) q ∙ two_zeros (value r q) (neg_ℤ (value r p)) (value n p) (value n q) c.p_on c.q_on)
    (value_combine e (value r q) p (neg_ℤ (value r p)) q ∙ two_zeros (value r q) (neg_ℤ (value r p)) (value e p) (value e q) c.p_edge c.q_edge)
    (value_combine r (value r q) p (neg_ℤ (value r p)) q ∙ swap_zero (value r p) (value r q))
    (as_cramer n e r m v)

pub weight_above : (a b : ℤ) → pos 0 ≤ℤ a → pos 0 <ℤ b → pos 0 <ℤ (a +ℤ b)
weight_above a b h k = omega (arith, sums)

both_below : (a b : ℤ) → (a ≤ℤ pos 0) × (b <ℤ pos 0) ⊎ (a <ℤ pos 0) × (b ≤ℤ pos 0) → (a +ℤ b) <ℤ pos 0
both_below a b (inl h) = omega (arith, sums)
both_below a b (inr h) = omega (arith, sums)

pub turned : (x : ℤ) → x <ℤ pos 0 → pos 0 <ℤ neg_ℤ x
turned x h = omega (arith, sums)

below_from : (u v x y : ℤ) → pos 0 ≤ℤ u → pos 0 <ℤ v → x ≤ℤ pos 0 → y ≤ℤ pos 0 → (y <ℤ pos 0) ⊎ ((x <ℤ pos 0) × (pos 0 <ℤ u)) → (u *ℤ x +ℤ v *ℤ y) <ℤ pos 0
below_from u v x y hu hv hx hy (inl h) = both_below (u *ℤ x) (v *ℤ y) (inl (least_most u x hu hx, pos_neg v y hv h))
below_from u v x y hu hv hx hy (inr h) = both_below (u *ℤ x) (v *ℤ y) (inr (pos_neg u x h.1 h.0, least_most v y (lt_le v hv) hy))

-- the meeting is strictly behind m, where neither end is ahead of m and q is behind it, or p is and q is ahead of r
pub crossing_behind : (n e r m : Coefficients) (p q : Coordinates) → Crossing n e r p q → pos 0 <ℤ (meeting_by_cramers_rule n e r).w → value m p ≤ℤ pos 0 → value m q ≤ℤ pos 0 → (value m q <ℤ pos 0) ⊎ ((value m p <ℤ pos 0) × (pos 0 <ℤ value r q)) → value m (meeting_by_cramers_rule n e r) <ℤ pos 0
crossing_behind n e r m p q c t mp mq h =
    neg_cancel (value r q *ℤ p.w +ℤ neg_ℤ (value r p) *ℤ q.w) (value m (meeting_by_cramers_rule n e r))
    (weight_above (value r q *ℤ p.w) (neg_ℤ (value r p) *ℤ q.w) (least_least (value r q) p.w c.past (lt_le p.w c.p_weight)) (pos_pos (neg_ℤ (value r p)) q.w (turned (value r p) c.before) c.q_weight))
    (subst (λ (x : ℤ). x <ℤ pos 0) (meeting_value n e r m p q c) (pos_neg (meeting_by_cramers_rule n e r).w (value r q *ℤ value m p +ℤ neg_ℤ (value r p) *ℤ value m q) t (below_from (value r q) (neg_ℤ (value r p)) (value m p) (value m q) c.past (turned (value r p) c.before) mp mq h)))

-- ---- the same with the last two planes exchanged, for the edge by which an outline comes behind r
pub neg_of_positive : (x y : ℤ) → y ≡ neg_ℤ x → pos 0 <ℤ y → x <ℤ pos 0
neg_of_positive x y e h = omega (arith, sums)

other_negative : (t g w f : ℤ) → t <ℤ pos 0 → pos 0 <ℤ g → pos 0 <ℤ f → t *ℤ g -ℤ w *ℤ f ≡ pos 0 → w <ℤ pos 0
other_negative t g w f ht hg hf e = neg_cancel f w hf (subst (λ (x : ℤ). x <ℤ pos 0) (same_product (t *ℤ g) (w *ℤ f) e ∙ mul_comm_ℤ w f) (neg_pos t g ht hg))

positive_of_neg : (x y : ℤ) → y ≡ neg_ℤ x → x <ℤ pos 0 → pos 0 <ℤ y
positive_of_neg x y e h = omega (arith, sums)

pub crossing_turns_in : (n e f r : Coefficients) (p q : Coordinates) → Crossing n e r p q → pos 0 <ℤ (meeting_by_cramers_rule n f e).w → value f p <ℤ pos 0 → value f q ≡ pos 0 → pos 0 <ℤ (meeting_by_cramers_rule n r e).w
crossing_turns_in n e f r p q c t fp fq =
    positive_of_neg (meeting_by_cramers_rule n e r).w (meeting_by_cramers_rule n r e).w (weight_swapped n e r)
    (other_negative (meeting_by_cramers_rule n e f).w (growth r p q) (meeting_by_cramers_rule n e r).w (growth f p q) (neg_of_positive (meeting_by_cramers_rule n e f).w (meeting_by_cramers_rule n f e).w (weight_swapped n e f) t)
    (grows p.w q.w (value r p) (value r q) c.p_weight c.q_weight c.before c.past)
    (grows p.w q.w (value f p) (value f q) c.p_weight c.q_weight fp (zero_least (value f q) fq))
    (growths n e f r p q ∙ no_growth (meeting_by_cramers_rule e f r).w (meeting_by_cramers_rule n f r).w (growth n p q) (growth e p q) (no_growth p.w q.w (value n q) (value n p) c.q_on c.p_on) (no_growth p.w q.w (value e q) (value e p) c.q_edge c.p_edge)))

pub negative_of_pos : (x y : ℤ) → y ≡ neg_ℤ x → pos 0 <ℤ x → y <ℤ pos 0
negative_of_pos x y e h = omega (arith, sums)

pub crossing_behind_in : (n e r m : Coefficients) (p q : Coordinates) → Crossing n e r p q → pos 0 <ℤ (meeting_by_cramers_rule n r e).w → value m p ≤ℤ pos 0 → value m q ≤ℤ pos 0 → (value m q <ℤ pos 0) ⊎ ((value m p <ℤ pos 0) × (pos 0 <ℤ value r q)) → value m (meeting_by_cramers_rule n r e) <ℤ pos 0
crossing_behind_in n e r m p q c t mp mq h =
    negative_of_pos (value m (meeting_by_cramers_rule n e r)) (value m (meeting_by_cramers_rule n r e)) (value_swapped m n e r)
    (pos_cancel (value r q *ℤ p.w +ℤ neg_ℤ (value r p) *ℤ q.w) (value m (meeting_by_cramers_rule n e r))
    (weight_above (value r q *ℤ p.w) (neg_ℤ (value r p) *ℤ q.w) (least_least (value r q) p.w c.past (lt_le p.w c.p_weight)) (pos_pos (neg_ℤ (value r p)) q.w (turned (value r p) c.before) c.q_weight))
    (subst (λ (x : ℤ). pos 0 <ℤ x) (meeting_value n e r m p q c)
    (neg_neg (meeting_by_cramers_rule n e r).w (value r q *ℤ value m p +ℤ neg_ℤ (value r p) *ℤ value m q) (neg_of_positive (meeting_by_cramers_rule n e r).w (meeting_by_cramers_rule n r e).w (weight_swapped n e r) t)
    (below_from (value r q) (neg_ℤ (value r p)) (value m p) (value m q) c.past (turned (value r p) c.before) mp mq h))))
