-- An edge of a polygon: the line in which the polygon's plane n meets the edge's plane j, from the plane i of the edge before
-- to the plane m of the edge behind it.
use Rattle.std.proofs.Common.{◌≡◌, ◌≢◌, ◌⊎◌, inl, inr, true, refl, sym, ap, ◌∙◌, subst, arith, ℤ, pos, ◌-ℤ◌, ◌*ℤ◌, neg_ℤ, ◌<ℤ◌, ◌≤ℤ◌}
use Rattle.std.proofs.Math.IntN.{*ℤ-zero, zero-*ℤ}
use Rattle.plane_predicate.specs.Space.{Coefficients, Coordinates, value, meeting_by_cramers_rule}
use Rattle.plane_predicate.proofs.lemmas.IntegerRing.{sums, mul_comm_ℤ}
use Rattle.plane_predicate.proofs.lemmas.Identities.{cramer_on_first, cramer_on_second, cramer_on_third, weight_swapped}
use Rattle.plane_predicate.proofs.lemmas.Signs.{signs, pos_pos, pos_neg, neg_neg, least_least, least_most, pos_cancel, neg_cancel, zero_cancel}
use Rattle.closed_surface.specs.Ways.{Direction, displacement, dot_product, cross_product, slope, line_of, is_same_point_of_space, is_same_direction, is_opposite_direction}
use Rattle.closed_surface.specs.Around.{triple_product_of}
use Rattle.closed_surface.proofs.lemmas.Numbers.{at_least, not_zero_above, not_zero_below, negative_below}
use Rattle.closed_surface.proofs.lemmas.Parallels.{IsZero, slope_way, line_turn, line_slope, along_dot, along_slope, along_cross, in_planes, dot_above, same_place_is, same_way_is, same_way_parts, opposite_way_is, opposite_way_parts}

zero_times : (x y : ℤ) → x ≡ pos 0 → x *ℤ y ≡ pos 0
zero_times x y h = ap (λ (z : ℤ). z *ℤ y) h ∙ zero-*ℤ y

times_zero : (x y : ℤ) → y ≡ pos 0 → x *ℤ y ≡ pos 0
times_zero x y h = ap (λ (z : ℤ). x *ℤ z) h ∙ *ℤ-zero x

exchanged : (g : Direction) (m : Coefficients) → slope m g ≡ dot_product g (record { x = m.a; y = m.b; z = m.c })
exchanged g m = omega (arith, sums, mul_comm_ℤ m.a g.x, mul_comm_ℤ m.b g.y, mul_comm_ℤ m.c g.z)

-- ---- signs of factors
pub above_factor : (k y x s : ℤ) → pos 0 <ℤ k → k *ℤ y ≡ x *ℤ s → pos 0 <ℤ s → pos 0 <ℤ y → pos 0 <ℤ x
above_factor k y x s hk e hs hy = pos_cancel s x hs (omega (arith, sums, mul_comm_ℤ s x, pos_pos k y hk hy))

below_factor : (k y x s : ℤ) → pos 0 <ℤ k → k *ℤ y ≡ x *ℤ s → s <ℤ pos 0 → y <ℤ pos 0 → pos 0 <ℤ x
below_factor k y x s hk e hs hy = elim (signs x) [
  | inl h ↦ absurd (omega (arith, sums, neg_neg x s h hs, pos_neg k y hk hy))
  | inr (inl h) ↦ absurd (omega (arith, sums, zero_times x s h, pos_neg k y hk hy))
  | inr (inr h) ↦ h
]

product_above : (k y u v : ℤ) → pos 0 <ℤ k → k *ℤ y ≡ u *ℤ v → pos 0 <ℤ u → pos 0 <ℤ v → pos 0 <ℤ y
product_above k y u v hk e hu hv = pos_cancel k y hk (omega (arith, sums, pos_pos u v hu hv))

product_below : (k y u v : ℤ) → pos 0 <ℤ k → k *ℤ y ≡ u *ℤ v → pos 0 <ℤ u → v <ℤ pos 0 → y <ℤ pos 0
product_below k y u v hk e hu hv = neg_cancel k y hk (omega (arith, sums, pos_neg u v hu hv))

second_above : (k y u v : ℤ) → pos 0 <ℤ k → k *ℤ y ≡ u *ℤ v → pos 0 <ℤ u → pos 0 <ℤ y → pos 0 <ℤ v
second_above k y u v hk e hu hy = pos_cancel u v hu (omega (arith, sums, pos_pos k y hk hy))

second_below : (k y u v : ℤ) → pos 0 <ℤ k → k *ℤ y ≡ u *ℤ v → pos 0 <ℤ u → y <ℤ pos 0 → v <ℤ pos 0
second_below k y u v hk e hu hy = neg_cancel u v hu (omega (arith, sums, pos_neg k y hk hy))

second_zero : (k y u v : ℤ) → pos 0 <ℤ k → k *ℤ y ≡ u *ℤ v → v ≡ pos 0 → y ≡ pos 0
second_zero k y u v hk e z = zero_cancel k y hk (e ∙ ap (λ (x : ℤ). u *ℤ x) z ∙ *ℤ-zero u)

zero_factor : (x y : ℤ) → x *ℤ y ≡ pos 0 → y ≢ pos 0 → x ≡ pos 0
zero_factor x y e h = elim (signs y) [
  | inl k ↦ elim (signs x) [
    | inl l ↦ absurd (omega (arith, sums, neg_neg x y l k))
    | inr (inl l) ↦ l
    | inr (inr l) ↦ absurd (omega (arith, sums, pos_neg x y l k))
  ]
  | inr (inl k) ↦ absurd (h k)
  | inr (inr k) ↦ zero_cancel y x k (omega (arith, sums, mul_comm_ℤ y x))
]

-- ---- how a plane's value grows from p to q, where it is 0 at an end
grown_from_zero : (u x v y : ℤ) → y ≡ pos 0 → u *ℤ x -ℤ v *ℤ y ≡ u *ℤ x
grown_from_zero u x v y h = ap (λ (z : ℤ). u *ℤ x -ℤ v *ℤ z) h ∙ omega (arith, sums, *ℤ-zero v)

grown_to_zero : (u x v y : ℤ) → x ≡ pos 0 → u *ℤ x -ℤ v *ℤ y ≡ neg_ℤ (v *ℤ y)
grown_to_zero u x v y h = ap (λ (z : ℤ). u *ℤ z -ℤ v *ℤ y) h ∙ omega (arith, sums, *ℤ-zero u)

both_zero : (u x v y : ℤ) → x ≡ pos 0 → y ≡ pos 0 → u *ℤ x -ℤ v *ℤ y ≡ pos 0
both_zero u x v y h k = rw (h, k, *ℤ-zero u, *ℤ-zero v) refl

negated_above : (x : ℤ) → x <ℤ pos 0 → pos 0 <ℤ neg_ℤ x
negated_above x h = omega (arith, sums)

-- ---- a point between two others, as a plane sees them: x, first and last are its values there
no_meet : (k l x y : ℤ) → pos 0 <ℤ k → pos 0 <ℤ l → k *ℤ x ≡ l *ℤ y → x ≤ℤ pos 0 → pos 0 ≤ℤ y → (x <ℤ pos 0) ⊎ (pos 0 <ℤ y) → ⊥
no_meet k l x y hk hl e hx hy (inl h) = omega (arith, sums, pos_neg k x hk h, least_least l y (at_least l hl) hy)
no_meet k l x y hk hl e hx hy (inr h) = omega (arith, sums, least_most k x (at_least k hk) hx, pos_pos l y hl h)

pub between_zero : (k l aw bw qw first last x : ℤ) → pos 0 <ℤ k → pos 0 <ℤ l → pos 0 <ℤ aw → pos 0 <ℤ bw →
    k *ℤ (qw *ℤ last -ℤ bw *ℤ x) ≡ l *ℤ (aw *ℤ x -ℤ qw *ℤ first) → first ≡ pos 0 → last ≡ pos 0 → x ≡ pos 0
between_zero k l aw bw qw first last x hk hl ha hb e hf hz =
    let p = grown_to_zero qw last bw x hz in
    let r = grown_from_zero aw x qw first hf in
    elim (signs x) [
      | inl h ↦ absurd (no_meet l k _ _ hl hk (sym e) (omega (arith, sums, r, pos_neg aw x ha h)) (omega (arith, sums, p, pos_neg bw x hb h)) (inl (omega (arith, sums, r, pos_neg aw x ha h))))
      | inr (inl h) ↦ h
      | inr (inr h) ↦ absurd (no_meet k l _ _ hk hl e (omega (arith, sums, p, pos_pos bw x hb h)) (omega (arith, sums, r, pos_pos aw x ha h)) (inl (omega (arith, sums, p, pos_pos bw x hb h))))
    ]

pub between_behind : (k l aw bw qw first last x : ℤ) → pos 0 <ℤ k → pos 0 <ℤ l → pos 0 <ℤ aw → pos 0 <ℤ bw → pos 0 <ℤ qw →
    k *ℤ (qw *ℤ last -ℤ bw *ℤ x) ≡ l *ℤ (aw *ℤ x -ℤ qw *ℤ first) → first ≤ℤ pos 0 → last ≤ℤ pos 0 → (first <ℤ pos 0) ⊎ (last <ℤ pos 0) → x <ℤ pos 0
between_behind k l aw bw qw first last x hk hl ha hb hq e hf hz one = elim (signs x) [
  | inl h ↦ h
  | inr (inl h) ↦ absurd (no_meet k l _ _ hk hl e
      (omega (arith, sums, least_most qw last (at_least qw hq) hz, times_zero bw x h))
      (omega (arith, sums, least_most qw first (at_least qw hq) hf, times_zero aw x h))
      (elim one [
        | inl f ↦ inr (omega (arith, sums, pos_neg qw first hq f, times_zero aw x h))
        | inr z ↦ inl (omega (arith, sums, pos_neg qw last hq z, times_zero bw x h))
      ]))
  | inr (inr h) ↦ absurd (no_meet k l _ _ hk hl e
      (omega (arith, sums, least_most qw last (at_least qw hq) hz, pos_pos bw x hb h))
      (omega (arith, sums, least_most qw first (at_least qw hq) hf, pos_pos aw x ha h))
      (inl (omega (arith, sums, least_most qw last (at_least qw hq) hz, pos_pos bw x hb h))))
]

-- what a plane says of a point through which the way from a to b runs
pub between : (p : Coefficients) (a b q : Coordinates) → IsZero (cross_product (displacement a q) (displacement q b)) →
    dot_product (displacement a q) (displacement a q) *ℤ (q.w *ℤ value p b -ℤ b.w *ℤ value p q) ≡ dot_product (displacement a q) (displacement q b) *ℤ (a.w *ℤ value p q -ℤ q.w *ℤ value p a)
between p a b q h =
    ap (λ (x : ℤ). dot_product (displacement a q) (displacement a q) *ℤ x) (sym (slope_way p q b))
    ∙ along_slope p (displacement a q) (displacement q b) h
    ∙ ap (λ (x : ℤ). dot_product (displacement a q) (displacement q b) *ℤ x) (slope_way p a q)

pub runs_zero : (p : Coefficients) (a b q : Coordinates) → pos 0 <ℤ a.w → pos 0 <ℤ b.w → is_same_direction (displacement a q) (displacement q b) ≡ true →
    value p a ≡ pos 0 → value p b ≡ pos 0 → value p q ≡ pos 0
runs_zero p a b q ha hb r za zb =
    let w = same_way_parts (displacement a q) (displacement q b) r in
    between_zero (dot_product (displacement a q) (displacement a q)) (dot_product (displacement a q) (displacement q b)) a.w b.w q.w (value p a) (value p b) (value p q)
    (dot_above (displacement a q) (displacement q b) (not_zero_above _ w.1)) w.1 ha hb (between p a b q w.0) za zb

pub runs_behind : (p : Coefficients) (a b q : Coordinates) → pos 0 <ℤ a.w → pos 0 <ℤ b.w → pos 0 <ℤ q.w → is_same_direction (displacement a q) (displacement q b) ≡ true →
    value p a ≤ℤ pos 0 → value p b ≤ℤ pos 0 → (value p a <ℤ pos 0) ⊎ (value p b <ℤ pos 0) → value p q <ℤ pos 0
runs_behind p a b q ha hb hq r la lb one =
    let w = same_way_parts (displacement a q) (displacement q b) r in
    between_behind (dot_product (displacement a q) (displacement a q)) (dot_product (displacement a q) (displacement q b)) a.w b.w q.w (value p a) (value p b) (value p q)
    (dot_above (displacement a q) (displacement q b) (not_zero_above _ w.1)) w.1 ha hb hq (between p a b q w.0) la lb one

-- ---- the edge
pub record IsSide (n i j m : Coefficients) : Type 0 where
  pub first : pos 0 <ℤ (meeting_by_cramers_rule n i j).w
  pub second : pos 0 <ℤ (meeting_by_cramers_rule n j m).w
  pub far : value m (meeting_by_cramers_rule n i j) <ℤ pos 0
  pub back : value i (meeting_by_cramers_rule n j m) <ℤ pos 0

module _ (n i j m : Coefficients) (h : IsSide n i j m) where
  abbrev a : Coordinates
  a = meeting_by_cramers_rule n i j

  abbrev b : Coordinates
  b = meeting_by_cramers_rule n j m

  abbrev g : Direction
  g = line_of n j

  ahead : pos 0 <ℤ slope m g
  ahead = subst (λ (x : ℤ). pos 0 <ℤ x) (sym (line_slope m n j)) h.second

  behind : slope i g <ℤ pos 0
  behind = negative_below _ _ (line_slope i n j ∙ weight_swapped n i j) h.first

  long : pos 0 <ℤ dot_product g g
  long = dot_above g (record { x = m.a; y = m.b; z = m.c }) (λ e. not_zero_above (slope m g) ahead (exchanged g m ∙ e))

  way_along : (p q : Coordinates) → value n p ≡ pos 0 → value n q ≡ pos 0 → value j p ≡ pos 0 → value j q ≡ pos 0 → IsZero (cross_product g (displacement p q))
  way_along p q np nq jp jq =
      in_planes n j (displacement p q) (slope_way n p q ∙ both_zero p.w (value n q) q.w (value n p) nq np) (slope_way j p q ∙ both_zero p.w (value j q) q.w (value j p) jq jp)

  edge_along : IsZero (cross_product g (displacement a b))
  edge_along = way_along a b (cramer_on_first n i j) (cramer_on_first n j m) (cramer_on_third n i j) (cramer_on_second n j m)

  edge_forward : pos 0 <ℤ dot_product g (displacement a b)
  edge_forward =
      above_factor (dot_product g g) (slope m (displacement a b)) (dot_product g (displacement a b)) (slope m g) long (along_slope m g (displacement a b) edge_along) ahead
      (subst (λ (x : ℤ). pos 0 <ℤ x) (sym (slope_way m a b ∙ grown_to_zero a.w (value m b) b.w (value m a) (cramer_on_third n j m))) (negated_above _ (pos_neg b.w (value m a) h.second h.far)))

  -- a point on both planes, strictly behind the planes of the neighbours
  pub runs : (q : Coordinates) → pos 0 <ℤ q.w → value n q ≡ pos 0 → value j q ≡ pos 0 → value i q <ℤ pos 0 → value m q <ℤ pos 0 → is_same_direction (displacement a q) (displacement q b) ≡ true
  runs q hw nq jq iq mq =
      let u = way_along a q (cramer_on_first n i j) nq (cramer_on_third n i j) jq in
      let v = way_along q b nq (cramer_on_first n j m) jq (cramer_on_second n j m) in
      let gu = below_factor (dot_product g g) (slope i (displacement a q)) (dot_product g (displacement a q)) (slope i g) long (along_slope i g (displacement a q) u) behind
      (subst (λ (x : ℤ). x <ℤ pos 0) (sym (slope_way i a q ∙ grown_from_zero a.w (value i q) q.w (value i a) (cramer_on_second n i j))) (pos_neg a.w (value i q) h.first iq)) in
      let gv = above_factor (dot_product g g) (slope m (displacement q b)) (dot_product g (displacement q b)) (slope m g) long (along_slope m g (displacement q b) v) ahead
      (subst (λ (x : ℤ). pos 0 <ℤ x) (sym (slope_way m q b ∙ grown_to_zero q.w (value m b) b.w (value m q) (cramer_on_third n j m))) (negated_above _ (pos_neg b.w (value m q) h.second mq))) in
      same_way_is (displacement a q) (displacement q b) (along_cross g (displacement a q) (displacement q b) long u v)
      (product_above (dot_product g g) (dot_product (displacement a q) (displacement q b)) (dot_product g (displacement a q)) (dot_product g (displacement q b)) long (along_dot g (displacement a q) (displacement q b) u) gu gv)

  -- ---- the way of the edge
  pub record IsInPlanes (v : Direction) : Type 0 where
    pub plane : slope n v ≡ pos 0
    pub edge : slope j v ≡ pos 0

  parallel_in : (v : Direction) → IsZero (cross_product (displacement a b) v) → pos 0 <ℤ dot_product (displacement a b) (displacement a b) → IsInPlanes v
  parallel_in v z l = record {
    plane = second_zero (dot_product (displacement a b) (displacement a b)) (slope n v) (dot_product (displacement a b) v) (slope n (displacement a b)) l (along_slope n (displacement a b) v z)
        (slope_way n a b ∙ both_zero a.w (value n b) b.w (value n a) (cramer_on_first n j m) (cramer_on_first n i j));
    edge = second_zero (dot_product (displacement a b) (displacement a b)) (slope j v) (dot_product (displacement a b) v) (slope j (displacement a b)) l (along_slope j (displacement a b) v z)
        (slope_way j a b ∙ both_zero a.w (value j b) b.w (value j a) (cramer_on_second n j m) (cramer_on_third n i j));
  }

  pub same_way_turns : (v : Direction) → is_same_direction (displacement a b) v ≡ true → IsInPlanes v × (pos 0 <ℤ triple_product_of v n j)
  same_way_turns v r =
      let w = same_way_parts (displacement a b) v r in (
        parallel_in v w.0 (dot_above (displacement a b) v (not_zero_above _ w.1)),
        subst (λ (x : ℤ). pos 0 <ℤ x) (line_turn n j v)
            (second_above (dot_product g g) (dot_product (displacement a b) v) (dot_product g (displacement a b)) (dot_product g v) long (along_dot g (displacement a b) v edge_along) edge_forward w.1),
      )

  pub opposite_way_turns : (v : Direction) → is_opposite_direction (displacement a b) v ≡ true → IsInPlanes v × (triple_product_of v n j <ℤ pos 0)
  opposite_way_turns v r =
      let w = opposite_way_parts (displacement a b) v r in (
        parallel_in v w.0 (dot_above (displacement a b) v (not_zero_below _ w.1)),
        subst (λ (x : ℤ). x <ℤ pos 0) (line_turn n j v)
            (second_below (dot_product g g) (dot_product (displacement a b) v) (dot_product g (displacement a b)) (dot_product g v) long (along_dot g (displacement a b) v edge_along) edge_forward w.1),
      )

  pub turns_same_way : (v : Direction) → IsInPlanes v → pos 0 <ℤ triple_product_of v n j → is_same_direction (displacement a b) v ≡ true
  turns_same_way v p t =
      same_way_is (displacement a b) v (along_cross g (displacement a b) v long edge_along (in_planes n j v p.plane p.edge))
      (product_above (dot_product g g) (dot_product (displacement a b) v) (dot_product g (displacement a b)) (dot_product g v) long (along_dot g (displacement a b) v edge_along) edge_forward (subst (λ (x : ℤ). pos 0 <ℤ x) (sym (line_turn n j v)) t))

  pub turns_opposite_way : (v : Direction) → IsInPlanes v → triple_product_of v n j <ℤ pos 0 → is_opposite_direction (displacement a b) v ≡ true
  turns_opposite_way v p t =
      opposite_way_is (displacement a b) v (along_cross g (displacement a b) v long edge_along (in_planes n j v p.plane p.edge))
      (product_below (dot_product g g) (dot_product (displacement a b) v) (dot_product g (displacement a b)) (dot_product g v) long (along_dot g (displacement a b) v edge_along) edge_forward (subst (λ (x : ℤ). x <ℤ pos 0) (sym (line_turn n j v)) t))

  -- ---- the ends of the edge
  -- a way that all three planes of an end hold is none
  none_held : (u : Direction) (p : Coefficients) → slope n u ≡ pos 0 → slope j u ≡ pos 0 → slope p u ≡ pos 0 → slope p g ≢ pos 0 → dot_product u u ≡ pos 0
  none_held u p un uj up apart =
      let z = in_planes n j u un uj in
      let gu = zero_factor (dot_product g u) (slope p g) (sym (along_slope p g u z) ∙ times_zero (dot_product g g) (slope p u) up) apart in
      zero_cancel (dot_product g g) (dot_product u u) long (along_dot g u u z ∙ zero_times (dot_product g u) (dot_product g u) gu)

  pub none_held_first : (u : Direction) → slope n u ≡ pos 0 → slope i u ≡ pos 0 → slope j u ≡ pos 0 → dot_product u u ≡ pos 0
  none_held_first u un ui uj = none_held u i un uj ui (λ e. not_zero_below (slope i g) behind e)

  pub none_held_second : (u : Direction) → slope n u ≡ pos 0 → slope j u ≡ pos 0 → slope m u ≡ pos 0 → dot_product u u ≡ pos 0
  none_held_second u un uj um = none_held u m un uj um (λ e. not_zero_above (slope m g) ahead e)

  -- a point on all three planes of an end is that end
  pub meets_at_first : (q : Coordinates) → pos 0 <ℤ q.w → value n q ≡ pos 0 → value j q ≡ pos 0 → value i q ≡ pos 0 → is_same_point_of_space a q ≡ true
  meets_at_first q hw nq jq iq =
      same_place_is a q (none_held_first (displacement a q)
      (slope_way n a q ∙ both_zero a.w (value n q) q.w (value n a) nq (cramer_on_first n i j))
      (slope_way i a q ∙ both_zero a.w (value i q) q.w (value i a) iq (cramer_on_second n i j))
      (slope_way j a q ∙ both_zero a.w (value j q) q.w (value j a) jq (cramer_on_third n i j)))

  pub meets_at_second : (q : Coordinates) → pos 0 <ℤ q.w → value n q ≡ pos 0 → value j q ≡ pos 0 → value m q ≡ pos 0 → is_same_point_of_space b q ≡ true
  meets_at_second q hw nq jq mq =
      same_place_is b q (none_held_second (displacement b q)
      (slope_way n b q ∙ both_zero b.w (value n q) q.w (value n b) nq (cramer_on_first n j m))
      (slope_way j b q ∙ both_zero b.w (value j q) q.w (value j b) jq (cramer_on_second n j m))
      (slope_way m b q ∙ both_zero b.w (value m q) q.w (value m b) mq (cramer_on_third n j m)))

  -- a direction that both planes hold is along the edge: it has a turn about it where there is one
  pub turn_apart : (v : Direction) → pos 0 <ℤ dot_product v v → IsInPlanes v → triple_product_of v n j ≢ pos 0
  turn_apart v hv p e =
      let z = in_planes n j v p.plane p.edge in
      let gv = line_turn n j v ∙ e in
      not_zero_above (dot_product v v) hv (zero_cancel (dot_product g g) (dot_product v v) long (along_dot g v v z ∙ zero_times (dot_product g v) (dot_product g v) gv))
