-- Each point of a polygon lies between three of its corners.
use Rattle.std.proofs.Common.{◌≡◌, ◌≢◌, ◌⊎◌, inl, inr, ℕ, zero, suc, ◌+◌, ◌-◌, ◌<◌, ◌≤◌, true, false, cond, eqb, refl, sym, ap, ◌∙◌, subst, arith, ℤ, pos, ◌+ℤ◌, ◌-ℤ◌, ◌*ℤ◌, neg_ℤ, ◌<ℤ◌, ◌≤ℤ◌, true≢false}
use Rattle.std.proofs.Math.IntN.{zero-*ℤ}
use Rattle.std.proofs.lemmas.Bool.Decides.{eqb_tells}
use Rattle.plane_predicate.specs.Space.{Coefficients, Coordinates, value, orientation_seen_from, inner_product, meeting_by_cramers_rule}
use Rattle.plane_predicate.proofs.lemmas.IntegerRing.{sums, mul_neg_left}
use Rattle.plane_predicate.proofs.lemmas.Identities.{turn_at_edge, turn_round, turn_back, cramer_on_first, cramer_on_second, cramer_on_third}
use Rattle.plane_polygon.specs.Polygons.{Outline, edge_plane, edge_count, corner, IsPolygon, Covers, IsBetween}
use Rattle.plane_predicate.proofs.lemmas.Signs.{signs, pos_pos, neg_neg, pos_neg, least_least, least_most, most_most}
use Rattle.plane_polygon.proofs.lemmas.FourPoints.{four_points}
use Rattle.plane_predicate.specs.Indices.{index_after}

dropped : (g a f : ℤ) → g *ℤ (a -ℤ pos 0 *ℤ f) ≡ g *ℤ a
dropped g a f = rw (zero-*ℤ f) (ap (λ (v : ℤ). g *ℤ v) (omega (arith, sums)))

-- ---- a plane in which three points bend has a direction
square : (x : ℤ) → pos 0 ≤ℤ (x *ℤ x)
square x = elim (signs x) [ inl h ↦ most_most x x (omega (arith, sums)) (omega (arith, sums)) | inr (inl e) ↦ least_least x x (omega (arith, sums)) (omega (arith, sums)) | inr (inr h) ↦ least_least x x (omega (arith, sums)) (omega (arith, sums)) ]

no_square : (x : ℤ) → (x *ℤ x) ≤ℤ pos 0 → x ≡ pos 0
no_square x h = elim (signs x) [ inl k ↦ absurd (omega (arith, sums, neg_neg x x k k)) | inr (inl e) ↦ e | inr (inr k) ↦ absurd (omega (arith, sums, pos_pos x x k k)) ]

no_turn : (a b c p q r : ℤ) → a ≡ pos 0 → b ≡ pos 0 → c ≡ pos 0 → a *ℤ p +ℤ b *ℤ q +ℤ c *ℤ r ≡ pos 0
no_turn a b c p q r ha hb hc = rw (ha, hb, hc, zero-*ℤ p, zero-*ℤ q, zero-*ℤ r) refl

pub directed_apart : (n e f : Coefficients) → (meeting_by_cramers_rule n e f).w ≢ pos 0 → pos 0 <ℤ inner_product n n
directed_apart n e f h =
    let a = square n.a in let b = square n.b in let c = square n.c in
    elim (signs (inner_product n n)) [
      | inl k ↦ absurd (omega (arith, sums))
      | inr (inl k) ↦ absurd (h (no_turn n.a n.b n.c _ _ _ (no_square n.a (omega (arith, sums))) (no_square n.b (omega (arith, sums))) (no_square n.c (omega (arith, sums)))))
      | inr (inr k) ↦ k
    ]

pub directed : (n e f : Coefficients) → pos 0 <ℤ (meeting_by_cramers_rule n e f).w → pos 0 <ℤ inner_product n n
directed n e f h = directed_apart n e f (λ z. omega (arith, sums, h, z))

-- ---- indexes round a list
-- the next index is one more, or 0 at the end
pub after_is : (k i : ℕ) → ((suc i ≡ k) × (index_after k i ≡ 0)) ⊎ ((suc i ≢ k) × (index_after k i ≡ suc i))
after_is k i = elim (eqb (suc i) k) as (λ b. ((b ≡ true) × (suc i ≡ k)) ⊎ ((b ≡ false) × (suc i ≢ k)) → ((suc i ≡ k) × (cond b 0 (suc i) ≡ 0)) ⊎ ((suc i ≢ k) × (cond b 0 (suc i) ≡ suc i))) [
  | true ↦ λ t. elim t [ inl p ↦ inl (p.1, refl) | inr p ↦ absurd (true≢false p.0) ]
  | false ↦ λ t. elim t [ inl p ↦ absurd (true≢false (sym p.0)) | inr p ↦ inr (p.1, refl) ]
] (eqb_tells (suc i) k)

pub after_below : (k i : ℕ) → i < k → index_after k i < k
after_below k i h = elim (after_is k i) [ inl p ↦ omega arith | inr p ↦ omega arith ]

pub after_other : (k i : ℕ) → 3 ≤ k → i < k → index_after k i ≢ i
after_other k i t h = elim (after_is k i) [ inl p ↦ omega arith | inr p ↦ omega arith ]

pub after_twice : (k i : ℕ) → 3 ≤ k → i < k → index_after k (index_after k i) ≢ i
after_twice k i t h =
    elim (after_is k i) [
      | inl p ↦ elim (after_is k (index_after k i)) [ inl q ↦ omega arith | inr q ↦ omega arith ]
      | inr p ↦ elim (after_is k (index_after k i)) [ inl q ↦ omega arith | inr q ↦ omega arith ]
    ]

-- ---- corners
pub corner_on : (s : Outline) (i : ℕ) → value s.plane (corner s i) ≡ pos 0
corner_on s i = cramer_on_first s.plane (edge_plane s i) (edge_plane s (index_after (edge_count s) i))

pub corner_on_edge : (s : Outline) (i : ℕ) → value (edge_plane s i) (corner s i) ≡ pos 0
corner_on_edge s i = cramer_on_second s.plane (edge_plane s i) (edge_plane s (index_after (edge_count s) i))

pub corner_on_next : (s : Outline) (i : ℕ) → value (edge_plane s (index_after (edge_count s) i)) (corner s i) ≡ pos 0
corner_on_next s i = cramer_on_third s.plane (edge_plane s i) (edge_plane s (index_after (edge_count s) i))

pub plane_directed : (s : Outline) → IsPolygon s → pos 0 <ℤ inner_product s.plane s.plane
plane_directed s h = directed s.plane (edge_plane s 0) (edge_plane s (index_after (edge_count s) 0)) (h.turns_left 0 (omega (arith, h.three)))

-- the orientation from corner i by the next one
pub turn_is : (s : Outline) (i : ℕ) (q : Coordinates) → value s.plane q ≡ pos 0 →
    orientation_seen_from s.plane (corner s i) (corner s (index_after (edge_count s) i)) q ≡ value (edge_plane s (index_after (edge_count s) (index_after (edge_count s) i))) (corner s i) *ℤ (inner_product s.plane s.plane *ℤ value (edge_plane s (index_after (edge_count s) i)) q)
turn_is s i q e =
    turn_at_edge s.plane (edge_plane s i) (edge_plane s (index_after (edge_count s) i)) (edge_plane s (index_after (edge_count s) (index_after (edge_count s) i))) q
    ∙ ap (λ (v : ℤ). value (edge_plane s (index_after (edge_count s) (index_after (edge_count s) i))) (corner s i) *ℤ (inner_product s.plane s.plane *ℤ value (edge_plane s (index_after (edge_count s) i)) q -ℤ v *ℤ inner_product (edge_plane s (index_after (edge_count s) i)) s.plane)) e
    ∙ dropped (value (edge_plane s (index_after (edge_count s) (index_after (edge_count s) i))) (corner s i)) (inner_product s.plane s.plane *ℤ value (edge_plane s (index_after (edge_count s) i)) q) (inner_product (edge_plane s (index_after (edge_count s) i)) s.plane)

pub far_behind : (s : Outline) (h : IsPolygon s) (i : ℕ) → i < edge_count s → value (edge_plane s (index_after (edge_count s) (index_after (edge_count s) i))) (corner s i) <ℤ pos 0
far_behind s h i k =
    let j = after_below (edge_count s) i k in
    h.behind i (index_after (edge_count s) (index_after (edge_count s) i)) k (after_below (edge_count s) (index_after (edge_count s) i) j) (after_twice (edge_count s) i h.three k) (after_other (edge_count s) (index_after (edge_count s) i) h.three j)

-- what is not ahead of an edge is not right of the way along it
pub left : (s : Outline) (h : IsPolygon s) (i : ℕ) → i < edge_count s → (q : Coordinates) → value s.plane q ≡ pos 0 → value (edge_plane s (index_after (edge_count s) i)) q ≤ℤ pos 0 → pos 0 ≤ℤ orientation_seen_from s.plane (corner s i) (corner s (index_after (edge_count s) i)) q
left s h i k q e f =
    let far = far_behind s h i k in let d = plane_directed s h in
    omega (arith, sums, turn_is s i q e, most_most (value (edge_plane s (index_after (edge_count s) (index_after (edge_count s) i))) (corner s i)) (inner_product s.plane s.plane *ℤ value (edge_plane s (index_after (edge_count s) i)) q) (omega (arith, sums)) (least_most (inner_product s.plane s.plane) (value (edge_plane s (index_after (edge_count s) i)) q) (omega (arith, sums)) f))

pub strictly_left : (s : Outline) (h : IsPolygon s) (i : ℕ) → i < edge_count s → (q : Coordinates) → value s.plane q ≡ pos 0 → value (edge_plane s (index_after (edge_count s) i)) q <ℤ pos 0 → pos 0 <ℤ orientation_seen_from s.plane (corner s i) (corner s (index_after (edge_count s) i)) q
strictly_left s h i k q e f =
    let far = far_behind s h i k in let d = plane_directed s h in
    omega (arith, sums, turn_is s i q e, neg_neg (value (edge_plane s (index_after (edge_count s) (index_after (edge_count s) i))) (corner s i)) (inner_product s.plane s.plane *ℤ value (edge_plane s (index_after (edge_count s) i)) q) far (pos_neg (inner_product s.plane s.plane) (value (edge_plane s (index_after (edge_count s) i)) q) d f))

-- ---- the fan from corner 0
-- three corners and a point of their plane: its weights are the turns
pub between_turns : (n : Coefficients) → pos 0 <ℤ inner_product n n → (a b c p : Coordinates) → value n a ≡ pos 0 → value n b ≡ pos 0 → value n c ≡ pos 0 → value n p ≡ pos 0 →
    pos 0 <ℤ orientation_seen_from n a b c → pos 0 ≤ℤ orientation_seen_from n b c p → orientation_seen_from n a c p ≤ℤ pos 0 → pos 0 ≤ℤ orientation_seen_from n a b p → IsBetween a b c p
between_turns n h a b c p ha hb hc hp whole first second third = record {
  u = orientation_seen_from n b c p;
  v = neg_ℤ (orientation_seen_from n a c p);
  t = orientation_seen_from n a b p;
  k = orientation_seen_from n a b c;
  whole = whole;
  first = first;
  second = omega (arith, sums);
  third = third;
  sum = λ (m : Coefficients). omega (arith, sums, four_points n h a b c p ha hb hc hp m, mul_neg_left (orientation_seen_from n a c p) (value m b));
}

-- going round from corner 1 to the last one, p is first not right of the way from corner 0, and in the end not left of it
pub find_wedge : (f : ℕ → ℤ) (m d : ℕ) → pos 0 ≤ℤ f m → f (m + suc d) ≤ℤ pos 0 → (i : ℕ) × (m ≤ i) × (i < m + suc d) × (pos 0 ≤ℤ f i) × (f (suc i) ≤ℤ pos 0)
find_wedge f m zero h k = (m, omega arith, omega arith, h, subst (λ (n : ℕ). f n ≤ℤ pos 0) (omega arith) k)
find_wedge f m (suc d) h k =
    elim (signs (f (suc m))) [
      | inl e ↦ (m, omega arith, omega arith, h, omega (arith, sums))
      | inr (inl e) ↦ (m, omega arith, omega arith, h, omega (arith, sums))
      | inr (inr e) ↦ (let r = find_wedge f (suc m) d (omega (arith, sums)) (subst (λ (n : ℕ). f n ≤ℤ pos 0) (omega arith) k) in (r.0, omega arith, omega arith, r.3, r.4))
    ]

pub after_inside : (k i : ℕ) → suc i < k → index_after k i ≡ suc i
after_inside k i h = elim (after_is k i) [ inl p ↦ absurd (omega arith) | inr p ↦ p.1 ]

pub after_last : (k i : ℕ) → suc i ≡ k → index_after k i ≡ 0
after_last k i h = elim (after_is k i) [ inl p ↦ p.1 | inr p ↦ absurd (p.0 h) ]

-- left and strictly_left, where the next index is known
left_to : (s : Outline) (h : IsPolygon s) (i j : ℕ) → i < edge_count s → index_after (edge_count s) i ≡ j → (q : Coordinates) → value s.plane q ≡ pos 0 → value (edge_plane s j) q ≤ℤ pos 0 → pos 0 ≤ℤ orientation_seen_from s.plane (corner s i) (corner s j) q
left_to s h i j k e q on f =
    subst (λ (v : ℕ). pos 0 ≤ℤ orientation_seen_from s.plane (corner s i) (corner s v) q) e (left s h i k q on (subst (λ (v : ℕ). value (edge_plane s v) q ≤ℤ pos 0) (sym e) f))

pub strictly_left_to : (s : Outline) (h : IsPolygon s) (i j : ℕ) → i < edge_count s → index_after (edge_count s) i ≡ j → (q : Coordinates) → value s.plane q ≡ pos 0 → value (edge_plane s j) q <ℤ pos 0 → pos 0 <ℤ orientation_seen_from s.plane (corner s i) (corner s j) q
strictly_left_to s h i j k e q on f =
    subst (λ (v : ℕ). pos 0 <ℤ orientation_seen_from s.plane (corner s i) (corner s v) q) e (strictly_left s h i k q on (subst (λ (v : ℕ). value (edge_plane s v) q <ℤ pos 0) (sym e) f))

-- corner 0 is strictly left of the way along each edge that it is not on
fan : (s : Outline) (h : IsPolygon s) (i : ℕ) → 1 ≤ i → suc i < edge_count s → pos 0 <ℤ orientation_seen_from s.plane (corner s 0) (corner s i) (corner s (suc i))
fan s h i low high =
    let e = after_inside (edge_count s) i high in
    let apart : suc i ≢ index_after (edge_count s) 0 = λ w. (let o = after_inside (edge_count s) 0 (omega (arith, h.three)) in omega arith) in
    let b = h.behind 0 (suc i) (omega (arith, h.three)) high (omega arith) apart in
    subst (λ (v : ℤ). pos 0 <ℤ v) (turn_round s.plane (corner s 0) (corner s i) (corner s (suc i))) (strictly_left_to s h i (suc i) (omega arith) e (corner s 0) (corner_on s 0) b)

-- the hull lemma
pub hull : (s : Outline) → IsPolygon s → (p : Coordinates) → Covers s p → (i : ℕ) × (suc i < edge_count s) × IsBetween (corner s 0) (corner s i) (corner s (suc i)) p
hull s h p c =
    let k = edge_count s in
    let three = h.three in
    let around : ℕ → ℤ = λ m. orientation_seen_from s.plane (corner s 0) (corner s m) p in
    let first : pos 0 ≤ℤ around 1 = left_to s h 0 1 (omega arith) (after_inside k 0 (omega arith)) p c.on (c.within 1 (omega arith)) in
    let back = left_to s h (k - 1) 0 (omega arith) (after_last k (k - 1) (omega arith)) p c.on (c.within 0 (omega arith)) in
    let last : around (k - 1) ≤ℤ pos 0 = omega (arith, sums, turn_back s.plane (corner s (k - 1)) (corner s 0) p) in
    let w = find_wedge around 1 (k - 3) first (subst (λ (m : ℕ). around m ≤ℤ pos 0) (omega arith) last) in
    let i = w.0 in
    let e = after_inside k i (omega arith) in (
      i,
      omega arith,
      between_turns s.plane (plane_directed s h) (corner s 0) (corner s i) (corner s (suc i)) p (corner_on s 0) (corner_on s i) (corner_on s (suc i)) c.on
          (fan s h i w.1 (omega arith))
          (left_to s h i (suc i) (omega arith) e p c.on (c.within (suc i) (omega arith)))
          w.4 w.3,
    )
