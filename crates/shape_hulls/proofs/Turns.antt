-- Ways round a polygon, as seen from a point inside it.
use Rattle.std.proofs.Common.{◌≡◌, ◌⊎◌, inl, inr, [], ◌∷◌, refl, sym, ap, ◌∙◌, subst, arith, ℕ, zero, suc, ◌+◌, ◌-◌, ◌<◌, ℤ, pos, ◌+ℤ◌, ◌-ℤ◌, ◌*ℤ◌, ◌<ℤ◌, ◌≤ℤ◌}
use Rattle.plane_predicate.specs.Space.{minor}
use Rattle.plane_predicate.proofs.lemmas.IntegerRing.{sums}
use Rattle.plane_predicate.proofs.lemmas.Polynomials.{Poly, var, num, plus, times, minus, ring}
use Rattle.plane_predicate.proofs.lemmas.Signs.{signs, pos_neg, neg_pos, least_most, most_most, least_least, most_cancel, neg_cancel, zero_cancel}
use Rattle.plane_predicate.proofs.lemmas.Vectors.{minorP}
use Rattle.primitives.proofs.lemmas.Moves.{cancelled}
use Rattle.shape_hulls.proofs.Axes.{less_parts, no_slope, no_times, times_one, IsAcross}

-- ---- round
up_from : (P : ℕ → Type 0) (n : ℕ) → ((i : ℕ) → suc i < n → P i → P (suc i)) → (d i : ℕ) → i + d < n → P i → P (i + d)
up_from P n next zero i lt p = let e : i ≡ i + 0 = omega arith in subst P e p
up_from P n next (suc d) i lt p =
    let e : suc (i + d) ≡ i + suc d = omega arith in
    subst P e (next (i + d) (omega (arith, lt)) (up_from P n next d i (omega (arith, lt)) p))

-- what each item of a round hands on to the next one holds of all, where it holds of one
pub go_round : (P : ℕ → Type 0) (n : ℕ) (next : ℕ → ℕ) → ((i : ℕ) → suc i < n → next i ≡ suc i) → ((i : ℕ) → suc i ≡ n → next i ≡ 0) → ((i : ℕ) → i < n → P i → P (next i)) → (i : ℕ) → i < n → P i → (j : ℕ) → j < n → P j
go_round P n next inner outer hands i lt p j lj =
    let step : (k : ℕ) → suc k < n → P k → P (suc k) = λ k lk h. subst P (inner k lk) (hands k (omega (arith, lk)) h) in
    let last = n - 1 in
    let d = last - i in
    let e : i + d ≡ last = omega (arith, lt) in
    let top : P last = subst P e (up_from P n step d i (omega (arith, lt)) p) in
    let first : P 0 = subst P (outer last (omega (arith, lt))) (hands last (omega (arith, lt)) top) in
    let from : 0 + j ≡ j = omega arith in
    subst P from (up_from P n step j 0 (omega (arith, lj)) first)

-- ---- turns
-- f sees u below 0, and v and t at most at 0: where the turns from u to v and from v to t are above 0, so is that from u to t
handed_on : (k a b u s v t x y : ℤ) → (a *ℤ u +ℤ b *ℤ s) <ℤ pos 0 → (a *ℤ v +ℤ b *ℤ t) ≤ℤ pos 0 → (a *ℤ x +ℤ b *ℤ y) ≤ℤ pos 0 → pos 0 <ℤ (k *ℤ minor u s v t) → pos 0 <ℤ (k *ℤ minor v t x y) → pos 0 <ℤ (k *ℤ minor u s x y)
handed_on k a b u s v t x y hu hv hx first second =
    let same =
    ring (k ∷ a ∷ b ∷ u ∷ s ∷ v ∷ t ∷ x ∷ y ∷ [])
    (times (times (var 0) (minorP (var 3) (var 4) (var 7) (var 8))) (plus (times (var 1) (var 5)) (times (var 2) (var 6))))
    (plus (times (times (var 0) (minorP (var 3) (var 4) (var 5) (var 6))) (plus (times (var 1) (var 7)) (times (var 2) (var 8)))) (times (times (var 0) (minorP (var 5) (var 6) (var 7) (var 8))) (plus (times (var 1) (var 3)) (times (var 2) (var 4))))) refl in
    let one = least_most (k *ℤ minor u s v t) (a *ℤ x +ℤ b *ℤ y) (omega (arith, sums, first)) hx in
    let two = pos_neg (k *ℤ minor v t x y) (a *ℤ u +ℤ b *ℤ s) second hu in
    elim (signs (k *ℤ minor u s x y)) [
      | inr (inr above) ↦ above
      | inr (inl none) ↦ absurd (omega (arith, sums, same, one, two, most_most (k *ℤ minor u s x y) (a *ℤ v +ℤ b *ℤ t) (omega (arith, sums, none)) hv))
      | inl below ↦ absurd (omega (arith, sums, same, one, two, most_most (k *ℤ minor u s x y) (a *ℤ v +ℤ b *ℤ t) (omega (arith, sums, below)) hv))
    ]

no_turn : (k u s : ℤ) → pos 0 <ℤ (k *ℤ minor u s u s) → ⊥
no_turn k u s h = omega (arith, sums, h, ring (k ∷ u ∷ s ∷ []) (times (var 0) (minorP (var 1) (var 2) (var 1) (var 2))) (num (pos 0)) refl)

-- points in a round, each as two numbers, with turns in one direction from each to the next different one
pub record IsRound (k : ℤ) (xs ys : ℕ → ℤ) (n : ℕ) : Type 0 where
  pub next : ℕ → ℕ
  pub inner : (i : ℕ) → suc i < n → next i ≡ suc i
  pub outer : (i : ℕ) → suc i ≡ n → next i ≡ 0
  pub within : (i : ℕ) → i < n → next i < n
  pub turns : (i : ℕ) → i < n → ((xs i ≡ xs (next i)) × (ys i ≡ ys (next i))) ⊎ (pos 0 <ℤ (k *ℤ minor (xs i) (ys i) (xs (next i)) (ys (next i))))

moved_turn : (k a b u s v t : ℤ) → u ≡ v → s ≡ t → pos 0 <ℤ (k *ℤ minor a b u s) → pos 0 <ℤ (k *ℤ minor a b v t)
moved_turn k a b u s v t e f h = rw (sym e, sym f) h

first_turn : (k a b u s v t : ℤ) → a ≡ u → b ≡ s → pos 0 <ℤ (k *ℤ minor u s v t) → pos 0 <ℤ (k *ℤ minor a b v t)
first_turn k a b u s v t e f h = rw (e, f) h

-- where no point is seen above 0, and one below, all are the same
pub all_same : (k a b : ℤ) (xs ys : ℕ → ℤ) (n : ℕ) → IsRound k xs ys n → ((i : ℕ) → i < n → (a *ℤ xs i +ℤ b *ℤ ys i) ≤ℤ pos 0) → (s : ℕ) → s < n → (a *ℤ xs s +ℤ b *ℤ ys s) <ℤ pos 0 → (j : ℕ) → j < n → (xs s ≡ xs j) × (ys s ≡ ys j)
all_same k a b xs ys n r most s lt below =
    let Turned : ℕ → Type 0 = λ i. pos 0 <ℤ (k *ℤ minor (xs s) (ys s) (xs i) (ys i)) in
    let hands : (i : ℕ) → i < n → Turned i → Turned (r.next i) = λ i li h. elim (r.turns i li) [
      | inl same ↦ moved_turn k (xs s) (ys s) (xs i) (ys i) (xs (r.next i)) (ys (r.next i)) same.0 same.1 h
      | inr turned ↦ handed_on k a b (xs s) (ys s) (xs i) (ys i) (xs (r.next i)) (ys (r.next i)) below (most i li) (most (r.next i) (r.within i li)) h turned
    ] in
    let none : (i : ℕ) → i < n → Turned i → ⊥ = λ i li h. no_turn k (xs s) (ys s) (go_round Turned n r.next r.inner r.outer hands i li h s lt) in
    let Same : ℕ → Type 0 = λ i. (xs s ≡ xs i) × (ys s ≡ ys i) in
    go_round Same n r.next r.inner r.outer
    (λ i li h. elim (r.turns i li) [
      | inl same ↦ (h.0 ∙ same.0, h.1 ∙ same.1)
      | inr turned ↦ absurd (none (r.next i) (r.within i li) (first_turn k (xs s) (ys s) (xs i) (ys i) (xs (r.next i)) (ys (r.next i)) h.0 h.1 turned))
    ]) s lt (refl, refl)

-- ---- the plane of a side
-- two directions, of which a plane sees the one as it turns the other
crossed : (a b p q e f g h : ℤ) → a *ℤ p +ℤ b *ℤ q ≡ pos 0 → (a *ℤ e +ℤ b *ℤ f) *ℤ minor p q g h ≡ (a *ℤ g +ℤ b *ℤ h) *ℤ minor p q e f
crossed a b p q e f g h z =
    omega (
      arith,
      sums,
      ring (a ∷ b ∷ p ∷ q ∷ e ∷ f ∷ g ∷ h ∷ [])
          (minus (times (plus (times (var 0) (var 4)) (times (var 1) (var 5))) (minorP (var 2) (var 3) (var 6) (var 7))) (times (plus (times (var 0) (var 6)) (times (var 1) (var 7))) (minorP (var 2) (var 3) (var 4) (var 5))))
          (times (plus (times (var 0) (var 2)) (times (var 1) (var 3))) (minus (times (var 4) (var 7)) (times (var 5) (var 6)))) refl,
      no_times (a *ℤ p +ℤ b *ℤ q) (e *ℤ h -ℤ f *ℤ g) z,
    )

above_by : (g t v r : ℤ) → g *ℤ t ≡ v *ℤ r → g ≤ℤ pos 0 → v <ℤ pos 0 → pos 0 <ℤ r → pos 0 <ℤ t
above_by g t v r e hg hv hr = elim (signs t) [
  | inr (inr above) ↦ above
  | inr (inl none) ↦ absurd (omega (arith, sums, e, neg_pos v r hv hr, most_most g t hg (omega (arith, sums, none))))
  | inl below ↦ absurd (omega (arith, sums, e, neg_pos v r hv hr, most_most g t hg (omega (arith, sums, below))))
]

-- the point (x, y) of weight w, and a way from p, q to u, v: above 0 where the point lies strictly to the left
abbrev pub left_of : ℤ → ℤ → ℤ → ℤ → ℤ → ℤ → ℤ → ℤ
left_of p q u v x y w = minor (u -ℤ p) (v -ℤ q) (x -ℤ p *ℤ w) (y -ℤ q *ℤ w)

-- a point behind the plane of an upright side lies on the side of the way on which a corner does that isn't ahead
pub beside : (a b c d p q u v s t l h x y z w : ℤ) → l <ℤ h → a *ℤ p +ℤ b *ℤ q +ℤ c *ℤ l -ℤ d *ℤ pos 1 ≡ pos 0 → a *ℤ u +ℤ b *ℤ v +ℤ c *ℤ l -ℤ d *ℤ pos 1 ≡ pos 0 → a *ℤ p +ℤ b *ℤ q +ℤ c *ℤ h -ℤ d *ℤ pos 1 ≡ pos 0 →
    (a *ℤ s +ℤ b *ℤ t +ℤ c *ℤ l -ℤ d *ℤ pos 1) ≤ℤ pos 0 → (a *ℤ x +ℤ b *ℤ y +ℤ c *ℤ z -ℤ d *ℤ w) <ℤ pos 0 → pos 0 <ℤ minor (u -ℤ p) (v -ℤ q) (s -ℤ p) (t -ℤ q) → pos 0 <ℤ left_of p q u v x y w
beside a b c d p q u v s t l h x y z w lt first second third most below turn =
    let none = no_slope c l h (a *ℤ p +ℤ b *ℤ q -ℤ d *ℤ pos 1) lt (omega (arith, sums, first)) (omega (arith, sums, third)) in
    let low = no_times c l none in
    let high = no_times c z none in
    let one : d *ℤ pos 1 ≡ d = ring (d ∷ []) (times (var 0) (num (pos 1))) (var 0) refl in
    let offset : d ≡ a *ℤ p +ℤ b *ℤ q = omega (arith, sums, first, low, one) in
    let way : a *ℤ (u -ℤ p) +ℤ b *ℤ (v -ℤ q) ≡ pos 0 = omega (arith, sums, first, second, less_parts a u p, less_parts b v q) in
    let corner : (a *ℤ (s -ℤ p) +ℤ b *ℤ (t -ℤ q)) ≤ℤ pos 0 = omega (arith, sums, most, first, less_parts a s p, less_parts b t q) in
    let spread : a *ℤ (x -ℤ p *ℤ w) +ℤ b *ℤ (y -ℤ q *ℤ w) ≡ a *ℤ x +ℤ b *ℤ y -ℤ (a *ℤ p +ℤ b *ℤ q) *ℤ w = ring (a ∷ b ∷ p ∷ q ∷ x ∷ y ∷ w ∷ []) (plus (times (var 0) (minus (var 4) (times (var 2) (var 6)))) (times (var 1) (minus (var 5) (times (var 3) (var 6))))) (minus (plus (times (var 0) (var 4)) (times (var 1) (var 5))) (times (plus (times (var 0) (var 2)) (times (var 1) (var 3))) (var 6))) refl in
    let point : (a *ℤ (x -ℤ p *ℤ w) +ℤ b *ℤ (y -ℤ q *ℤ w)) <ℤ pos 0 = omega (arith, sums, below, high, spread, ap (λ (n : ℤ). n *ℤ w) offset) in
    above_by (a *ℤ (s -ℤ p) +ℤ b *ℤ (t -ℤ q)) (left_of p q u v x y w) (a *ℤ (x -ℤ p *ℤ w) +ℤ b *ℤ (y -ℤ q *ℤ w)) (minor (u -ℤ p) (v -ℤ q) (s -ℤ p) (t -ℤ q))
    (crossed a b (u -ℤ p) (v -ℤ q) (s -ℤ p) (t -ℤ q) (x -ℤ p *ℤ w) (y -ℤ q *ℤ w) way) corner point turn

-- the turn from a point to another one, as seen from (x, y) of weight w
pub turn_seen : (p q u v x y w : ℤ) → minor (w *ℤ p -ℤ x) (w *ℤ q -ℤ y) (w *ℤ u -ℤ x) (w *ℤ v -ℤ y) ≡ w *ℤ left_of p q u v x y w
turn_seen p q u v x y w =
    let P = var 0 in let Q = var 1 in let U = var 2 in let V = var 3 in let X = var 4 in let Y = var 5 in let W = var 6 in
    ring (p ∷ q ∷ u ∷ v ∷ x ∷ y ∷ w ∷ [])
    (minorP (minus (times W P) X) (minus (times W Q) Y) (minus (times W U) X) (minus (times W V) Y))
    (times W (minorP (minus U P) (minus V Q) (minus X (times P W)) (minus Y (times Q W)))) refl

pub turn_back : (p q u v : ℤ) → (pos 0 -ℤ pos 1) *ℤ minor p q u v ≡ minor u v p q
turn_back p q u v = ring (p ∷ q ∷ u ∷ v ∷ []) (times (minus (num (pos 0)) (num (pos 1))) (minorP (var 0) (var 1) (var 2) (var 3))) (minorP (var 2) (var 3) (var 0) (var 1)) refl

-- ---- a plane that no corner of a prism is ahead of
seen_by : (a b c d l h p q x y z w : ℤ) → (h -ℤ l) *ℤ (a *ℤ (w *ℤ p -ℤ x) +ℤ b *ℤ (w *ℤ q -ℤ y)) ≡ (h *ℤ w -ℤ z) *ℤ (a *ℤ p +ℤ b *ℤ q +ℤ c *ℤ l -ℤ d *ℤ pos 1) +ℤ (z -ℤ l *ℤ w) *ℤ (a *ℤ p +ℤ b *ℤ q +ℤ c *ℤ h -ℤ d *ℤ pos 1) -ℤ (h -ℤ l) *ℤ (a *ℤ x +ℤ b *ℤ y +ℤ c *ℤ z -ℤ d *ℤ w)
seen_by a b c d l h p q x y z w =
    let A = var 0 in let B = var 1 in let C = var 2 in let D = var 3 in let L = var 4 in let H = var 5 in let P = var 6 in let Q = var 7 in let X = var 8 in let Y = var 9 in let Z = var 10 in let W = var 11 in
    let flat = plus (times A P) (times B Q) in
    let end = λ (e : Poly). minus (plus flat (times C e)) (times D (num (pos 1))) in
    ring (a ∷ b ∷ c ∷ d ∷ l ∷ h ∷ p ∷ q ∷ x ∷ y ∷ z ∷ w ∷ [])
    (times (minus H L) (plus (times A (minus (times W P) X)) (times B (minus (times W Q) Y))))
    (minus (plus (times (minus (times H W) Z) (end L)) (times (minus Z (times L W)) (end H))) (times (minus H L) (minus (plus (plus (times A X) (times B Y)) (times C Z)) (times D W)))) refl

-- the ends of a prism, and a point between them that a plane has on it or ahead
pub record IsBetween (a b c d l h x y z w : ℤ) : Type 0 where
  pub apart : l <ℤ h
  pub low : (l *ℤ w) <ℤ z
  pub high : z <ℤ (h *ℤ w)
  pub at : pos 0 ≤ℤ (a *ℤ x +ℤ b *ℤ y +ℤ c *ℤ z -ℤ d *ℤ w)

pub seen_most : (a b c d l h p q x y z w : ℤ) → IsBetween a b c d l h x y z w → (a *ℤ p +ℤ b *ℤ q +ℤ c *ℤ l -ℤ d *ℤ pos 1) ≤ℤ pos 0 → (a *ℤ p +ℤ b *ℤ q +ℤ c *ℤ h -ℤ d *ℤ pos 1) ≤ℤ pos 0 → (a *ℤ (w *ℤ p -ℤ x) +ℤ b *ℤ (w *ℤ q -ℤ y)) ≤ℤ pos 0
seen_most a b c d l h p q x y z w t first second =
    most_cancel (h -ℤ l) (a *ℤ (w *ℤ p -ℤ x) +ℤ b *ℤ (w *ℤ q -ℤ y)) (omega (arith, sums, t.apart))
    (omega (
      arith,
      sums,
      seen_by a b c d l h p q x y z w,
      least_most (h *ℤ w -ℤ z) (a *ℤ p +ℤ b *ℤ q +ℤ c *ℤ l -ℤ d *ℤ pos 1) (omega (arith, sums, t.high)) first,
      least_most (z -ℤ l *ℤ w) (a *ℤ p +ℤ b *ℤ q +ℤ c *ℤ h -ℤ d *ℤ pos 1) (omega (arith, sums, t.low)) second,
      least_least (h -ℤ l) (a *ℤ x +ℤ b *ℤ y +ℤ c *ℤ z -ℤ d *ℤ w) (omega (arith, sums, t.apart)) t.at,
    ))

pub seen_below_low : (a b c d l h p q x y z w : ℤ) → IsBetween a b c d l h x y z w → (a *ℤ p +ℤ b *ℤ q +ℤ c *ℤ l -ℤ d *ℤ pos 1) <ℤ pos 0 → (a *ℤ p +ℤ b *ℤ q +ℤ c *ℤ h -ℤ d *ℤ pos 1) ≤ℤ pos 0 → (a *ℤ (w *ℤ p -ℤ x) +ℤ b *ℤ (w *ℤ q -ℤ y)) <ℤ pos 0
seen_below_low a b c d l h p q x y z w t first second =
    neg_cancel (h -ℤ l) (a *ℤ (w *ℤ p -ℤ x) +ℤ b *ℤ (w *ℤ q -ℤ y)) (omega (arith, sums, t.apart))
    (omega (
      arith,
      sums,
      seen_by a b c d l h p q x y z w,
      pos_neg (h *ℤ w -ℤ z) (a *ℤ p +ℤ b *ℤ q +ℤ c *ℤ l -ℤ d *ℤ pos 1) (omega (arith, sums, t.high)) first,
      least_most (z -ℤ l *ℤ w) (a *ℤ p +ℤ b *ℤ q +ℤ c *ℤ h -ℤ d *ℤ pos 1) (omega (arith, sums, t.low)) second,
      least_least (h -ℤ l) (a *ℤ x +ℤ b *ℤ y +ℤ c *ℤ z -ℤ d *ℤ w) (omega (arith, sums, t.apart)) t.at,
    ))

pub seen_below_high : (a b c d l h p q x y z w : ℤ) → IsBetween a b c d l h x y z w → (a *ℤ p +ℤ b *ℤ q +ℤ c *ℤ l -ℤ d *ℤ pos 1) ≤ℤ pos 0 → (a *ℤ p +ℤ b *ℤ q +ℤ c *ℤ h -ℤ d *ℤ pos 1) <ℤ pos 0 → (a *ℤ (w *ℤ p -ℤ x) +ℤ b *ℤ (w *ℤ q -ℤ y)) <ℤ pos 0
seen_below_high a b c d l h p q x y z w t first second =
    neg_cancel (h -ℤ l) (a *ℤ (w *ℤ p -ℤ x) +ℤ b *ℤ (w *ℤ q -ℤ y)) (omega (arith, sums, t.apart))
    (omega (
      arith,
      sums,
      seen_by a b c d l h p q x y z w,
      least_most (h *ℤ w -ℤ z) (a *ℤ p +ℤ b *ℤ q +ℤ c *ℤ l -ℤ d *ℤ pos 1) (omega (arith, sums, t.high)) first,
      pos_neg (z -ℤ l *ℤ w) (a *ℤ p +ℤ b *ℤ q +ℤ c *ℤ h -ℤ d *ℤ pos 1) (omega (arith, sums, t.low)) second,
      least_least (h -ℤ l) (a *ℤ x +ℤ b *ℤ y +ℤ c *ℤ z -ℤ d *ℤ w) (omega (arith, sums, t.apart)) t.at,
    ))

-- two points that are seen in the same place are the same
pub same_seen : (w p q x : ℤ) → pos 0 <ℤ w → w *ℤ p -ℤ x ≡ w *ℤ q -ℤ x → q -ℤ p ≡ pos 0
same_seen w p q x above e = zero_cancel w (q -ℤ p) above (omega (arith, sums, e, less_parts w q p))

-- three points at one place make no turn
pub no_corner : (p q s t : ℤ) → p ≡ pos 0 → q ≡ pos 0 → minor p q s t ≡ pos 0
no_corner p q s t e f = omega (arith, sums, no_times p t e, no_times q s f)

-- ---- the plane of an end
-- a plane that holds three points at one height which make a turn is level
pub level : (a b c d p q u v s t g : ℤ) → a *ℤ p +ℤ b *ℤ q +ℤ c *ℤ g -ℤ d *ℤ pos 1 ≡ pos 0 → a *ℤ u +ℤ b *ℤ v +ℤ c *ℤ g -ℤ d *ℤ pos 1 ≡ pos 0 → a *ℤ s +ℤ b *ℤ t +ℤ c *ℤ g -ℤ d *ℤ pos 1 ≡ pos 0 → (minor (u -ℤ p) (v -ℤ q) (s -ℤ p) (t -ℤ q) ≡ pos 0 → ⊥) → IsAcross c a b d g
level a b c d p q u v s t g first second third turn =
    let e = u -ℤ p in let f = v -ℤ q in let i = s -ℤ p in let j = t -ℤ q in
    let one : a *ℤ e +ℤ b *ℤ f ≡ pos 0 = omega (arith, sums, first, second, less_parts a u p, less_parts b v q) in
    let two : a *ℤ i +ℤ b *ℤ j ≡ pos 0 = omega (arith, sums, first, third, less_parts a s p, less_parts b t q) in
    let across : minor e f i j *ℤ a ≡ pos 0 = omega (
      arith,
      sums,
      ring (a ∷ b ∷ e ∷ f ∷ i ∷ j ∷ []) (times (minorP (var 2) (var 3) (var 4) (var 5)) (var 0)) (minus (times (plus (times (var 0) (var 2)) (times (var 1) (var 3))) (var 5)) (times (plus (times (var 0) (var 4)) (times (var 1) (var 5))) (var 3))) refl,
      no_times (a *ℤ e +ℤ b *ℤ f) j one,
      no_times (a *ℤ i +ℤ b *ℤ j) f two,
    ) in
    let along : minor e f i j *ℤ b ≡ pos 0 = omega (
      arith,
      sums,
      ring (a ∷ b ∷ e ∷ f ∷ i ∷ j ∷ []) (times (minorP (var 2) (var 3) (var 4) (var 5)) (var 1)) (minus (times (plus (times (var 0) (var 4)) (times (var 1) (var 5))) (var 2)) (times (plus (times (var 0) (var 2)) (times (var 1) (var 3))) (var 4))) refl,
      no_times (a *ℤ i +ℤ b *ℤ j) e two,
      no_times (a *ℤ e +ℤ b *ℤ f) i one,
    ) in
    let none = cancelled (minor e f i j) a turn across in
    let nor = cancelled (minor e f i j) b turn along in
    record { second = none; third = nor; offset = omega (arith, sums, first, no_times a p none, no_times b q nor, times_one d) }
