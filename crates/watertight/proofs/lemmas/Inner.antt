-- A point strictly inside a face is ahead of no plane that has no corner ahead of it.
use Rattle.std.proofs.Common.{◌≡◌, ◌≢◌, ◌⊎◌, inl, inr, ℕ, zero, suc, ◌+◌, ◌-◌, ◌<◌, ◌≤◌, List, [], ◌∷◌, length, slice_index, sym, subst, arith, ℤ, pos, ◌+ℤ◌, ◌-ℤ◌, ◌*ℤ◌, ◌<ℤ◌, ◌≤ℤ◌}
use Rattle.plane_predicate.specs.declared.unit.Unit.{Unit as LengthUnit}
use Rattle.plane_predicate.specs.Space.{Coefficients, Coordinates, value, orientation_seen_from, IsPlane}
use Rattle.plane_predicate.specs.InUnits.{in_steps}
use Rattle.plane_predicate.proofs.lemmas.IntegerRing.{sums}
use Rattle.plane_predicate.proofs.lemmas.Identities.{turn_round, turn_back}
use Rattle.plane_predicate.proofs.lemmas.Signs.{signs, most_cancel, most_most, least_most}
use Rattle.plane_predicate.proofs.lemmas.SamePlanes.{directed_above}
use Rattle.plane_polygon.proofs.lemmas.FourPoints.{four_points}
use Rattle.plane_polygon.proofs.lemmas.Hull.{after_inside, after_last}
use Rattle.closed_surface.proofs.lemmas.Numbers.{at_least}
use Rattle.off_text.specs.Boundaries.{grid_corner, FaceCovers}
use Rattle.plane_predicate.specs.Indices.{index_after}

-- going on from m, a number is first not below 0, and in the end not above it
pub turning_point : (f : ℕ → ℤ) (m d : ℕ) → pos 0 ≤ℤ f m → f (m + suc d) ≤ℤ pos 0 → (i : ℕ) × (m ≤ i) × (i < m + suc d) × (pos 0 ≤ℤ f i) × (f (suc i) ≤ℤ pos 0)
turning_point f m zero h k = (m, omega arith, omega arith, h, subst (λ (n : ℕ). f n ≤ℤ pos 0) (omega arith) k)
turning_point f m (suc d) h k =
    elim (signs (f (suc m))) [
      | inl e ↦ (m, omega arith, omega arith, h, omega (arith, sums))
      | inr (inl e) ↦ (m, omega arith, omega arith, h, omega (arith, sums))
      | inr (inr e) ↦ (let r = turning_point f (suc m) d (omega (arith, sums)) (subst (λ (n : ℕ). f n ≤ℤ pos 0) (omega arith) k) in (r.0, omega arith, omega arith, r.3, r.4))
    ]

-- what a plane says of a point between three others of which none is ahead of it
between : (t u v s a b c d : ℤ) → pos 0 <ℤ t → u ≤ℤ pos 0 → pos 0 ≤ℤ v → pos 0 <ℤ s → a ≤ℤ pos 0 → b ≤ℤ pos 0 → c ≤ℤ pos 0 →
    t *ℤ a -ℤ u *ℤ b +ℤ v *ℤ c -ℤ s *ℤ d ≡ pos 0 → d ≤ℤ pos 0
between t u v s a b c d ht hu hv hs ha hb hc e =
    most_cancel s d hs (omega (arith, sums, e, least_most t a (at_least t ht) ha, most_most u b hu hb, least_most v c hv hc))

module _ (unit : LengthUnit) (vertices : List Coordinates) (face : List ℕ) (three : 3 ≤ length face) (n : Coefficients) (plane : IsPlane n) (p : Coordinates)
    (h : FaceCovers unit vertices n p face) where
  abbrev spot : ℕ → Coordinates
  spot i = grid_corner unit vertices face i

  abbrev inner : Coordinates
  inner = in_steps unit p

  abbrev around : ℕ → ℤ
  around i = orientation_seen_from n (spot 0) (spot i) inner

  -- left of the way from corner i to corner j, which is the next
  left_to : (i j : ℕ) → i < length face → index_after (length face) i ≡ j → pos 0 <ℤ orientation_seen_from n (spot i) (spot j) inner
  left_to i j l e = subst (λ (k : ℕ). pos 0 <ℤ orientation_seen_from n (spot i) (spot k) inner) e (h.left i l)

  first : pos 0 ≤ℤ around 1
  first = at_least (around 1) (left_to 0 1 (omega arith) (after_inside (length face) 0 (omega arith)))

  back : pos 0 <ℤ orientation_seen_from n (spot (length face - 1)) (spot 0) inner
  back = left_to (length face - 1) 0 (omega arith) (after_last (length face) (length face - 1) (omega arith))

  last : around (length face - 1) ≤ℤ pos 0
  last = omega (arith, sums, back, turn_back n (spot (length face - 1)) (spot 0) inner)

  last_by_sum : around (1 + suc (length face - 3)) ≤ℤ pos 0
  last_by_sum = let e : length face - 1 ≡ 1 + suc (length face - 3) = omega arith in subst (λ (k : ℕ). around k ≤ℤ pos 0) e last

  -- corner 0 is left of the way between two others
  fan : (i : ℕ) → 1 ≤ i → suc i < length face → pos 0 <ℤ orientation_seen_from n (spot 0) (spot i) (spot (suc i))
  fan i low high =
      let e = after_inside (length face) i high in
      let apart : 0 ≢ index_after (length face) i = subst (λ (k : ℕ). 0 ≢ k) (sym e) (omega arith) in
      subst (λ (v : ℤ). pos 0 <ℤ v) (turn_round n (spot 0) (spot i) (spot (suc i)))
      (subst (λ (k : ℕ). pos 0 <ℤ orientation_seen_from n (spot i) (spot k) (spot 0)) e (h.faces.left i 0 (omega arith) (omega arith) (omega arith) apart))

  pub inner_not_ahead : (m : Coefficients) → ((i : ℕ) → i < length face → value m (spot i) ≤ℤ pos 0) → value m inner ≤ℤ pos 0
  inner_not_ahead m corners =
      let w = turning_point around 1 (length face - 3) first last_by_sum in
      let i = w.0 in
      let high : suc i < length face = omega (arith, w.2, three) in
      let e = after_inside (length face) i high in
      between (orientation_seen_from n (spot i) (spot (suc i)) inner) (orientation_seen_from n (spot 0) (spot (suc i)) inner) (orientation_seen_from n (spot 0) (spot i) inner) (orientation_seen_from n (spot 0) (spot i) (spot (suc i)))
      (value m (spot 0)) (value m (spot i)) (value m (spot (suc i))) (value m inner)
      (left_to i (suc i) (omega (arith, high)) e) w.4 w.3 (fan i w.1 high)
      (corners 0 (omega arith)) (corners i (omega (arith, high))) (corners (suc i) high)
      (four_points n (directed_above n plane.directed) (spot 0) (spot i) (spot (suc i)) inner
      (h.faces.on 0 (omega arith)) (h.faces.on i (omega (arith, high))) (h.faces.on (suc i) high) h.on m)
