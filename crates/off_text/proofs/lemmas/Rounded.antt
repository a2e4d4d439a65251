-- A polygon's corners by other numbers and from another one on.
use Rattle.std.proofs.Common.{◌≡◌, ◌≢◌, inl, inr, ⊎_elim, ℕ, suc, ◌+◌, ◌-◌, ◌<◌, ◌≤◌, sym, ap, ◌∙◌, subst, arith, ℤ, pos, ◌<ℤ◌, ◌*ℤ◌, ◌+ℤ◌, ◌-ℤ◌}
use Rattle.std.proofs.Math.IntN.{*ℤ-zero}
use Rattle.std.proofs.lemmas.Bool.{cases_lt}
use Rattle.plane_predicate.specs.Space.{Coefficients, Coordinates, value, orientation_seen_from, IsPlane}
use Rattle.plane_predicate.proofs.lemmas.IntegerRing.{sums}
use Rattle.plane_predicate.proofs.lemmas.Signs.{zero_cancel}
use Rattle.plane_predicate.proofs.lemmas.SamePlanes.{equal_or_opposite}
use Rattle.plane_polygon.specs.Polygons.{Outline, edge_count, corner, IsPolygon, IsStrictlyWithin}
use Rattle.plane_polygon.proofs.lemmas.Hull.{after_is, after_below, corner_on, plane_directed}
use Rattle.plane_polygon.proofs.lemmas.FourPoints.{four_points}
use Rattle.plane_polygon.proofs.lemmas.Rounds.{step, step_below, step_is, step_apart, step_round}
use Rattle.plane_polygon.proofs.lemmas.Faces.{others_left, turns_by_within, within_by_turns}
use Rattle.off_text.proofs.lemmas.Scaled.{AreOnePoint, other_way, on_alike, two_alike, three_alike, no_two_sides}
use Rattle.plane_predicate.specs.Indices.{index_after}

step_next : (k a t : ℕ) → a < k → t < k → step k a (index_after k t) ≡ index_after k (step k a t)
step_next k a t h l = elim (after_is k t) [ inl p ↦ ap (step k a) p.1 ∙ sym (step_round k a t h p.0) | inr p ↦ ap (step k a) p.1 ]

step_wrapped : (k a j : ℕ) → a < k → j < a → step k a (j + k - a) ≡ j
step_wrapped k a j h l = elim (step_is k a (j + k - a) h (omega arith)) [ inl p ↦ absurd (omega arith) | inr p ↦ omega arith ]

step_straight : (k a j : ℕ) → a < k → j < k → a ≤ j → step k a (j - a) ≡ j
step_straight k a j h l b = elim (step_is k a (j - a) h (omega arith)) [ inl p ↦ omega arith | inr p ↦ omega arith ]

-- from each corner, all are reached
pub reached : (k a j : ℕ) → a < k → j < k → (i : ℕ) × (i < k) × (step k a i ≡ j)
reached k a j h l =
    ⊎_elim (λ b. (j + k - a, omega arith, step_wrapped k a j h b)) (λ b. (j - a, omega arith, step_straight k a j h l b)) (cases_lt j a)

pub below_three : (i k : ℕ) → 3 ≤ k → i < 3 → i < k
below_three i k h l = omega arith

pub not_two : (k : ℕ) → 3 ≤ k → 2 ≢ index_after k 0
not_two k h = elim (after_is k 0) [ inl p ↦ absurd (omega arith) | inr p ↦ (λ e. let f : 2 ≡ suc 0 = e ∙ p.1 in omega (arith, f)) ]

pub last_of_four : (t u v s a b c d : ℤ) → t *ℤ a -ℤ u *ℤ b +ℤ v *ℤ c -ℤ s *ℤ d ≡ pos 0 → a ≡ pos 0 → b ≡ pos 0 → c ≡ pos 0 → s *ℤ d ≡ pos 0
last_of_four t u v s a b c d e ha hb hc =
    omega (arith, sums, e, ap (λ (x : ℤ). t *ℤ x) ha ∙ *ℤ-zero t, ap (λ (x : ℤ). u *ℤ x) hb ∙ *ℤ-zero u, ap (λ (x : ℤ). v *ℤ x) hc ∙ *ℤ-zero v)

-- a plane that has a polygon's corners has its plane
through_three : (s : Outline) → IsPolygon s → (n : Coefficients) → ((j : ℕ) → j < edge_count s → value n (corner s j) ≡ pos 0) → (p : Coordinates) → value s.plane p ≡ pos 0 → value n p ≡ pos 0
through_three s h n e p on =
    let one = below_three 0 (edge_count s) h.three (omega arith) in
    let next = after_below (edge_count s) 0 one in
    let two = below_three 2 (edge_count s) h.three (omega arith) in
    let left = others_left s h 0 2 one two (omega arith) (not_two (edge_count s) h.three) in
    let next_corner = corner s (index_after (edge_count s) 0) in
    zero_cancel (orientation_seen_from s.plane (corner s 0) next_corner (corner s 2)) (value n p) left
    (last_of_four (orientation_seen_from s.plane next_corner (corner s 2) p) (orientation_seen_from s.plane (corner s 0) (corner s 2) p) (orientation_seen_from s.plane (corner s 0) next_corner p) (orientation_seen_from s.plane (corner s 0) next_corner (corner s 2))
    (value n (corner s 0)) (value n next_corner) (value n (corner s 2)) (value n p)
    (four_points s.plane (plane_directed s h) (corner s 0) next_corner (corner s 2) p (corner_on s 0) (corner_on s (index_after (edge_count s) 0)) (corner_on s 2) on n)
    (e 0 one) (e (index_after (edge_count s) 0) next) (e 2 two))

-- points that are the corners, from corner a on
module _ (s : Outline) (h : IsPolygon s) (a : ℕ) (l : a < edge_count s) (c : ℕ → Coordinates) (is : (i : ℕ) → i < edge_count s → AreOnePoint (corner s (step (edge_count s) a i)) (c i)) where
  next_is : (i : ℕ) → i < edge_count s → AreOnePoint (corner s (index_after (edge_count s) (step (edge_count s) a i))) (c (index_after (edge_count s) i))
  next_is i b = subst (λ (j : ℕ). AreOnePoint (corner s j) (c (index_after (edge_count s) i))) (step_next (edge_count s) a i l b) (is (index_after (edge_count s) i) (after_below (edge_count s) i b))

  pub points_on : (i : ℕ) → i < edge_count s → value s.plane (c i) ≡ pos 0
  points_on i b = on_alike s.plane (corner s (step (edge_count s) a i)) (c i) (is i b) (corner_on s (step (edge_count s) a i))

  pub points_left : (i j : ℕ) → i < edge_count s → j < edge_count s → j ≢ i → j ≢ index_after (edge_count s) i → pos 0 <ℤ orientation_seen_from s.plane (c i) (c (index_after (edge_count s) i)) (c j)
  points_left i j b d m n =
      three_alike s.plane (corner s (step (edge_count s) a i)) (c i) (corner s (index_after (edge_count s) (step (edge_count s) a i))) (c (index_after (edge_count s) i)) (corner s (step (edge_count s) a j)) (c j) (is i b) (next_is i b) (is j d)
      (others_left s h (step (edge_count s) a i) (step (edge_count s) a j) (step_below (edge_count s) a i l) (step_below (edge_count s) a j l)
      (step_apart (edge_count s) a i j l b d m)
      (λ e. step_apart (edge_count s) a (index_after (edge_count s) i) j l (after_below (edge_count s) i b) d n (e ∙ sym (step_next (edge_count s) a i l b))))

  pub left_from_within : (p : Coordinates) → IsStrictlyWithin s p → (i : ℕ) → i < edge_count s → pos 0 <ℤ orientation_seen_from s.plane (c i) (c (index_after (edge_count s) i)) p
  left_from_within p w i b =
      two_alike s.plane (corner s (step (edge_count s) a i)) (c i) (corner s (index_after (edge_count s) (step (edge_count s) a i))) (c (index_after (edge_count s) i)) p (is i b) (next_is i b)
      (turns_by_within s h p w.on w.behind (step (edge_count s) a i) (step_below (edge_count s) a i l))

  left_at : (p : Coordinates) → ((i : ℕ) → i < edge_count s → pos 0 <ℤ orientation_seen_from s.plane (c i) (c (index_after (edge_count s) i)) p) → (i : ℕ) → i < edge_count s →
      pos 0 <ℤ orientation_seen_from s.plane (corner s (step (edge_count s) a i)) (corner s (index_after (edge_count s) (step (edge_count s) a i))) p
  left_at p t i b =
      let here = other_way (corner s (step (edge_count s) a i)) (c i) (is i b) in
      let next = other_way (corner s (index_after (edge_count s) (step (edge_count s) a i))) (c (index_after (edge_count s) i)) (next_is i b) in
      two_alike s.plane (c i) (corner s (step (edge_count s) a i)) (c (index_after (edge_count s) i)) (corner s (index_after (edge_count s) (step (edge_count s) a i))) p here next (t i b)

  pub within_from_left : (p : Coordinates) → value s.plane p ≡ pos 0 → ((i : ℕ) → i < edge_count s → pos 0 <ℤ orientation_seen_from s.plane (c i) (c (index_after (edge_count s) i)) p) → IsStrictlyWithin s p
  within_from_left p e t = record {
    on = e;
    behind = within_by_turns s h p e (λ j b. let r = reached (edge_count s) a j l b in
        subst (λ (m : ℕ). pos 0 <ℤ orientation_seen_from s.plane (corner s m) (corner s (index_after (edge_count s) m)) p) r.2 (left_at p t r.0 r.1));
  }

  -- a plane that has them has all corners
  corners_on : (n : Coefficients) → ((i : ℕ) → i < edge_count s → value n (c i) ≡ pos 0) → (j : ℕ) → j < edge_count s → value n (corner s j) ≡ pos 0
  corners_on n e j b =
      let r = reached (edge_count s) a j l b in
      subst (λ (m : ℕ). value n (corner s m) ≡ pos 0) r.2 (on_alike n (c r.0) (corner s (step (edge_count s) a r.0)) (other_way (corner s (step (edge_count s) a r.0)) (c r.0) (is r.0 r.1)) (e r.0 r.1))

  -- the plane that they face is the polygon's
  pub one_plane : (n : Coefficients) → IsPlane s.plane → IsPlane n → ((i : ℕ) → i < edge_count s → value n (c i) ≡ pos 0) → pos 0 <ℤ orientation_seen_from n (c 0) (c (index_after (edge_count s) 0)) (c 2) → s.plane ≡ n
  one_plane n hs hn e t =
      ⊎_elim (λ same. same)
      (λ opposite. absurd (no_two_sides s.plane n opposite (c 0) (c (index_after (edge_count s) 0)) (c 2) (points_left 0 2 (below_three 0 (edge_count s) h.three (omega arith)) (below_three 2 (edge_count s) h.three (omega arith)) (omega arith) (not_two (edge_count s) h.three)) t))
      (equal_or_opposite s.plane n hs hn (record { points = λ p w q. through_three s h n (corners_on n e) p q }))
