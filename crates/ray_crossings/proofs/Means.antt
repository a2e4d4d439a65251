-- The mean of a face's corners is strictly inside the face.
use Rattle.std.proofs.Common.{◌≡◌, ◌≢◌, ◌⊎◌, inl, inr, ℕ, zero, suc, ◌-◌, ◌<◌, ◌≤◌, List, [], length, refl, sym, ap, ◌∙◌, subst, arith, ℤ, pos, ◌+ℤ◌, ◌*ℤ◌, ◌<ℤ◌, ◌≤ℤ◌}
use Rattle.std.proofs.Math.IntN.{*ℤ-zero}
use Rattle.std.proofs.lemmas.Bool.Decides.{eqb_tells}
use Rattle.plane_predicate.specs.declared.unit.Unit.{Unit as LengthUnit}
use Rattle.plane_predicate.specs.Space.{Coefficients, Coordinates, value, orientation_seen_from, IsInWorld}
use Rattle.plane_predicate.specs.InUnits.{in_steps}
use Rattle.plane_predicate.proofs.lemmas.IntegerRing.{sums}
use Rattle.plane_predicate.proofs.lemmas.Identities.{combine, turn_round}
use Rattle.plane_predicate.proofs.lemmas.Polynomials.{num, ring}
use Rattle.plane_predicate.proofs.lemmas.Vectors.{form, place, of_plane, of_point, turnP}
use Rattle.plane_predicate.proofs.lemmas.Signs.{pos_pos, least_least}
use Rattle.plane_polygon.proofs.lemmas.Hull.{after_below, after_other, after_twice}
use Rattle.closed_surface.proofs.lemmas.Numbers.{at_least, zero_at_least}
use Rattle.off_text.specs.Boundaries.{face_corner, grid_corner, FacesPlane}
use Rattle.ray_crossings.proofs.Volumes.{value_between, turn_between}
use Rattle.ray_crossings.proofs.Sides.{between_world}
use Rattle.plane_predicate.specs.Indices.{index_after}

one_above : pos 0 <ℤ pos 1
one_above = omega (arith, sums)

turn_first : (n : Coefficients) (p q : Coordinates) → orientation_seen_from n p q p ≡ pos 0
turn_first n p q = ring (of_plane n (of_point p (of_point q []))) (turnP (form 0) (place 4) (place 8) (place 4)) (num (pos 0)) refl

turn_second : (n : Coefficients) (p q : Coordinates) → orientation_seen_from n p q q ≡ pos 0
turn_second n p q = ring (of_plane n (of_point p (of_point q []))) (turnP (form 0) (place 4) (place 8) (place 8)) (num (pos 0)) refl

pub both_zero : (u v x y z : ℤ) → z ≡ u *ℤ x +ℤ v *ℤ y → x ≡ pos 0 → y ≡ pos 0 → z ≡ pos 0
both_zero u v x y z e hx hy = omega (arith, sums, e, ap (λ (k : ℤ). u *ℤ k) hx ∙ *ℤ-zero u, ap (λ (k : ℤ). v *ℤ k) hy ∙ *ℤ-zero v)

both_least : (u v x y z : ℤ) → pos 0 <ℤ u → pos 0 <ℤ v → z ≡ u *ℤ x +ℤ v *ℤ y → pos 0 ≤ℤ x → pos 0 ≤ℤ y → pos 0 ≤ℤ z
both_least u v x y z hu hv e hx hy = omega (arith, sums, e, least_least u x (at_least u hu) hx, least_least v y (at_least v hv) hy)

pub first_above : (u v x y z : ℤ) → pos 0 <ℤ u → pos 0 <ℤ v → z ≡ u *ℤ x +ℤ v *ℤ y → pos 0 <ℤ x → pos 0 ≤ℤ y → pos 0 <ℤ z
first_above u v x y z hu hv e hx hy = omega (arith, sums, e, pos_pos u x hu hx, least_least v y (at_least v hv) hy)

pub second_above : (u v x y z : ℤ) → pos 0 <ℤ u → pos 0 <ℤ v → z ≡ u *ℤ x +ℤ v *ℤ y → pos 0 ≤ℤ x → pos 0 <ℤ y → pos 0 <ℤ z
second_above u v x y z hu hv e hx hy = omega (arith, sums, e, least_least u x (at_least u hu) hx, pos_pos v y hv hy)

last_or_less : (i k : ℕ) → i < suc k → (i ≡ k) ⊎ (i < k)
last_or_less i k h = elim (eqb_tells i k) [ inl p ↦ inl p.1 | inr p ↦ inr (omega (arith, p.1)) ]

bound_last : (k o : ℕ) → o < k → 3 ≤ k → o < suc (k - 1)
bound_last k o h t = omega arith

-- the orientation_seen_from of an edge to a point between two others
pub turn_combined : (unit : LengthUnit) (n : Coefficients) (p q : Coordinates) (u : ℤ) (a : Coordinates) (v : ℤ) (b : Coordinates) →
    orientation_seen_from n (in_steps unit p) (in_steps unit q) (in_steps unit (combine u a v b))
    ≡ u *ℤ orientation_seen_from n (in_steps unit p) (in_steps unit q) (in_steps unit a) +ℤ v *ℤ orientation_seen_from n (in_steps unit p) (in_steps unit q) (in_steps unit b)
turn_combined unit n p q u a v b =
    turn_between unit n p q u a v b
    ∙ ap (λ (x : ℤ). u *ℤ x +ℤ v *ℤ orientation_seen_from n (in_steps unit b) (in_steps unit p) (in_steps unit q)) (sym (turn_round n (in_steps unit a) (in_steps unit p) (in_steps unit q)))
    ∙ ap (λ (x : ℤ). u *ℤ orientation_seen_from n (in_steps unit p) (in_steps unit q) (in_steps unit a) +ℤ v *ℤ x) (sym (turn_round n (in_steps unit b) (in_steps unit p) (in_steps unit q)))

module _ (unit : LengthUnit) (vertices : List Coordinates) (n : Coefficients) (face : List ℕ) (three : 3 ≤ length face) (h : FacesPlane unit vertices n face) where
  -- the mean of the corners up to number j
  abbrev pub mean : ℕ → Coordinates
  mean zero = face_corner vertices face 0
  mean (suc j) = combine (pos 1) (mean j) (pos 1) (face_corner vertices face (suc j))

  abbrev pub edge_turn : ℕ → Coordinates → ℤ
  edge_turn i p = orientation_seen_from n (grid_corner unit vertices face i) (grid_corner unit vertices face (index_after (length face) i)) (in_steps unit p)

  mean_on : (j : ℕ) → j < length face → value n (in_steps unit (mean j)) ≡ pos 0
  mean_on zero l = h.on 0 l
  mean_on (suc j) l =
      both_zero (pos 1) (pos 1) (value n (in_steps unit (mean j))) (value n (grid_corner unit vertices face (suc j))) (value n (in_steps unit (mean (suc j))))
      (value_between unit n (pos 1) (mean j) (pos 1) (face_corner vertices face (suc j))) (mean_on j (omega arith)) (h.on (suc j) l)

  by_number : (i j : ℕ) → i < length face → j < length face → ((j ≡ i) ⊎ (j ≢ i)) → ((j ≡ index_after (length face) i) ⊎ (j ≢ index_after (length face) i)) → pos 0 ≤ℤ edge_turn i (face_corner vertices face j)
  by_number i j l m (inl e) s =
      zero_at_least (edge_turn i (face_corner vertices face j))
      (ap (λ k. edge_turn i (face_corner vertices face k)) e ∙ turn_first n (grid_corner unit vertices face i) (grid_corner unit vertices face (index_after (length face) i)))
  by_number i j l m (inr e) (inl s) =
      zero_at_least (edge_turn i (face_corner vertices face j))
      (ap (λ k. edge_turn i (face_corner vertices face k)) s ∙ turn_second n (grid_corner unit vertices face i) (grid_corner unit vertices face (index_after (length face) i)))
  by_number i j l m (inr e) (inr s) = at_least (edge_turn i (face_corner vertices face j)) (h.left i j l m e s)

  same_or_other : (i j : ℕ) → (i ≡ j) ⊎ (i ≢ j)
  same_or_other i j = elim (eqb_tells i j) [ inl p ↦ inl p.1 | inr p ↦ inr p.1 ]

  pub corner_least : (i j : ℕ) → i < length face → j < length face → pos 0 ≤ℤ edge_turn i (face_corner vertices face j)
  corner_least i j l m = by_number i j l m (same_or_other j i) (same_or_other j (index_after (length face) i))

  turn_next : (i j : ℕ) → edge_turn i (mean (suc j)) ≡ pos 1 *ℤ edge_turn i (mean j) +ℤ pos 1 *ℤ edge_turn i (face_corner vertices face (suc j))
  turn_next i j = turn_combined unit n (face_corner vertices face i) (face_corner vertices face (index_after (length face) i)) (pos 1) (mean j) (pos 1) (face_corner vertices face (suc j))

  mean_least : (i j : ℕ) → i < length face → j < length face → pos 0 ≤ℤ edge_turn i (mean j)
  mean_least i zero l m = corner_least i 0 l m
  mean_least i (suc j) l m =
      both_least (pos 1) (pos 1) (edge_turn i (mean j)) (edge_turn i (face_corner vertices face (suc j))) (edge_turn i (mean (suc j))) one_above one_above (turn_next i j)
      (mean_least i j l (omega arith)) (corner_least i (suc j) l m)

  mean_above : (i j o : ℕ) → i < length face → j < length face → o < suc j → o ≢ i → o ≢ index_after (length face) i → pos 0 <ℤ edge_turn i (mean j)
  mean_above i zero o l m b x y =
      subst (λ k. pos 0 <ℤ edge_turn i (face_corner vertices face k)) (omega arith) (h.left i o l (omega arith) x y)
  mean_above i (suc j) o l m b x y = elim (last_or_less o (suc j) b) [
    | inl e ↦ second_above (pos 1) (pos 1) (edge_turn i (mean j)) (edge_turn i (face_corner vertices face (suc j))) (edge_turn i (mean (suc j))) one_above one_above (turn_next i j)
        (mean_least i j l (omega arith)) (subst (λ k. pos 0 <ℤ edge_turn i (face_corner vertices face k)) e (h.left i o l (omega arith) x y))
    | inr c ↦ first_above (pos 1) (pos 1) (edge_turn i (mean j)) (edge_turn i (face_corner vertices face (suc j))) (edge_turn i (mean (suc j))) one_above one_above (turn_next i j)
        (mean_above i j o l (omega arith) c x y) (corner_least i (suc j) l m)
  ]

  pub mean_world : ((j : ℕ) → IsInWorld (grid_corner unit vertices face j)) → (j : ℕ) → IsInWorld (in_steps unit (mean j))
  mean_world w zero = w 0
  mean_world w (suc j) = between_world unit (pos 1) (pos 1) one_above one_above (mean j) (face_corner vertices face (suc j)) (mean_world w j) (w (suc j))

  -- ---- the mean of all corners
  abbrev pub middle : Coordinates
  middle = mean (length face - 1)

  pub middle_on : value n (in_steps unit middle) ≡ pos 0
  middle_on = mean_on (length face - 1) (omega arith)

  pub middle_left : (i : ℕ) → i < length face → pos 0 <ℤ edge_turn i middle
  middle_left i l =
      let k = length face in
      let next = after_below k i l in
      mean_above i (k - 1) (index_after k (index_after k i)) l (omega arith) (bound_last k (index_after k (index_after k i)) (after_below k (index_after k i) next) three) (after_twice k i three l) (after_other k (index_after k i) three next)
