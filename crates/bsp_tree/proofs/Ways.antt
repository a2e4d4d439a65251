-- Polygons of one cell whose planes are neither equal nor opposite lie against one another in one of five ways.
use Rattle.std.proofs.Common.{◌≡◌, ◌≢◌, inl, inr, ℕ, suc, ◌<◌, Bool, true, false, List, refl, sym, ap, ◌∙◌, subst, arith, ℤ, pos, negsuc, ◌+ℤ◌, ◌-ℤ◌, ◌*ℤ◌, ◌<ℤ◌, ◌≤ℤ◌, neg_ℤ}
use Rattle.std.proofs.Math.IntN.{*ℤ-zero}
use Rattle.plane_predicate.specs.Space.{Coefficients, Coordinates, value, orientation_seen_from, opposite_of, HasItsPointsOn, is_same}
use Rattle.plane_predicate.proofs.lemmas.IntegerRing.{sums}
use Rattle.plane_predicate.proofs.lemmas.Identities.{combine, value_combine}
use Rattle.plane_predicate.proofs.lemmas.Signs.{zero_cancel, neg_neg}
use Rattle.plane_predicate.proofs.lemmas.SamePlanes.{equal_or_opposite}
use Rattle.plane_polygon.specs.Polygons.{Outline, edge_count, corner, IsPolygon}
use Rattle.plane_polygon.specs.declared.classes.Class.{Class}
use Rattle.plane_polygon.specs.declared.classes.Class.TheVariants.{Behind, Ahead, On, Across}
use Rattle.plane_polygon.specs.Parts.{class_of}
use Rattle.plane_polygon.proofs.lemmas.Hull.{corner_on, plane_directed}
use Rattle.plane_polygon.proofs.lemmas.FourPoints.{four_points}
use Rattle.plane_polygon.proofs.lemmas.Rounds.{step, step_below, corner_from, any_turn}
use Rattle.bsp_tree.specs.Cells.{IsInCell, IsPolygonOfCell}
use Rattle.bsp_tree.proofs.lemmas.Opposites.{opposite_zero, opposite_twice, behind_opposite_above}
use Rattle.bsp_tree.proofs.lemmas.SameNumbers.{not_same}
use Rattle.bsp_tree.proofs.lemmas.Convexity.{in_closed, in_combine}
use Rattle.bsp_tree.proofs.lemmas.Openness.{often, in_near}
use Rattle.bsp_tree.proofs.lemmas.PolygonsOfCells.{inner_point}
use Rattle.bsp_tree.proofs.lemmas.Sides.{HasBehind, LiesBehind, lies_behind, lies_ahead, lies_on, lies_across, none_ahead}
use Rattle.bsp_tree.proofs.Apart.{not_both, at_crossing}

-- the five ways
abbrev pub is_way : Class → Class → Bool
is_way Across Across = true
is_way Behind Behind = true
is_way Behind Ahead = true
is_way Ahead Behind = true
is_way Ahead Ahead = true
is_way _ _ = false

-- ---- a polygon on a plane
fourth_zero : (t u v w a b c d : ℤ) → a ≡ pos 0 → b ≡ pos 0 → c ≡ pos 0 → t *ℤ a -ℤ u *ℤ b +ℤ v *ℤ c -ℤ w *ℤ d
    ≡ pos 0 → w *ℤ d ≡ pos 0
fourth_zero t u v w a b c d ha hb hc e =
    let k : t *ℤ pos 0 -ℤ u *ℤ pos 0 +ℤ v *ℤ pos 0 -ℤ w *ℤ d ≡ pos 0 =
    subst (λ (x : ℤ). t *ℤ x -ℤ u *ℤ pos 0 +ℤ v *ℤ pos 0 -ℤ w *ℤ d ≡ pos 0) ha
    (subst (λ (x : ℤ). t *ℤ a -ℤ u *ℤ x +ℤ v *ℤ pos 0 -ℤ w *ℤ d ≡ pos 0) hb
    (subst (λ (x : ℤ). t *ℤ a -ℤ u *ℤ b +ℤ v *ℤ x -ℤ w *ℤ d ≡ pos 0) hc e)) in
    omega (arith, sums, *ℤ-zero t, *ℤ-zero u, *ℤ-zero v)

-- where three corners are on q, all points of the polygon's plane are
on_points : (s : Outline) (q : Coefficients) → IsPolygon s → ((j : ℕ) → j < edge_count s →
    value q (corner s j) ≡ pos 0) → HasItsPointsOn s.plane q
on_points s q h e =
    let three = h.three in
    let k = edge_count s in
    let a = corner_from s 0 0 in
    let b = corner_from s 0 1 in
    let c = corner_from s 0 2 in
    let zero_below : 0 < k = omega arith in
    record {
      points = λ p w on. zero_cancel (orientation_seen_from s.plane a b c) (value q p) (any_turn s h 0 0 1 2 zero_below
          (omega arith) (omega arith) (omega arith))
          (fourth_zero (orientation_seen_from s.plane b c p) (orientation_seen_from s.plane a c p) (orientation_seen_from s.plane a b p) (orientation_seen_from s.plane a b c)
          (value q a) (value q b) (value q c) (value q p)
          (e (step k 0 0) (step_below k 0 0 zero_below)) (e (step k 0 1) (step_below k 0 1 zero_below))
          (e (step k 0 2) (step_below k 0 2 zero_below))
          (four_points s.plane (plane_directed s h) a b c p (corner_on s (step k 0 0))
          (corner_on s (step k 0 1)) (corner_on s (step k 0 2)) on q));
    }

opposite_other : (m n : Coefficients) → m ≡ opposite_of n → n ≡ opposite_of m
opposite_other m n e = sym (opposite_twice n) ∙ ap opposite_of (sym e)

-- so it is on no plane but its own and its opposite
not_on : (cell : List Coefficients) (s t : Outline) → IsPolygonOfCell cell s → IsPolygonOfCell cell t → t.plane ≢ s.plane →
    t.plane ≢ opposite_of s.plane → class_of s t.plane ≡ On → ⊥
not_on cell s t hs ht ne other e =
    elim (equal_or_opposite s.plane t.plane hs.plane ht.plane (on_points s t.plane hs.polygon
    (lies_on s t.plane e))) [
      | inl k ↦ ne (sym k)
      | inr k ↦ other (opposite_other s.plane t.plane k)
    ]

-- ---- a polygon across the plane of another that lies to one side of its plane
neg_least : (x : ℤ) → x <ℤ pos 0 → pos 0 ≤ℤ neg_ℤ x
neg_least x h = omega (arith, sums)

both_zero : (u v x y : ℤ) → x ≡ pos 0 → y ≡ pos 0 → u *ℤ x +ℤ v *ℤ y ≡ pos 0
both_zero u v x y hx hy = rw (hx, hy, *ℤ-zero u, *ℤ-zero v) refl

second_above : (u v x y : ℤ) → x ≡ pos 0 → pos 0 <ℤ (v *ℤ y) → pos 0 <ℤ (u *ℤ x +ℤ v *ℤ y)
second_above u v x y hx h = subst (λ (z : ℤ). pos 0 <ℤ (u *ℤ z +ℤ v *ℤ y)) (sym hx)
    (omega (arith, sums, *ℤ-zero u))

-- a point of the cell on both planes
on_both_planes : (cell : List Coefficients) (s : Outline) (q : Coefficients) → IsPolygonOfCell cell s →
    HasBehind s q → HasBehind s (opposite_of q) →
    (z : Coordinates) × IsInCell cell z × (value s.plane z ≡ pos 0) × (value q z ≡ pos 0)
on_both_planes cell s q h b a =
    let y = inner_point cell s q h b.index b.index_below b.strict in
    let x = inner_point cell s (opposite_of q) h a.index a.index_below a.strict in
    let qx = behind_opposite_above q x.0 x.3 in
    let u = value q x.0 in
    let v = neg_ℤ (value q y.0) in (
      combine u y.0 v x.0,
      in_combine cell u y.0 v x.0 qx (neg_least (value q y.0) y.3) y.1 (in_closed cell x.0 x.1),
      value_combine s.plane u y.0 v x.0 ∙ both_zero u v (value s.plane y.0) (value s.plane x.0) y.2 x.2,
      value_combine q u y.0 v x.0 ∙ at_crossing (value q y.0) (value q x.0),
    )

-- from it away from a corner of t behind m there are points of t ahead of m
not_across : (cell : List Coefficients) (s t : Outline) (m : Coefficients) → IsPolygonOfCell cell s →
    IsPolygonOfCell cell t → class_of s t.plane ≡ Across → LiesBehind t m →
    ((z : Coordinates) → value s.plane z ≡ pos 0 → value m z ≡ pos 0) → ⊥
not_across cell s t m hs ht e b on =
    let both = lies_across s t.plane e in
    let z = on_both_planes cell s t.plane hs both.0 both.1 in
    let u = corner t b.some.index in
    let k = often cell (negsuc 0) u in
    let x = combine (pos (suc k)) z.0 (negsuc 0) u in
    let inside = in_near cell k z.0 (negsuc 0) u (omega arith) z.1 in
    let on_t : value t.plane x ≡ pos 0 = value_combine t.plane (pos (suc k)) z.0 (negsuc 0) u ∙
    both_zero (pos (suc k)) (negsuc 0) (value t.plane z.0) (value t.plane u) z.3
    (corner_on t b.some.index) in
    let ahead : pos 0 <ℤ value m x = subst (λ (v : ℤ). pos 0 <ℤ v)
    (sym (value_combine m (pos (suc k)) z.0 (negsuc 0) u))
    (second_above (pos (suc k)) (negsuc 0) (value m z.0) (value m u) (on z.0 z.2)
    (neg_neg (negsuc 0) (value m u) (omega (arith, sums)) b.some.strict)) in
    not_both (value m x) ahead (none_ahead cell t m ht b x (in_closed cell x inside) on_t)

-- ---- the ways that are left
pub one_way : (cell : List Coefficients) (s t : Outline) → IsPolygonOfCell cell s → IsPolygonOfCell cell t →
    t.plane ≢ s.plane → t.plane ≢ opposite_of s.plane →
    (x y : Class) → class_of s t.plane ≡ x → class_of t s.plane ≡ y → is_way x y ≡ true
one_way cell s t hs ht ne other Across Across ex ey = refl
one_way cell s t hs ht ne other Behind Behind ex ey = refl
one_way cell s t hs ht ne other Behind Ahead ex ey = refl
one_way cell s t hs ht ne other Ahead Behind ex ey = refl
one_way cell s t hs ht ne other Ahead Ahead ex ey = refl
one_way cell s t hs ht ne other Across Behind ex ey =
    absurd (not_across cell s t s.plane hs ht ex (lies_behind t s.plane ey) (λ z e. e))
one_way cell s t hs ht ne other Across Ahead ex ey = absurd (not_across cell s t (opposite_of s.plane) hs ht
    ex (lies_ahead t s.plane ey) (λ z e. opposite_zero s.plane z e))
one_way cell s t hs ht ne other Behind Across ex ey =
    absurd (not_across cell t s t.plane ht hs ey (lies_behind s t.plane ex) (λ z e. e))
one_way cell s t hs ht ne other Ahead Across ex ey = absurd (not_across cell t s (opposite_of t.plane) ht hs
    ey (lies_ahead s t.plane ex) (λ z e. opposite_zero t.plane z e))
one_way cell s t hs ht ne other On y ex ey = absurd (not_on cell s t hs ht ne other ex)
one_way cell s t hs ht ne other Across On ex ey = absurd (not_on cell t s ht hs (λ e. ne (sym e))
    (λ e. other (opposite_other s.plane t.plane e)) ey)
one_way cell s t hs ht ne other Behind On ex ey = absurd (not_on cell t s ht hs (λ e. ne (sym e))
    (λ e. other (opposite_other s.plane t.plane e)) ey)
one_way cell s t hs ht ne other Ahead On ex ey = absurd (not_on cell t s ht hs (λ e. ne (sym e))
    (λ e. other (opposite_other s.plane t.plane e)) ey)

-- by the tests of the definition
pub way_of : (cell : List Coefficients) (s t : Outline) → IsPolygonOfCell cell s → IsPolygonOfCell cell t →
    is_same t.plane s.plane ≡ false → is_same t.plane (opposite_of s.plane) ≡ false →
    is_way (class_of s t.plane) (class_of t s.plane) ≡ true
way_of cell s t hs ht e o = one_way cell s t hs ht (not_same t.plane s.plane e)
    (not_same t.plane (opposite_of s.plane) o) (class_of s t.plane) (class_of t s.plane) refl refl
