-- A polygon and the two halves of its plane at a line: its edges that run along the line, less those that run the opposite way,
-- are what it covers on the left less what it covers on the right.
use Rattle.std.proofs.Common.{◌≡◌, ◌≢◌, ◌⊎◌, inl, inr, ℕ, zero, suc, ◌<◌, Bool, true, false, ◌&&◌, List, [], ◌∷◌, length, get_or, refl, sym, ap₂, ◌∙◌, subst, arith, ℤ, pos, ◌-ℤ◌, neg_ℤ, ◌<ℤ◌, int_lt}
use Rattle.std.specs.List.{list_all}
use Rattle.std.specs.Ordering.{int_eq}
use Rattle.std.proofs.lemmas.Bool.{and_parts, and_from}
use Rattle.std.proofs.lemmas.Bool.Decides.{Decides-int_eq}
use Rattle.plane_predicate.specs.Space.{Coefficients, Coordinates, value, opposite_of}
use Rattle.plane_predicate.proofs.lemmas.IntegerRing.{sums}
use Rattle.plane_predicate.proofs.lemmas.Signs.{signs}
use Rattle.plane_polygon.specs.Polygons.{Outline, edge_plane, edge_count, corner, missing_plane, IsPolygon, IsStrictlyWithin}
use Rattle.plane_polygon.specs.Parts.{corners}
use Rattle.plane_polygon.proofs.lemmas.Hull.{after_below}
use Rattle.plane_polygon.proofs.lemmas.Faces.{earlier, after_injective}
use Rattle.closed_surface.specs.Ways.{Direction, displacement, dot_product, is_same_direction, is_opposite_direction}
use Rattle.closed_surface.specs.Around.{triple_product_of}
use Rattle.closed_surface.specs.Closed.{edges_of, runs_through, count_of_edges_along, count_of_edges_against}
use Rattle.closed_surface.proofs.Turns.{turn_exchanged, turn_itself, turn_opposite}
use Rattle.closed_surface.proofs.lemmas.Numbers.{below, below_back, false_by, not_zero_below, not_zero_above, not_both, negative_zero, negative_below, negative_above}
use Rattle.closed_surface.proofs.lemmas.EdgeLines.{none_held_first, none_held_second, turn_apart}
use Rattle.closed_surface.specs.Edges.{edge_of_outline, IsOnEdge, HoldDirection}
use Rattle.closed_surface.specs.Near.{near_point, direction_beside, BoundsSlopes, IsClear, is_strictly_within, indicator}
use Rattle.closed_surface.proofs.Edges.{side, on_line_strictly, runs_along, along_runs, runs_against, against_runs, same_or_not}
use Rattle.closed_surface.proofs.lemmas.Counting.{count_to, count_edges, count_none, count_one}
use Rattle.closed_surface.proofs.lemmas.Near.{near_on, near_behind, near_ahead, zero_near, slope_beside}
use Rattle.plane_predicate.specs.Indices.{index_after}

-- ---- what the test of a covered point says
all_behind : (es : List Coefficients) (p : Coordinates) → ((j : ℕ) → j < length es → value (get_or es j missing_plane) p <ℤ pos 0) → list_all (λ e. int_lt (value e p) (pos 0)) es ≡ true
all_behind [] p h = refl
all_behind (e ∷ es) p h = and_from _ _ (below _ _ (h 0 (omega arith))) (all_behind es p (λ j l. h (suc j) (omega arith)))

each_behind : (es : List Coefficients) (p : Coordinates) → list_all (λ e. int_lt (value e p) (pos 0)) es ≡ true → (j : ℕ) → j < length es → value (get_or es j missing_plane) p <ℤ pos 0
each_behind [] p h j l = absurd (omega arith)
each_behind (e ∷ es) p h zero l = below_back _ _ (and_parts (int_lt (value e p) (pos 0)) (list_all (λ x. int_lt (value x p) (pos 0)) es) h).0
each_behind (e ∷ es) p h (suc j) l = each_behind es p (and_parts (int_lt (value e p) (pos 0)) (list_all (λ x. int_lt (value x p) (pos 0)) es) h).1 j (omega arith)

pub within_is : (s : Outline) (p : Coordinates) → IsStrictlyWithin s p → is_strictly_within s p ≡ true
within_is s p h = and_from _ _ ((Decides-int_eq (value s.plane p) (pos 0)).1 h.on) (all_behind s.edges p h.behind)

pub is_within_parts : (s : Outline) (p : Coordinates) → is_strictly_within s p ≡ true → IsStrictlyWithin s p
is_within_parts s p h =
    let w = and_parts (int_eq (value s.plane p) (pos 0)) (list_all (λ e. int_lt (value e p) (pos 0)) s.edges) h in
    record { on = (Decides-int_eq (value s.plane p) (pos 0)).0 w.0; behind = each_behind s.edges p w.1 }

-- ---- an index at which a number is above 0, or 0
last_step : (P : ℕ → Type 0) (k l : ℕ) → l < suc k → ((n : ℕ) → n < k → P n) → P k → P l
last_step P k l m h x = elim (same_or_not l k) [ inl e ↦ subst P (sym e) x | inr a ↦ h l (omega arith) ]

pub scan_ahead : (f : ℕ → ℤ) (k : ℕ) → ((l : ℕ) × (l < k) × (pos 0 <ℤ f l)) ⊎ ((l : ℕ) → l < k → (f l <ℤ pos 0) ⊎ (f l ≡ pos 0))
scan_ahead f zero = inr (λ l m. absurd (omega arith))
scan_ahead f (suc k) = elim (scan_ahead f k) [
  | inl w ↦ inl (w.0, omega (arith, w.1), w.2)
  | inr h ↦ elim (signs (f k)) [
    | inl x ↦ inr (λ l m. last_step (λ n. (f n <ℤ pos 0) ⊎ (f n ≡ pos 0)) k l m h (inl x))
    | inr (inl x) ↦ inr (λ l m. last_step (λ n. (f n <ℤ pos 0) ⊎ (f n ≡ pos 0)) k l m h (inr x))
    | inr (inr x) ↦ inl (k, omega arith, x)
  ]
]

pub scan_zero : (f : ℕ → ℤ) (k : ℕ) → ((l : ℕ) → l < k → (f l <ℤ pos 0) ⊎ (f l ≡ pos 0)) → ((l : ℕ) × (l < k) × (f l ≡ pos 0)) ⊎ ((l : ℕ) → l < k → f l <ℤ pos 0)
scan_zero f zero h = inr (λ l m. absurd (omega arith))
scan_zero f (suc k) h = elim (scan_zero f k (λ l m. h l (omega arith))) [
  | inl w ↦ inl (w.0, omega (arith, w.1), w.2)
  | inr g ↦ elim (h k (omega arith)) [
    | inl x ↦ inr (λ l m. last_step (λ n. f n <ℤ pos 0) k l m g x)
    | inr x ↦ inl (k, omega arith, x)
  ]
]

-- ---- one polygon
module _ (s : Outline) (h : IsPolygon s) (number : ℕ) (q : Coordinates) (hw : pos 0 <ℤ q.w) (v : Direction) (hv : pos 0 <ℤ dot_product v v) (clear : IsClear s q v)
    (left_often : BoundsSlopes number s (direction_beside s.plane v)) (right_often : BoundsSlopes number s (direction_beside (opposite_of s.plane) v)) where
  abbrev left_point : Coordinates
  left_point = near_point number q (direction_beside s.plane v)

  abbrev right_point : Coordinates
  right_point = near_point number q (direction_beside (opposite_of s.plane) v)

  abbrev along_test : ℕ → Bool
  along_test i = runs_through (edge_of_outline s i) q && is_same_direction (displacement (edge_of_outline s i).0 (edge_of_outline s i).1) v

  abbrev against_test : ℕ → Bool
  against_test i = runs_through (edge_of_outline s i) q && is_opposite_direction (displacement (edge_of_outline s i).0 (edge_of_outline s i).1) v

  some : 0 < edge_count s
  some = omega (arith, h.three)

  along_count : count_of_edges_along (edges_of (corners s)) q v ≡ count_to along_test (edge_count s)
  along_count = count_edges (λ e. runs_through e q && is_same_direction (displacement e.0 e.1) v) (corner s) (edge_count s) some

  against_count : count_of_edges_against (edges_of (corners s)) q v ≡ count_to against_test (edge_count s)
  against_count = count_edges (λ e. runs_through e q && is_opposite_direction (displacement e.0 e.1) v) (corner s) (edge_count s) some

  -- what is to be shown
  abbrev Balance : Type 0
  Balance = pos (count_of_edges_along (edges_of (corners s)) q v) -ℤ pos (count_of_edges_against (edges_of (corners s)) q v) ≡ indicator (is_strictly_within s left_point) -ℤ indicator (is_strictly_within s right_point)

  balance_by : (a b : ℕ) (x y : Bool) → count_to along_test (edge_count s) ≡ a → count_to against_test (edge_count s) ≡ b → is_strictly_within s left_point ≡ x → is_strictly_within s right_point ≡ y →
      pos a -ℤ pos b ≡ indicator x -ℤ indicator y → Balance
  balance_by a b x y ha hb hx hy e =
      ap₂ (λ (m n : ℕ). pos m -ℤ pos n) (along_count ∙ ha) (against_count ∙ hb) ∙ e ∙ sym (ap₂ (λ (c d : Bool). indicator c -ℤ indicator d) hx hy)

  no_edge : ((i : ℕ) → i < edge_count s → IsOnEdge s (index_after (edge_count s) i) q → ⊥) → (count_to along_test (edge_count s) ≡ 0) × (count_to against_test (edge_count s) ≡ 0)
  no_edge none = (
    count_none along_test (edge_count s) (λ i l. false_by (along_test i) (λ e. none i l (runs_along s h i l q hw v e).point)),
    count_none against_test (edge_count s) (λ i l. false_by (against_test i) (λ e. none i l (runs_against s h i l q hw v e).point)),
  )

  -- off the plane
  off_plane : value s.plane q ≢ pos 0 → Balance
  off_plane off =
      let n = no_edge (λ i l p. off p.on) in
      balance_by 0 0 false false n.0 n.1
      (false_by _ (λ e. off (zero_near s.plane number q (direction_beside s.plane v) left_often.plane (is_within_parts s left_point e).on)))
      (false_by _ (λ e. off (zero_near s.plane number q (direction_beside (opposite_of s.plane) v) right_often.plane (is_within_parts s right_point e).on))) refl

  -- ahead of an edge
  ahead_of_edge : (l : ℕ) → l < edge_count s → pos 0 <ℤ value (edge_plane s l) q → Balance
  ahead_of_edge l m x =
      let n = no_edge (λ i o p. elim (same_or_not l (index_after (edge_count s) i)) [
        | inl e ↦ not_zero_above _ x (subst (λ (j : ℕ). value (edge_plane s j) q ≡ pos 0) (sym e) p.edge_on)
        | inr a ↦ not_both _ x (p.behind l m a)
      ]) in
      balance_by 0 0 false false n.0 n.1
      (false_by _ (λ e. not_both _ (near_ahead (edge_plane s l) number q (direction_beside s.plane v) (left_often.edges l m) x) ((is_within_parts s left_point e).behind l m)))
      (false_by _ (λ e. not_both _ (near_ahead (edge_plane s l) number q (direction_beside (opposite_of s.plane) v) (right_often.edges l m) x) ((is_within_parts s right_point e).behind l m))) refl

  -- the plane goes on to both sides
  left_on : value s.plane q ≡ pos 0 → value s.plane left_point ≡ pos 0
  left_on on = near_on s.plane number q (direction_beside s.plane v) on ∙ slope_beside s.plane s.plane v ∙ turn_itself v s.plane

  right_on : value s.plane q ≡ pos 0 → value s.plane right_point ≡ pos 0
  right_on on =
      near_on s.plane number q (direction_beside (opposite_of s.plane) v) on ∙ slope_beside s.plane (opposite_of s.plane) v
      ∙ negative_zero _ _ (turn_opposite v s.plane s.plane) (turn_itself v s.plane)

  -- strictly within
  strictly_within : value s.plane q ≡ pos 0 → ((l : ℕ) → l < edge_count s → value (edge_plane s l) q <ℤ pos 0) → Balance
  strictly_within on all =
      let n = no_edge (λ i l p. not_zero_below _ (all (index_after (edge_count s) i) (after_below (edge_count s) i l)) p.edge_on) in
      balance_by 0 0 true true n.0 n.1
      (within_is s left_point (record { on = left_on on; behind = λ l m. near_behind (edge_plane s l) number q (direction_beside s.plane v) (left_often.edges l m) (all l m) }))
      (within_is s right_point (record { on = right_on on; behind = λ l m. near_behind (edge_plane s l) number q (direction_beside (opposite_of s.plane) v) (right_often.edges l m) (all l m) })) refl

  -- ---- on an edge
  -- the edge's plane to the left and to the right
  left_value : (j : ℕ) → value (edge_plane s j) q ≡ pos 0 → value (edge_plane s j) left_point ≡ neg_ℤ (triple_product_of v s.plane (edge_plane s j))
  left_value j e = near_on (edge_plane s j) number q (direction_beside s.plane v) e ∙ slope_beside (edge_plane s j) s.plane v ∙ turn_exchanged v s.plane (edge_plane s j)

  twice_negative : (x y z : ℤ) → x ≡ neg_ℤ y → y ≡ neg_ℤ z → x ≡ z
  twice_negative x y z h k = omega (arith, sums)

  right_value : (j : ℕ) → value (edge_plane s j) q ≡ pos 0 → value (edge_plane s j) right_point ≡ triple_product_of v s.plane (edge_plane s j)
  right_value j e =
      near_on (edge_plane s j) number q (direction_beside (opposite_of s.plane) v) e ∙ slope_beside (edge_plane s j) (opposite_of s.plane) v
      ∙ twice_negative _ _ _ (turn_opposite v (edge_plane s j) s.plane) (turn_exchanged v s.plane (edge_plane s j))

  -- all edges but j stay behind
  others_behind : (j : ℕ) (u : Direction) → BoundsSlopes number s u → IsOnEdge s j q → value (edge_plane s j) (near_point number q u) <ℤ pos 0 → (l : ℕ) → l < edge_count s → value (edge_plane s l) (near_point number q u) <ℤ pos 0
  others_behind j u often p mine l m = elim (same_or_not l j) [
    | inl e ↦ subst (λ (n : ℕ). value (edge_plane s n) (near_point number q u) <ℤ pos 0) (sym e) mine
    | inr a ↦ near_behind (edge_plane s l) number q u (often.edges l m) (p.behind l m a)
  ]

  -- the point is on no edge but that of number j
  one_edge : (i i' : ℕ) → i < edge_count s → i' < edge_count s → IsOnEdge s (index_after (edge_count s) i) q → IsOnEdge s (index_after (edge_count s) i') q → i' ≡ i
  one_edge i i' l l' p p' = elim (same_or_not (index_after (edge_count s) i') (index_after (edge_count s) i)) [
    | inl e ↦ after_injective (edge_count s) i' i l' l e
    | inr a ↦ absurd (not_zero_below _ (p.behind (index_after (edge_count s) i') (after_below (edge_count s) i' l') a) p'.edge_on)
  ]

  held : (j : ℕ) → j < edge_count s → IsOnEdge s j q → HoldDirection s j v
  held j l p = record { plane = clear.plane p.on; edge_plane = clear.edges j l p.edge_on }

  left_edge : (i : ℕ) → i < edge_count s → IsOnEdge s (index_after (edge_count s) i) q → pos 0 <ℤ triple_product_of v s.plane (edge_plane s (index_after (edge_count s) i)) → Balance
  left_edge i l p t =
      let k : ℕ = edge_count s in let j : ℕ = index_after k i in
      let lj : j < k = after_below k i l in
      balance_by 1 0 true false
      (count_one along_test k i l (along_runs s h i l q hw v (record { point = p; held = held j lj p; left = t }))
      (λ i' l' o. false_by (along_test i') (λ e. o (one_edge i i' l l' p (runs_along s h i' l' q hw v e).point))))
      (count_none against_test k (λ i' l'. false_by (against_test i') (λ e. (let r = runs_against s h i' l' q hw v e in
      not_both _ t (subst (λ (n : ℕ). triple_product_of v s.plane (edge_plane s (index_after k n)) <ℤ pos 0) (one_edge i i' l l' p r.point) r.right)))))
      (within_is s left_point (record { on = left_on p.on; behind = others_behind j (direction_beside s.plane v) left_often p (negative_below _ _ (left_value j p.edge_on) t) }))
      (false_by _ (λ e. not_both _ (subst (λ (x : ℤ). pos 0 <ℤ x) (sym (right_value j p.edge_on)) t) ((is_within_parts s right_point e).behind j lj))) refl

  right_edge : (i : ℕ) → i < edge_count s → IsOnEdge s (index_after (edge_count s) i) q → triple_product_of v s.plane (edge_plane s (index_after (edge_count s) i)) <ℤ pos 0 → Balance
  right_edge i l p t =
      let k : ℕ = edge_count s in let j : ℕ = index_after k i in
      let lj : j < k = after_below k i l in
      balance_by 0 1 false true
      (count_none along_test k (λ i' l'. false_by (along_test i') (λ e. (let r = runs_along s h i' l' q hw v e in
      not_both _ (subst (λ (n : ℕ). pos 0 <ℤ triple_product_of v s.plane (edge_plane s (index_after k n))) (one_edge i i' l l' p r.point) r.left) t))))
      (count_one against_test k i l (against_runs s h i l q hw v (record { point = p; held = held j lj p; right = t }))
      (λ i' l' o. false_by (against_test i') (λ e. o (one_edge i i' l l' p (runs_against s h i' l' q hw v e).point))))
      (false_by _ (λ e. not_both _ (negative_above _ _ (left_value j p.edge_on) t) ((is_within_parts s left_point e).behind j lj)))
      (within_is s right_point (record { on = right_on p.on; behind = others_behind j (direction_beside (opposite_of s.plane) v) right_often p (subst (λ (x : ℤ). x <ℤ pos 0) (sym (right_value j p.edge_on)) t) })) refl

  -- no edge's plane but the one goes through the point
  first_strict : (i : ℕ) → i < edge_count s → value s.plane q ≡ pos 0 → value (edge_plane s (index_after (edge_count s) i)) q ≡ pos 0 → (value (edge_plane s i) q <ℤ pos 0) ⊎ (value (edge_plane s i) q ≡ pos 0) → value (edge_plane s i) q <ℤ pos 0
  first_strict i l on e (inl x) = x
  first_strict i l on e (inr x) =
      let k : ℕ = edge_count s in let j : ℕ = index_after k i in
      absurd (not_zero_above _ hv (none_held_first s.plane (edge_plane s i) (edge_plane s j) (edge_plane s (index_after k j)) (side s h i l) v (clear.plane on) (clear.edges i l x) (clear.edges j (after_below k i l) e)))

  second_strict : (i : ℕ) → i < edge_count s → value s.plane q ≡ pos 0 → value (edge_plane s (index_after (edge_count s) i)) q ≡ pos 0 → (value (edge_plane s (index_after (edge_count s) (index_after (edge_count s) i))) q <ℤ pos 0) ⊎ (value (edge_plane s (index_after (edge_count s) (index_after (edge_count s) i))) q ≡ pos 0) →
      value (edge_plane s (index_after (edge_count s) (index_after (edge_count s) i))) q <ℤ pos 0
  second_strict i l on e (inl x) = x
  second_strict i l on e (inr x) =
      let k : ℕ = edge_count s in let j : ℕ = index_after k i in
      let lj : j < k = after_below k i l in
      absurd (not_zero_above _ hv (none_held_second s.plane (edge_plane s i) (edge_plane s j) (edge_plane s (index_after k j)) (side s h i l) v (clear.plane on) (clear.edges j lj e) (clear.edges (index_after k j) (after_below k j lj) x)))

  on_edge : value s.plane q ≡ pos 0 → ((l : ℕ) → l < edge_count s → (value (edge_plane s l) q <ℤ pos 0) ⊎ (value (edge_plane s l) q ≡ pos 0)) → (j : ℕ) → j < edge_count s → value (edge_plane s j) q ≡ pos 0 → Balance
  on_edge on all j lj e =
      let k : ℕ = edge_count s in
      let w = earlier k j lj in
      let i : ℕ = w.0 in let l : i < k = w.1 in
      let e' : value (edge_plane s (index_after k i)) q ≡ pos 0 = subst (λ (n : ℕ). value (edge_plane s n) q ≡ pos 0) (sym w.2) e in
      let m : ℕ = index_after k (index_after k i) in
      let lm : m < k = after_below k (index_after k i) (after_below k i l) in
      let p = on_line_strictly s h i l q hw on e' (first_strict i l on e' (all i l)) (second_strict i l on e' (all m lm)) in
      elim (signs (triple_product_of v s.plane (edge_plane s (index_after k i)))) [
        | inl t ↦ right_edge i l p t
        | inr (inl t) ↦ absurd (turn_apart s.plane (edge_plane s i) (edge_plane s (index_after k i)) (edge_plane s m) (side s h i l) v hv (record { plane = clear.plane on; edge = clear.edges (index_after k i) (after_below k i l) e' }) t)
        | inr (inr t) ↦ left_edge i l p t
      ]

  on_plane : value s.plane q ≡ pos 0 → Balance
  on_plane on = elim (scan_ahead (λ l. value (edge_plane s l) q) (edge_count s)) [
    | inl w ↦ ahead_of_edge w.0 w.1 w.2
    | inr all ↦ elim (scan_zero (λ l. value (edge_plane s l) q) (edge_count s) all) [
      | inl w ↦ on_edge on all w.0 w.1 w.2
      | inr behind ↦ strictly_within on behind
    ]
  ]

  pub balance : Balance
  balance = elim (signs (value s.plane q)) [
    | inl x ↦ off_plane (λ e. not_zero_below _ x e)
    | inr (inl x) ↦ on_plane x
    | inr (inr x) ↦ off_plane (λ e. not_zero_above _ x e)
  ]
