-- Parts of edges, told by the point half way along them.
use Rattle.std.proofs.Common.{◌≡◌, ◌≢◌, ◌⊎◌, inl, inr, ℕ, ℤ, pos, ◌+ℤ◌, ◌-ℤ◌, ◌*ℤ◌, ◌<ℤ◌, ◌≤ℤ◌, neg_ℤ, List, [], ◌∷◌, flat_map, Bool, true, false, ◌&&◌, ◌||◌, not, refl, sym, ap, ap₂, ◌∙◌, subst, arith, count_by, All}
use Rattle.std.specs.List.{list_any}
use Rattle.std.proofs.lemmas.Bool.{and_parts, and_from, or_left, or_right, or_cases, true≢false}
use Rattle.plane_predicate.specs.Space.{Coordinates}
use Rattle.plane_predicate.proofs.lemmas.IntegerRing.{sums, mul_comm_ℤ}
use Rattle.plane_predicate.proofs.lemmas.Polynomials.{Poly, var, plus, times, minus, ring}
use Rattle.plane_predicate.proofs.lemmas.Signs.{signs, pos_pos}
use Rattle.closed_surface.specs.Ways.{Direction, displacement, dot_product, cross_product, is_same_point_of_space, is_same_direction, is_opposite_direction}
use Rattle.closed_surface.specs.Closed.{Edge, count_of_edges_along, count_of_edges_against, edges_of, runs_through, is_corner}
use Rattle.closed_surface.proofs.lemmas.Numbers.{same_tests, false_by}
use Rattle.closed_surface.proofs.lemmas.Parallels.{IsZero, dot_above, same_place_is, opposite_way_is, opposite_way_parts}
use Rattle.closed_surface.proofs.lemmas.Each.{Each, each_weaker, each_both}
use Rattle.watertight.specs.Everywhere.{AreClosedAtEveryPoint}
use Rattle.watertight.specs.Pieces.{lies_from_start, lies_before_end, runs_along, has_no_corner_within, count_of_edges_over}
use Rattle.watertight.proofs.Lists.{HaveBoth, edges_have, none_has, all_corners, each_face, both_faces, same_count, none_count}
use Rattle.watertight.proofs.Ways.{Along, NotAgainst, along_parts, along_is, length_above, weaker, between_ways, along_itself, along_back, IsSum, way_by, sum_dot, sum_zero, first_zero, second_zero, before_before, most_before, before_most, back, way_back, against_back, back_dot, back_cross, back_zero, along_both_back, flip_dot, flip_zero, same_place_way, zero_not_against, no_part_no_length, times_along}

-- the point half way between two points
abbrev half_way : Coordinates → Coordinates → Coordinates
half_way p q = record {
  x = p.w *ℤ q.x +ℤ q.w *ℤ p.x;
  y = p.w *ℤ q.y +ℤ q.w *ℤ p.y;
  z = p.w *ℤ q.z +ℤ q.w *ℤ p.z;
  w = p.w *ℤ q.w +ℤ p.w *ℤ q.w;
}

half_weight : (p q : Coordinates) → pos 0 <ℤ p.w → pos 0 <ℤ q.w → pos 0 <ℤ (half_way p q).w
half_weight p q wp wq = let h = pos_pos p.w q.w wp wq in omega (arith, sums, h)

first_half : (pw qw p q : ℤ) → pw *ℤ (pw *ℤ q +ℤ qw *ℤ p) -ℤ (pw *ℤ qw +ℤ pw *ℤ qw) *ℤ p ≡ pw *ℤ (pw *ℤ q -ℤ qw *ℤ p)
first_half pw qw p q =
    let PW = var 0 in let QW = var 1 in let P = var 2 in let Q = var 3 in
    ring (pw ∷ qw ∷ p ∷ q ∷ []) (minus (times PW (plus (times PW Q) (times QW P))) (times (plus (times PW QW) (times PW QW)) P))
    (times PW (minus (times PW Q) (times QW P))) refl

second_half : (pw qw p q : ℤ) → (pw *ℤ qw +ℤ pw *ℤ qw) *ℤ q -ℤ qw *ℤ (pw *ℤ q +ℤ qw *ℤ p) ≡ qw *ℤ (pw *ℤ q -ℤ qw *ℤ p)
second_half pw qw p q =
    let PW = var 0 in let QW = var 1 in let P = var 2 in let Q = var 3 in
    ring (pw ∷ qw ∷ p ∷ q ∷ []) (minus (times (plus (times PW QW) (times PW QW)) Q) (times QW (plus (times PW Q) (times QW P))))
    (times QW (minus (times PW Q) (times QW P))) refl

half_ahead : (p q : Coordinates) → pos 0 <ℤ p.w → pos 0 <ℤ dot_product (displacement p q) (displacement p q) → Along (displacement p q) (displacement p (half_way p q))
half_ahead p q wp d = times_along p.w (displacement p q) (displacement p (half_way p q)) wp d (first_half p.w q.w p.x q.x) (first_half p.w q.w p.y q.y) (first_half p.w q.w p.z q.z)

half_behind : (p q : Coordinates) → pos 0 <ℤ q.w → pos 0 <ℤ dot_product (displacement p q) (displacement p q) → Along (displacement p q) (displacement (half_way p q) q)
half_behind p q wq d = times_along q.w (displacement p q) (displacement (half_way p q) q) wq d (second_half p.w q.w p.x q.x) (second_half p.w q.w p.y q.y) (second_half p.w q.w p.z q.z)

exchange : (a b : ℤ) → a +ℤ b ≡ b +ℤ a
exchange a b = omega (arith, sums)

half_back : (p q : Coordinates) → half_way p q ≡ half_way q p
half_back p q = λ i. record {
  x = exchange (p.w *ℤ q.x) (q.w *ℤ p.x) i;
  y = exchange (p.w *ℤ q.y) (q.w *ℤ p.y) i;
  z = exchange (p.w *ℤ q.z) (q.w *ℤ p.z) i;
  w = mul_comm_ℤ p.w q.w i +ℤ mul_comm_ℤ p.w q.w i;
}

-- a corner: its weight is above 0, and it isn't strictly between p and q
abbrev IsOutside : Coordinates → Coordinates → Coordinates → Type 0
IsOutside p q x = (pos 0 <ℤ x.w) × (runs_through (p, q) x ≡ false)

zero_way_back : (p q : Coordinates) → IsZero (displacement p q) → IsZero (displacement q p)
zero_way_back p q z = record { x = omega (arith, sums, z.x); y = omega (arith, sums, z.y); z = omega (arith, sums, z.z) }

not_both : (b : Bool) → b ≡ true → b ≡ false → ⊥
not_both b t f = true≢false (sym t ∙ f)

module _ (p q : Coordinates) (wp : pos 0 <ℤ p.w) (wq : pos 0 <ℤ q.w) where
  between : (x : Coordinates) → Along (displacement p q) (displacement p x) → Along (displacement p q) (displacement x q) → runs_through (p, q) x ≡ true
  between x h k = along_is (displacement p x) (displacement x q) (between_ways (displacement p q) (displacement p x) (displacement x q) h k)

  -- who is before the half way point and not between is at p or before it
  reaches_back : pos 0 <ℤ dot_product (displacement p q) (displacement p q) → (x : Coordinates) → IsOutside p q x → Along (displacement p q) (displacement x (half_way p q)) → NotAgainst (displacement p q) (displacement x p)
  reaches_back d x o h =
      let v = displacement p q in let m = half_way p q in let wm = half_weight p q wp wq in
      let z : IsZero (cross_product v (displacement x p)) = first_zero p.w m.w x.w v (displacement x m) (displacement x p) (displacement p m) (way_by x p m) wm h.zero (half_ahead p q wp d).zero in
      elim (signs (dot_product v (displacement x p))) [
        | inl below ↦ absurd (not_both _
            (between x (against_back v x p z below) (before_before v x m q o.0 wm wq h (half_behind p q wq d))) o.1)
        | inr (inl zero) ↦ record { zero = z; least = omega (arith, sums, zero) }
        | inr (inr above) ↦ record { zero = z; least = omega (arith, sums, above) }
      ]

  reaches_on : pos 0 <ℤ dot_product (displacement p q) (displacement p q) → (x : Coordinates) → IsOutside p q x → Along (displacement p q) (displacement (half_way p q) x) → NotAgainst (displacement p q) (displacement q x)
  reaches_on d x o h =
      let v = displacement p q in let m = half_way p q in let wm = half_weight p q wp wq in
      let z : IsZero (cross_product v (displacement q x)) = second_zero q.w x.w m.w v (displacement m x) (displacement m q) (displacement q x) (way_by m q x) wm h.zero (half_behind p q wq d).zero in
      elim (signs (dot_product v (displacement q x))) [
        | inl below ↦ absurd (not_both _
            (between x (before_before v p m x wp wm o.0 (half_ahead p q wp d) h) (against_back v q x z below)) o.1)
        | inr (inl zero) ↦ record { zero = z; least = omega (arith, sums, zero) }
        | inr (inr above) ↦ record { zero = z; least = omega (arith, sums, above) }
      ]

  -- ---- what a part along an edge says of the half way point, and back
  forward : (e : Edge) → HaveBoth (IsOutside p q) e → runs_along (p, q) e ≡ true →
      (runs_through e (half_way p q) && is_same_direction (displacement e.0 e.1) (displacement p q)) ≡ true
  forward e o h =
      let v = displacement p q in let m = half_way p q in let wm = half_weight p q wp wq in
      let a = and_parts (lies_from_start e p) (lies_before_end e q && is_same_direction v (displacement e.0 e.1)) h in
      let b = and_parts (lies_before_end e q) (is_same_direction v (displacement e.0 e.1)) a.1 in
      let g = along_parts v (displacement e.0 e.1) b.1 in
      let d = length_above v (displacement e.0 e.1) g in
      let start : NotAgainst v (displacement e.0 p) = elim (or_cases (is_same_point_of_space e.0 p) (is_same_direction (displacement e.0 p) (displacement e.0 e.1)) a.0) [
        | inl same ↦ zero_not_against v (displacement e.0 p) (same_place_way e.0 p same)
        | inr runs ↦ weaker v (displacement e.0 p) (between_ways (displacement e.0 e.1) v (displacement e.0 p) (along_back v (displacement e.0 e.1) g) (along_back (displacement e.0 p) (displacement e.0 e.1) (along_parts _ _ runs)))
      ] in
      let end : NotAgainst v (displacement q e.1) = elim (or_cases (is_same_point_of_space q e.1) (is_same_direction (displacement q e.1) (displacement e.0 e.1)) b.0) [
        | inl same ↦ zero_not_against v (displacement q e.1) (same_place_way q e.1 same)
        | inr runs ↦ weaker v (displacement q e.1) (between_ways (displacement e.0 e.1) v (displacement q e.1) (along_back v (displacement e.0 e.1) g) (along_back (displacement q e.1) (displacement e.0 e.1) (along_parts _ _ runs)))
      ] in
      let first = most_before v e.0 p m o.0.0 wp wm start (half_ahead p q wp d) in
      let second = before_most v m q e.1 wm wq o.1.0 (half_behind p q wq d) end in
      and_from _ _ (along_is _ _ (between_ways v (displacement e.0 m) (displacement m e.1) first second)) (along_is _ _ (along_back v (displacement e.0 e.1) g))

  backward : (e : Edge) → HaveBoth (IsOutside p q) e →
      (runs_through e (half_way p q) && is_same_direction (displacement e.0 e.1) (displacement p q)) ≡ true → runs_along (p, q) e ≡ true
  backward e o h =
      let v = displacement p q in let m = half_way p q in let wm = half_weight p q wp wq in
      let a = and_parts (runs_through e m) (is_same_direction (displacement e.0 e.1) v) h in
      let g = along_back (displacement e.0 e.1) v (along_parts (displacement e.0 e.1) v a.1) in
      let d = length_above v (displacement e.0 e.1) g in
      let u = displacement e.0 m in let w = displacement m e.1 in
      let r = along_parts u w a.0 in
      let ug : Along u (displacement e.0 e.1) = before_before u e.0 m e.1 o.0.0 wm o.1.0 (along_itself u (length_above u w r)) r in
      let first : Along v u = between_ways (displacement e.0 e.1) v u (along_back v (displacement e.0 e.1) g) (along_back u (displacement e.0 e.1) ug) in
      let second : Along v w = between_ways u v w (along_back v u first) r in
      let start = reaches_back d e.0 o.0 first in
      let end = reaches_on d e.1 o.1 second in
      and_from _ _
      (elim (signs (dot_product v (displacement e.0 p))) [
        | inl below ↦ absurd (omega (arith, sums, below, start.least))
        | inr (inl zero) ↦ or_left _ _ (same_place_is e.0 p (no_part_no_length v (displacement e.0 p) d start.zero zero))
        | inr (inr above) ↦ or_right _ _ (along_is _ _ (between_ways v (displacement e.0 p) (displacement e.0 e.1) (record { zero = start.zero; above = above }) g))
      ])
      (and_from _ _
      (elim (signs (dot_product v (displacement q e.1))) [
        | inl below ↦ absurd (omega (arith, sums, below, end.least))
        | inr (inl zero) ↦ or_left _ _ (same_place_is q e.1 (no_part_no_length v (displacement q e.1) d end.zero zero))
        | inr (inr above) ↦ or_right _ _ (along_is _ _ (between_ways v (displacement q e.1) (displacement e.0 e.1) (record { zero = end.zero; above = above }) g))
      ])
      (along_is v (displacement e.0 e.1) g))

  part_by_half : (e : Edge) → HaveBoth (IsOutside p q) e →
      runs_along (p, q) e ≡ (runs_through e (half_way p q) && is_same_direction (displacement e.0 e.1) (displacement p q))
  part_by_half e o = same_tests _ _ (forward e o) (backward e o)

  -- a corner at the half way point is strictly between
  no_corner_half : pos 0 <ℤ dot_product (displacement p q) (displacement p q) → (corners : List Coordinates) → Each (IsOutside p q) corners →
      list_any (λ x. is_same_point_of_space x (half_way p q)) corners ≡ true → ⊥
  no_corner_half d [] o h = true≢false (sym h)
  no_corner_half d (x ∷ corners) o h =
      let v = displacement p q in let m = half_way p q in let wm = half_weight p q wp wq in
      elim (or_cases (is_same_point_of_space x m) (list_any (λ x. is_same_point_of_space x m) corners) h) [
        | inl same ↦ (let z = same_place_way x m same in
            let on = zero_not_against v (displacement x m) z in
            not_both _ (between x
            (before_most v p m x wp wm o.0.0 (half_ahead p q wp d) (zero_not_against v (displacement m x) (zero_way_back x m z)))
            (most_before v x m q o.0.0 wm wq on (half_behind p q wq d)))
            o.0.1)
        | inr later ↦ no_corner_half d corners o.1 later
      ]

-- ---- all edges
each_of_all : (P : Edge → Type 0) → ((e : Edge) → P e) → (edges : List Edge) → Each P edges
each_of_all P h [] = tt
each_of_all P h (e ∷ edges) = (h e, each_of_all P h edges)

outside_back : (p q x : Coordinates) → IsOutside p q x → IsOutside q p x
outside_back p q x o = (
  o.0,
  false_by _ (λ h. not_both _
      (along_is (displacement p x) (displacement x q) (along_both_back (displacement p x) (displacement x q)
      (subst (λ (u : Direction). Along u (back (displacement p x))) (way_back q x) (subst (Along (displacement q x)) (way_back x p) (along_parts (displacement q x) (displacement x p) h)))))
      o.1),
)

against_way : (u v : Direction) → is_same_direction u (back v) ≡ is_opposite_direction u v
against_way u v = same_tests _ _
    (λ h. (let k = along_parts u (back v) h in opposite_way_is u v (back_cross u v k.zero) (omega (arith, sums, k.above, back_dot u v))))
    (λ h. (let k = opposite_way_parts u v h in along_is u (back v) (record { zero = back_zero u v k.0; above = omega (arith, sums, k.1, back_dot u v) })))

run_back : (e : Edge) (p q : Coordinates) →
    (runs_through e (half_way q p) && is_same_direction (displacement e.0 e.1) (displacement q p)) ≡ (runs_through e (half_way p q) && is_opposite_direction (displacement e.0 e.1) (displacement p q))
run_back e p q =
    ap₂ (λ (m : Coordinates) (v : Direction). runs_through e m && is_same_direction (displacement e.0 e.1) v) (half_back q p) (way_back q p)
    ∙ ap (λ (b : Bool). runs_through e (half_way p q) && b) (against_way (displacement e.0 e.1) (displacement p q))

part_way : (p q : Coordinates) (e : Edge) → runs_along (p, q) e ≡ true → pos 0 <ℤ dot_product (displacement p q) (displacement p q)
part_way p q e h =
    let a = and_parts (lies_from_start e p) (lies_before_end e q && is_same_direction (displacement p q) (displacement e.0 e.1)) h in
    let b = and_parts (lies_before_end e q) (is_same_direction (displacement p q) (displacement e.0 e.1)) a.1 in
    length_above (displacement p q) (displacement e.0 e.1) (along_parts (displacement p q) (displacement e.0 e.1) b.1)

not_true : (b : Bool) → not b ≡ true → b ≡ false
not_true true h = sym h
not_true false h = refl

module _ (faces : List (List Coordinates)) (closed : AreClosedAtEveryPoint faces) (p q : Coordinates) (wp : pos 0 <ℤ p.w) (wq : pos 0 <ℤ q.w)
    (outside : Each (λ corners. Each (IsOutside p q) corners) faces) (inside : Each (λ corners. Each (IsOutside q p) corners) faces) where
  edges : List Edge
  edges = flat_map edges_of faces

  at_corner : is_corner faces (half_way p q) ≡ true → count_of_edges_over faces (p, q) ≡ count_of_edges_over faces (q, p)
  at_corner at =
      let none_on : (e : Edge) → runs_along (p, q) e ≡ false = λ e. false_by _ (λ h.
      no_corner_half p q wp wq (part_way p q e h) (flat_map (λ c. c) faces) (all_corners (IsOutside p q) faces outside) at) in
      let none_back : (e : Edge) → runs_along (q, p) e ≡ false = λ e. false_by _ (λ h.
      no_corner_half q p wq wp (part_way q p e h) (flat_map (λ c. c) faces) (all_corners (IsOutside q p) faces inside)
      (ap (is_corner faces) (half_back q p) ∙ at)) in
      none_count (runs_along (p, q)) (flat_map edges_of faces) (each_of_all _ none_on (flat_map edges_of faces))
      ∙ sym (none_count (runs_along (q, p)) (flat_map edges_of faces) (each_of_all _ none_back (flat_map edges_of faces)))

  elsewhere : is_corner faces (half_way p q) ≡ false → count_of_edges_over faces (p, q) ≡ count_of_edges_over faces (q, p)
  elsewhere free =
      same_count (runs_along (p, q)) (λ e. runs_through e (half_way p q) && is_same_direction (displacement e.0 e.1) (displacement p q)) (flat_map edges_of faces)
      (each_weaker (HaveBoth (IsOutside p q)) _ (λ e o. part_by_half p q wp wq e o) (flat_map edges_of faces) (edges_have (IsOutside p q) faces outside))
      ∙ closed (half_way p q) (displacement p q) (half_weight p q wp wq) free
      ∙ sym (same_count (runs_along (q, p)) (λ e. runs_through e (half_way p q) && is_opposite_direction (displacement e.0 e.1) (displacement p q)) (flat_map edges_of faces)
      (each_weaker (HaveBoth (IsOutside q p)) _ (λ e o. part_by_half q p wq wp e o ∙ run_back e p q) (flat_map edges_of faces) (edges_have (IsOutside q p) faces inside)))

  paired : (b : Bool) → is_corner faces (half_way p q) ≡ b → count_of_edges_over faces (p, q) ≡ count_of_edges_over faces (q, p)
  paired true at = at_corner at
  paired false free = elsewhere free

pub corners_pair : (faces : List (List Coordinates)) → Each (λ (corners : List Coordinates). Each (λ (p : Coordinates). pos 0 <ℤ p.w) corners) faces → AreClosedAtEveryPoint faces →
    (p q : Coordinates) → pos 0 <ℤ p.w → pos 0 <ℤ q.w → has_no_corner_within faces (p, q) ≡ true → count_of_edges_over faces (p, q) ≡ count_of_edges_over faces (q, p)
corners_pair faces weights closed p q wp wq elementary =
    let outside = both_faces (λ x. pos 0 <ℤ x.w) (λ x. runs_through (p, q) x ≡ false) faces weights (none_has (runs_through (p, q)) faces (not_true _ elementary)) in
    let inside = each_weaker (λ corners. Each (IsOutside p q) corners) (λ corners. Each (IsOutside q p) corners)
    (λ corners k. each_weaker (IsOutside p q) (IsOutside q p) (outside_back p q) corners k) faces outside in
    paired faces closed p q wp wq outside inside (is_corner faces (half_way p q)) refl

pub parts_pair : (faces : List (List Coordinates)) → All (λ (corners : List Coordinates). All (λ (p : Coordinates). pos 0 <ℤ p.w) corners) faces → AreClosedAtEveryPoint faces →
    (p q : Coordinates) → pos 0 <ℤ p.w → pos 0 <ℤ q.w → has_no_corner_within faces (p, q) ≡ true → count_of_edges_over faces (p, q) ≡ count_of_edges_over faces (q, p)
parts_pair faces weights closed = corners_pair faces (each_face (λ x. pos 0 <ℤ x.w) faces weights) closed
