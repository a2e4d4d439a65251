-- The crossings of a polygon's sides with a face are the crossings of the face's edges with the polygon, and so closed faces
-- have a winding number.
use Rattle.std.proofs.Common.{◌≡◌, ◌≢◌, ◌⊎◌, inl, inr, ℕ, zero, suc, ◌+◌, ◌<◌, ◌≤◌, Bool, true, false, cond, ◌&&◌, List, [], ◌∷◌, ◌++◌, length, map, flat_map, refl, sym, ap, ap₂, ◌∙◌, subst, arith, int_lt, All, ℤ, pos, ◌+ℤ◌, ◌-ℤ◌, ◌*ℤ◌, ◌<ℤ◌, ◌≤ℤ◌}
use Rattle.std.specs.Bool.{Decides}
use Rattle.std.specs.List.{AllByRecursion}
use Rattle.std.specs.Ordering.{int_eq}
use Rattle.std.proofs.lemmas.Bool.{true≢false}
use Rattle.std.proofs.lemmas.Bool.Decides.{Decides-and, Decides-int_eq}
use Rattle.std.proofs.lemmas.List.{map-append}
use Rattle.std.proofs.lemmas.List.Elements.{recursion_from_All}
use Rattle.plane_predicate.specs.Space.{Coefficients, Coordinates, inner_product, orientation_seen_from, value, has_same_numbers}
use Rattle.plane_predicate.proofs.lemmas.IntegerRing.{sums}
use Rattle.plane_predicate.proofs.lemmas.Polynomials.{var, num, times, minus, ring}
use Rattle.plane_predicate.proofs.lemmas.SamePlanes.{directed_above}
use Rattle.plane_predicate.proofs.lemmas.Signs.{signs, neg_pos, pos_neg, pos_pos, zero_cancel}
use Rattle.primitives.specs.DirectedEdges.{next_in_face}
use Rattle.closed_faces.specs.Crossings.{crossing_with_face, crossings_with_faces, edge_of_face, edges_of_face, goes_ahead, is_left_of_all, is_same_segment, meeting_point, passage, reversed_segment, count_of_corners, vertex, volume, HavePairedEdges, Segment, Face, IsConvexFace, IsCutByPlane, ArePolygonsInGeneralPosition}
use Rattle.plane_predicate.specs.Sums.{sum_over}
use Rattle.closed_faces.proofs.Coplanar.{turn_meeting, value_meeting, volume_back, volume_pairs}
use Rattle.closed_faces.proofs.lemmas.Edges.{after_in}
use Rattle.closed_faces.proofs.Inside.{above_decides, ahead_decides, below_decides, lean, sum_none, IsSpot}
use Rattle.closed_faces.proofs.lemmas.Sums.{cancelled_total, same_below, same_bool, sum_below, sum_of_differences, sum_of_sums, total_append, total_flat}
use Rattle.closed_faces.proofs.Windings.{downs, one, ups, winding}
use Rattle.plane_predicate.specs.Indices.{indices_below}

-- ---- one side and one edge
-- 1 where the way from a to b goes ahead of n, that from p to q goes ahead of m, and they pass each other on the one side
abbrev mark : Coefficients → Coefficients → Coordinates → Coordinates → Coordinates → Coordinates → ℤ
mark n m a b p q = one (goes_ahead n a b && (goes_ahead m p q && int_lt (volume a b p q) (pos 0)))

swapped_test : (a b c d : Bool) → c ≡ d → one (a && (b && c)) ≡ one (b && (a && d))
swapped_test true true c d e = ap one e
swapped_test true false c d e = refl
swapped_test false true c d e = refl
swapped_test false false c d e = refl

mark_swapped : (n m : Coefficients) (a b p q : Coordinates) → mark n m a b p q ≡ mark m n p q a b
mark_swapped n m a b p q = swapped_test (goes_ahead n a b) (goes_ahead m p q) (int_lt (volume a b p q) (pos 0)) (int_lt (volume p q a b) (pos 0)) (ap (λ (v : ℤ). int_lt v (pos 0)) (sym (volume_pairs a b p q)))

-- a way whose ends are on a plane m that holds no corner of a face, and off the face's plane
record IsWayOn (f : Face) (m : Coefficients) (a b : Coordinates) : Type 0 where
  convex : IsConvexFace f
  off : (j : ℕ) → j < count_of_corners f → value m (vertex f j) ≢ pos 0
  first_weight : pos 0 <ℤ a.w
  second_weight : pos 0 <ℤ b.w
  first_on : value m a ≡ pos 0
  second_on : value m b ≡ pos 0
  apart : (j : ℕ) → j < count_of_corners f → goes_ahead f.plane a b ≡ true → IsCutByPlane m (edge_of_face f j) → volume a b (vertex f j) (vertex f (next_in_face j (count_of_corners f))) ≢ pos 0

weight_of : (u v s t : ℤ) → v <ℤ pos 0 → pos 0 <ℤ u → pos 0 <ℤ s → pos 0 <ℤ t → pos 0 <ℤ (u *ℤ s -ℤ v *ℤ t)
weight_of u v s t hv hu hs ht = omega (arith, sums, pos_pos u s hu hs, neg_pos v t hv ht)

no_difference : (u v : ℤ) → u *ℤ v -ℤ v *ℤ u ≡ pos 0
no_difference u v = ring (u ∷ v ∷ []) (minus (times (var 0) (var 1)) (times (var 1) (var 0))) (num (pos 0)) refl

both_none : (u v s t : ℤ) → s ≡ pos 0 → t ≡ pos 0 → u *ℤ s -ℤ v *ℤ t ≡ pos 0
both_none u v s t e f = ap₂ (λ (x y : ℤ). u *ℤ x -ℤ v *ℤ y) e f ∙ ring (u ∷ v ∷ []) (minus (times (var 0) (num (pos 0))) (times (var 1) (num (pos 0)))) (num (pos 0)) refl

no_lean : (k v l : ℤ) → l ≡ pos 0 -ℤ k *ℤ v → pos 0 <ℤ k → l ≡ pos 0 → v ≡ pos 0
no_lean k v l e hk none = zero_cancel k v hk (omega (arith, sums, e, none))

spot : (f : Face) (m : Coefficients) (a b : Coordinates) → IsWayOn f m a b → goes_ahead f.plane a b ≡ true → IsSpot f m (meeting_point f.plane a b)
spot f m a b w ahead =
    let n = f.plane in
    let both = (ahead_decides n a b).0 ahead in
    record {
      convex = w.convex;
      off = w.off;
      weight = weight_of (value n b) (value n a) a.w b.w both.0 both.1 w.first_weight w.second_weight;
      on = value_meeting n n a b ∙ no_difference (value n b) (value n a);
      level = value_meeting m n a b ∙ both_none (value n b) (value n a) (value m a) (value m b) w.first_on w.second_on;
      apart = λ j lt cut none. w.apart j lt ahead cut
          (no_lean (inner_product n n) (volume a b (vertex f j) (vertex f (next_in_face j (count_of_corners f)))) (lean f (meeting_point n a b) j)
          (turn_meeting n a b (vertex f j) (vertex f (next_in_face j (count_of_corners f))) (w.convex.on j lt) (w.convex.on (next_in_face j (count_of_corners f)) (after_in j (count_of_corners f) lt))) (directed_above n w.convex.directed) none);
    }

-- the sign of a orientation_seen_from is the opposite of the determinant's
turned_below : (k v l : ℤ) → l ≡ pos 0 -ℤ k *ℤ v → pos 0 <ℤ k → pos 0 <ℤ l → v <ℤ pos 0
turned_below k v l e hk hl = elim (signs v) [
  | inl below ↦ below
  | inr other ↦ elim other [
    | inl none ↦ absurd (omega (arith, sums, e, hl, ap (λ (z : ℤ). k *ℤ z) none, ring (k ∷ []) (times (var 0) (num (pos 0))) (num (pos 0)) refl))
    | inr above ↦ absurd (omega (arith, sums, e, hl, pos_pos k v hk above))
  ]
]

below_turned : (k v l : ℤ) → l ≡ pos 0 -ℤ k *ℤ v → pos 0 <ℤ k → v <ℤ pos 0 → pos 0 <ℤ l
below_turned k v l e hk hv = omega (arith, sums, e, pos_neg k v hk hv)

minus_both : (k v l w : ℤ) → l ≡ pos 0 -ℤ k *ℤ v → w ≡ pos 0 -ℤ v → pos 0 -ℤ l ≡ pos 0 -ℤ k *ℤ w
minus_both k v l w e f = omega (arith, sums, e, ap (λ (z : ℤ). k *ℤ z) f, ring (k ∷ v ∷ []) (times (var 0) (minus (num (pos 0)) (var 1))) (minus (num (pos 0)) (times (var 0) (var 1))) refl)

below_by_minus : (l : ℤ) → pos 0 <ℤ (pos 0 -ℤ l) → l <ℤ pos 0
below_by_minus l h = omega (arith, sums, h)

minus_by_below : (l : ℤ) → l <ℤ pos 0 → pos 0 <ℤ (pos 0 -ℤ l)
minus_by_below l h = omega (arith, sums, h)

test_left : (k v l : ℤ) → l ≡ pos 0 -ℤ k *ℤ v → pos 0 <ℤ k → int_lt (pos 0) l ≡ int_lt v (pos 0)
test_left k v l e hk = same_bool (int_lt (pos 0) l) (int_lt v (pos 0)) (λ h. (below_decides v).1 (turned_below k v l e hk ((above_decides l).0 h))) (λ h. (above_decides l).1 (below_turned k v l e hk ((below_decides v).0 h)))

test_right : (k v l w : ℤ) → l ≡ pos 0 -ℤ k *ℤ v → w ≡ pos 0 -ℤ v → pos 0 <ℤ k → int_lt l (pos 0) ≡ int_lt w (pos 0)
test_right k v l w e f hk =
    same_bool (int_lt l (pos 0)) (int_lt w (pos 0)) (λ h. (below_decides w).1 (turned_below k w (pos 0 -ℤ l) (minus_both k v l w e f) hk (minus_by_below l ((below_decides l).0 h))))
    (λ h. (below_decides l).1 (below_by_minus l (below_turned k w (pos 0 -ℤ l) (minus_both k v l w e f) hk ((below_decides w).0 h))))

-- what a way through a face's plane has to do with one edge
abbrev share : Face → Coefficients → Coordinates → Coordinates → ℕ → ℤ
share f m a b j = mark f.plane m a b (vertex f j) (vertex f (next_in_face j (count_of_corners f))) -ℤ mark f.plane m a b (vertex f (next_in_face j (count_of_corners f))) (vertex f j)

first_test : (a c : Bool) → a ≡ true → one (a && c) ≡ one c
first_test true c e = refl
first_test false c e = absurd (true≢false (sym e))

no_test : (a c : Bool) → a ≡ false → one (a && c) ≡ pos 0
no_test true c e = absurd (true≢false e)
no_test false c e = refl

second_test : (a b c d : Bool) → a ≡ true → c ≡ d → one (b && c) ≡ one (a && (b && d))
second_test true b c d e f = ap (λ (z : Bool). one (b && z)) f
second_test false b c d e f = absurd (true≢false (sym e))

zero_less_zero : (a b : ℤ) → a ≡ pos 0 → b ≡ pos 0 → a -ℤ b ≡ pos 0
zero_less_zero a b e f = omega (arith, sums, e, f)

passage_by : (f : Face) (m : Coefficients) (a b : Coordinates) → IsWayOn f m a b → (t : Bool) → goes_ahead f.plane a b ≡ t → passage f a b ≡ sum_below (share f m a b) (count_of_corners f)
passage_by f m a b w false e =
    no_test (goes_ahead f.plane a b) (is_left_of_all f (meeting_point f.plane a b)) e
    ∙ sym (sum_none (share f m a b) (count_of_corners f) (λ j lt. zero_less_zero (mark f.plane m a b (vertex f j) (vertex f (next_in_face j (count_of_corners f)))) (mark f.plane m a b (vertex f (next_in_face j (count_of_corners f))) (vertex f j)) (no_test (goes_ahead f.plane a b) _ e) (no_test (goes_ahead f.plane a b) _ e)))
passage_by f m a b w true e =
    let n = f.plane in
    let x = meeting_point n a b in
    let k = directed_above n w.convex.directed in
    let tilt : (j : ℕ) → j < count_of_corners f → lean f x j ≡ pos 0 -ℤ inner_product n n *ℤ volume a b (vertex f j) (vertex f (next_in_face j (count_of_corners f))) = λ j lt.
    turn_meeting n a b (vertex f j) (vertex f (next_in_face j (count_of_corners f))) (w.convex.on j lt) (w.convex.on (next_in_face j (count_of_corners f)) (after_in j (count_of_corners f) lt)) in
    let same : (j : ℕ) → j < count_of_corners f → ups f m x j -ℤ downs f m x j ≡ share f m a b j = λ j lt.
    (let p = vertex f j in let q = vertex f (next_in_face j (count_of_corners f)) in
    ap₂ (λ (u v : ℤ). u -ℤ v)
    (second_test (goes_ahead n a b) (goes_ahead m p q) (int_lt (pos 0) (lean f x j)) (int_lt (volume a b p q) (pos 0)) e (test_left (inner_product n n) (volume a b p q) (lean f x j) (tilt j lt) k))
    (second_test (goes_ahead n a b) (goes_ahead m q p) (int_lt (lean f x j) (pos 0)) (int_lt (volume a b q p) (pos 0)) e (test_right (inner_product n n) (volume a b p q) (lean f x j) (volume a b q p) (tilt j lt) (volume_back a b p q) k))) in
    first_test (goes_ahead n a b) (is_left_of_all f x) e ∙ winding f m x (spot f m a b w e) ∙ same_below (λ j. ups f m x j -ℤ downs f m x j) (share f m a b) (count_of_corners f) same

-- ---- one polygon and one face
way_on : (t f : Face) → IsConvexFace t → IsConvexFace f → ArePolygonsInGeneralPosition t f → (i : ℕ) → i < count_of_corners t → IsWayOn f t.plane (vertex t i) (vertex t (next_in_face i (count_of_corners t)))
way_on t f ct cf g i lt = record {
  convex = cf;
  off = g.edges_off;
  first_weight = ct.weights i lt;
  second_weight = ct.weights (next_in_face i (count_of_corners t)) (after_in i (count_of_corners t) lt);
  first_on = ct.on i lt;
  second_on = ct.on (next_in_face i (count_of_corners t)) (after_in i (count_of_corners t) lt);
  apart = λ j lj ahead cut. g.apart i j lt lj (inl ahead) cut;
}

volume_first_back : (a b p q : Coordinates) → volume b a p q ≡ pos 0 -ℤ volume a b p q
volume_first_back a b p q = sym (volume_pairs b a p q) ∙ volume_back p q a b ∙ ap (λ (v : ℤ). pos 0 -ℤ v) (volume_pairs a b p q)

zero_by_minus : (v w : ℤ) → w ≡ pos 0 -ℤ v → w ≡ pos 0 → v ≡ pos 0
zero_by_minus v w e f = omega (arith, sums, e, f)

way_back_on : (t f : Face) → IsConvexFace t → IsConvexFace f → ArePolygonsInGeneralPosition t f → (i : ℕ) → i < count_of_corners t → IsWayOn f t.plane (vertex t (next_in_face i (count_of_corners t))) (vertex t i)
way_back_on t f ct cf g i lt =
    let a = vertex t i in let b = vertex t (next_in_face i (count_of_corners t)) in
    record {
      convex = cf;
      off = g.edges_off;
      first_weight = ct.weights (next_in_face i (count_of_corners t)) (after_in i (count_of_corners t) lt);
      second_weight = ct.weights i lt;
      first_on = ct.on (next_in_face i (count_of_corners t)) (after_in i (count_of_corners t) lt);
      second_on = ct.on i lt;
      apart = λ j lj ahead cut none. g.apart i j lt lj (inr ahead) cut (zero_by_minus (volume a b (vertex f j) (vertex f (next_in_face j (count_of_corners f)))) (volume b a (vertex f j) (vertex f (next_in_face j (count_of_corners f)))) (volume_first_back a b (vertex f j) (vertex f (next_in_face j (count_of_corners f)))) none);
    }

-- the number for side i of a polygon and edge j of a face
abbrev meets : Face → Face → ℕ → ℕ → ℤ
meets t f i j = share f t.plane (vertex t i) (vertex t (next_in_face i (count_of_corners t))) j -ℤ share f t.plane (vertex t (next_in_face i (count_of_corners t))) (vertex t i) j

side_crossing : (t f : Face) → IsConvexFace t → IsConvexFace f → ArePolygonsInGeneralPosition t f → (i : ℕ) → i < count_of_corners t → crossing_with_face f (vertex t i) (vertex t (next_in_face i (count_of_corners t))) ≡ sum_below (meets t f i) (count_of_corners f)
side_crossing t f ct cf g i lt =
    let a = vertex t i in let b = vertex t (next_in_face i (count_of_corners t)) in
    ap₂ (λ (u v : ℤ). u -ℤ v) (passage_by f t.plane a b (way_on t f ct cf g i lt) (goes_ahead f.plane a b) refl) (passage_by f t.plane b a (way_back_on t f ct cf g i lt) (goes_ahead f.plane b a) refl)
    ∙ sym (sum_of_differences (share f t.plane a b) (share f t.plane b a) (count_of_corners f))

exchanged : (t f : Face) → ArePolygonsInGeneralPosition t f → ArePolygonsInGeneralPosition f t
exchanged t f g = record {
  sides_off = g.edges_off;
  edges_off = g.sides_off;
  apart = λ j i lj li cut also none. g.apart i j li lj also cut (sym (volume_pairs (vertex t i) (vertex t (next_in_face i (count_of_corners t))) (vertex f j) (vertex f (next_in_face j (count_of_corners f)))) ∙ none);
}

four_parts : (a b c d e f g h : ℤ) → a ≡ e → b ≡ f → c ≡ g → d ≡ h → (a -ℤ b) -ℤ (c -ℤ d) ≡ (e -ℤ g) -ℤ (f -ℤ h)
four_parts a b c d e f g h p q r s = omega (arith, sums, p, q, r, s)

meets_exchanged : (t f : Face) (i j : ℕ) → meets t f i j ≡ meets f t j i
meets_exchanged t f i j =
    let n = f.plane in let m = t.plane in
    let a = vertex t i in let b = vertex t (next_in_face i (count_of_corners t)) in let p = vertex f j in let q = vertex f (next_in_face j (count_of_corners f)) in
    four_parts (mark n m a b p q) (mark n m a b q p) (mark n m b a p q) (mark n m b a q p) (mark m n p q a b) (mark m n q p a b) (mark m n p q b a) (mark m n q p b a)
    (mark_swapped n m a b p q) (mark_swapped n m a b q p) (mark_swapped n m b a p q) (mark_swapped n m b a q p)

sum_exchanged : (k : ℕ → ℕ → ℤ) (n l : ℕ) → sum_below (λ i. sum_below (k i) l) n ≡ sum_below (λ j. sum_below (λ i. k i j) n) l
sum_exchanged k zero l = sym (sum_none (λ j. pos 0) l (λ j lt. refl))
sum_exchanged k (suc n) l = ap (λ (z : ℤ). z +ℤ sum_below (k n) l) (sum_exchanged k n l) ∙ sym (sum_of_sums (λ j. sum_below (λ i. k i j) n) (k n) l)

-- ---- sums over edges
plus_nothing : (x : ℤ) → x +ℤ pos 0 ≡ x
plus_nothing x = omega (arith, sums)

edges_total : (f : Face) (g : Segment → ℤ) (n : ℕ) → sum_over g (map (edge_of_face f) (indices_below n)) ≡ sum_below (λ k. g (edge_of_face f k)) n
edges_total f g zero = refl
edges_total f g (suc n) =
    ap (sum_over g) (map-append (edge_of_face f) (indices_below n) (n ∷ [])) ∙ total_append g (map (edge_of_face f) (indices_below n)) (edge_of_face f n ∷ [])
    ∙ ap₂ (λ (a b : ℤ). a +ℤ b) (edges_total f g n) (plus_nothing (g (edge_of_face f n)))

-- the crossings of a polygon's sides with a face are those of the face's edges with the polygon
one_face : (t f : Face) → IsConvexFace t → IsConvexFace f → ArePolygonsInGeneralPosition t f → sum_over (λ e. crossing_with_face f e.from e.to) (edges_of_face t) ≡ sum_over (λ e. crossing_with_face t e.from e.to) (edges_of_face f)
one_face t f ct cf g =
    edges_total t (λ e. crossing_with_face f e.from e.to) (count_of_corners t)
    ∙ same_below _ _ (count_of_corners t) (side_crossing t f ct cf g)
    ∙ sum_exchanged (meets t f) (count_of_corners t) (count_of_corners f)
    ∙ same_below _ _ (count_of_corners f) (λ j lt. same_below _ _ (count_of_corners t) (λ i li. meets_exchanged t f i j) ∙ sym (side_crossing f t cf ct (exchanged t f g) j lt))
    ∙ sym (edges_total f (λ e. crossing_with_face t e.from e.to) (count_of_corners f))

-- ---- all faces
no_totals : {A : Type 0} (xs : List A) → sum_over (λ (x : A). pos 0) xs ≡ pos 0
no_totals [] = refl
no_totals (x ∷ xs) = ap (λ (z : ℤ). pos 0 +ℤ z) (no_totals xs)

four_sums : (a b c d s : ℤ) → s ≡ c +ℤ d → (a +ℤ b) +ℤ s ≡ (a +ℤ c) +ℤ (b +ℤ d)
four_sums a b c d s e = omega (arith, sums, e)

total_sum : {A : Type 0} (f g : A → ℤ) (xs : List A) → sum_over (λ x. f x +ℤ g x) xs ≡ sum_over f xs +ℤ sum_over g xs
total_sum f g [] = refl
total_sum f g (x ∷ xs) = four_sums (f x) (g x) (sum_over f xs) (sum_over g xs) (sum_over (λ y. f y +ℤ g y) xs) (total_sum f g xs)

by_faces : (es : List Segment) (faces : List Face) → sum_over (crossings_with_faces faces) es ≡ sum_over (λ f. sum_over (λ e. crossing_with_face f e.from e.to) es) faces
by_faces es [] = no_totals es
by_faces es (f ∷ faces) = total_sum (λ e. crossing_with_face f e.from e.to) (crossings_with_faces faces) es ∙ ap (λ (z : ℤ). sum_over (λ e. crossing_with_face f e.from e.to) es +ℤ z) (by_faces es faces)

each_face : (t : Face) (faces : List Face) → IsConvexFace t → AllByRecursion IsConvexFace faces → AllByRecursion (ArePolygonsInGeneralPosition t) faces → sum_over (λ f. sum_over (λ e. crossing_with_face f e.from e.to) (edges_of_face t)) faces ≡ sum_over (λ f. sum_over (λ e. crossing_with_face t e.from e.to) (edges_of_face f)) faces
each_face t [] ct cs gs = refl
each_face t (f ∷ faces) ct cs gs = ap₂ (λ (a b : ℤ). a +ℤ b) (one_face t f ct cs.0 gs.0) (each_face t faces ct cs.1 gs.1)

point_decides : (p q : Coordinates) → Decides (has_same_numbers p q) (p ≡ q)
point_decides p q =
    let d = Decides-and (int_eq p.x q.x) (int_eq p.y q.y && (int_eq p.z q.z && int_eq p.w q.w)) (Decides-int_eq p.x q.x)
    (Decides-and (int_eq p.y q.y) (int_eq p.z q.z && int_eq p.w q.w) (Decides-int_eq p.y q.y) (Decides-and (int_eq p.z q.z) (int_eq p.w q.w) (Decides-int_eq p.z q.z) (Decides-int_eq p.w q.w))) in (
      λ h. (let e = d.0 h in λ i. record { x = e.0 i; y = e.1.0 i; z = e.1.1.0 i; w = e.1.1.1 i }),
      λ e. d.1 (ap (λ (r : Coordinates). r.x) e, (ap (λ (r : Coordinates). r.y) e, (ap (λ (r : Coordinates). r.z) e, ap (λ (r : Coordinates). r.w) e))),
    )

pub edge_decides : (e g : Segment) → Decides (is_same_segment e g) (e ≡ g)
edge_decides e g =
    let d = Decides-and (has_same_numbers e.from g.from) (has_same_numbers e.to g.to) (point_decides e.from g.from) (point_decides e.to g.to) in
    (λ h. (let both = d.0 h in λ i. record { from = both.0 i; to = both.1 i }), λ s. d.1 (ap (λ (r : Segment). r.from) s, ap (λ (r : Segment). r.to) s))

turned_difference : (a b : ℤ) → b -ℤ a ≡ pos 0 -ℤ (a -ℤ b)
turned_difference a b = omega (arith, sums)

pub winding_number : (faces : List Face) (t : Face) → All IsConvexFace faces → HavePairedEdges faces → IsConvexFace t → All (ArePolygonsInGeneralPosition t) faces → sum_over (crossings_with_faces faces) (edges_of_face t) ≡ pos 0
winding_number faces t convex closed ct general =
    by_faces (edges_of_face t) faces
    ∙ each_face t faces ct (recursion_from_All IsConvexFace faces convex) (recursion_from_All (ArePolygonsInGeneralPosition t) faces general)
    ∙ sym (total_flat (λ e. crossing_with_face t e.from e.to) edges_of_face faces)
    ∙ cancelled_total is_same_segment edge_decides reversed_segment (λ e. refl) (λ e. crossing_with_face t e.from e.to) (λ e. turned_difference (passage t e.from e.to) (passage t e.to e.from)) (flat_map edges_of_face faces) closed
