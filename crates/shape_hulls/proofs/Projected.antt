-- A face that goes round clockwise, in the central projection from a point behind it: its turns sum to a number above 0.
use Rattle.std.proofs.Common.{◌≡◌, inl, inr, ℕ, ◌+◌, ◌<◌, List, [], ◌∷◌, length, get_or, refl, sym, ap, ap₂, ◌∙◌, subst, arith, ℤ, pos, ◌+ℤ◌, ◌-ℤ◌, ◌*ℤ◌, ◌<ℤ◌, ◌≤ℤ◌, unsigned_abs, All}
use Rattle.plane_predicate.specs.Space.{Coefficients, Coordinates, inner_product, point_at, plane_of_points, value, AreCollinear}
use Rattle.plane_predicate.proofs.lemmas.IntegerRing.{sums}
use Rattle.plane_predicate.proofs.lemmas.Polynomials.{var, num, plus, times, minus, ring}
use Rattle.plane_predicate.proofs.lemmas.Signs.{least_cancel, least_least, pos_pos, zero_cancel}
use Rattle.plane_predicate.proofs.lemmas.Vectors.{form, innerP, of_plane}
use Rattle.primitives.specs.declared.ways.DirectedEdge.{DirectedEdge}
use Rattle.primitives.specs.Shapes.{mesh_point, value_at_point, HasTriangle}
use Rattle.primitives.specs.DirectedEdges.{next_in_face, edges_of_mesh_face, HasNoneLeft, IsClockwise}
use Rattle.primitives.proofs.lemmas.Moves.{throughP, whole, wholeP}
use Rattle.primitives.proofs.lemmas.OnePlane.{not_zero_below, off_the_plane, GoesThrough}
use Rattle.plane_predicate.specs.Sums.{sum_over}
use Rattle.closed_faces.proofs.lemmas.Edges.{after_in, at_place, each_way, next_to, round_again, round_total, same_round, way}
use Rattle.shape_hulls.proofs.Seen.{clockwise_side, depth, scaled_triangle, swing, swing_back, triangle_seen}
use Rattle.shape_hulls.proofs.Shares.{IsScaled}
use Rattle.closed_faces.proofs.lemmas.Sums.{least_below, same_below, sum_below, sum_of_sums, zero_below}

-- the turn from one point to another once both are moved along their rays
abbrev pub spin : (List ℤ → ℤ) → Coefficients → Coordinates → List ℤ → List ℤ → ℤ
spin s m q u v = s u *ℤ s v *ℤ swing m q (point_at u) (point_at v)

swapped_product : (a b x y : ℤ) → x ≡ pos 0 -ℤ y → b *ℤ a *ℤ x ≡ pos 0 -ℤ a *ℤ b *ℤ y
swapped_product a b x y e = ap (λ (z : ℤ). b *ℤ a *ℤ z) e ∙ ring (a ∷ b ∷ y ∷ []) (times (times (var 1) (var 0)) (minus (num (pos 0)) (var 2))) (minus (num (pos 0)) (times (times (var 0) (var 1)) (var 2))) refl

pub spin_back : (s : List ℤ → ℤ) (m : Coefficients) (q : Coordinates) (u v : List ℤ) → spin s m q v u ≡ pos 0 -ℤ spin s m q u v
spin_back s m q u v = swapped_product (s u) (s v) (swing m q (point_at v) (point_at u)) (swing m q (point_at u) (point_at v)) (swing_back m q (point_at u) (point_at v))

no_half : (t : ℤ) → t ≡ pos 0 -ℤ t → t ≡ pos 0
no_half t e = omega (arith, sums, e)

pub spin_none : (s : List ℤ → ℤ) (m : Coefficients) (q : Coordinates) (u : List ℤ) → spin s m q u u ≡ pos 0
spin_none s m q u = no_half (spin s m q u u) (spin_back s m q u u)

-- ---- triangles
abbrev three : (List ℤ → ℤ) → Coefficients → Coordinates → List ℤ → List ℤ → List ℤ → ℤ
three s m q u v x = spin s m q u v +ℤ (spin s m q v x +ℤ spin s m q x u)

-- a point that is seen from q, ahead of the plane through q, and moved to one depth
abbrev pub IsSeen : Coefficients → Coordinates → (List ℤ → ℤ) → ℤ → List ℤ → Type 0
IsSeen m q s k p = IsScaled (λ r. depth m q (point_at r)) s k p

three_is : (s : List ℤ → ℤ) (m : Coefficients) (q : Coordinates) (k : ℤ) (u v x : List ℤ) → IsSeen m q s k u → IsSeen m q s k v → IsSeen m q s k x →
    k *ℤ three s m q u v x ≡ (s u *ℤ s v *ℤ s x) *ℤ (inner_product m m *ℤ ((q.w *ℤ q.w) *ℤ value (plane_of_points (point_at u) (point_at v) (point_at x)) q))
three_is s m q k u v x hu hv hx =
    scaled_triangle k (s u) (s v) (s x) (depth m q (point_at u)) (depth m q (point_at v)) (depth m q (point_at x)) (swing m q (point_at u) (point_at v)) (swing m q (point_at v) (point_at x)) (swing m q (point_at x) (point_at u)) hu.level hv.level hx.level
    ∙ ap (λ (z : ℤ). (s u *ℤ s v *ℤ s x) *ℤ z) (triangle_seen m q (get_or u 0 (pos 0)) (get_or u 1 (pos 0)) (get_or u 2 (pos 0)) (get_or v 0 (pos 0)) (get_or v 1 (pos 0)) (get_or v 2 (pos 0)) (get_or x 0 (pos 0)) (get_or x 1 (pos 0)) (get_or x 2 (pos 0)))

-- from where a face is seen: q is strictly behind its plane n and ahead of all its points by the plane m
pub record IsView (points : List (List ℤ)) (face : List ℕ) (n m : Coefficients) (q : Coordinates) (s : List ℤ → ℤ) (k : ℤ) : Type 0 where
  pub weight : pos 0 <ℤ q.w
  pub common : pos 0 <ℤ k
  pub square : pos 0 <ℤ inner_product m m
  pub seen : (i : ℕ) → i < length face → IsSeen m q s k (at_place points face i)
  pub directed : 0 < unsigned_abs n.a + unsigned_abs n.b + unsigned_abs n.c
  pub on : All (λ i. value_at_point points n i ≡ pos 0) face
  pub clockwise : IsClockwise points face n
  pub behind : value n q <ℤ pos 0

least_by : (x : ℤ) → pos 0 <ℤ x → pos 0 ≤ℤ x
least_by x h = omega (arith, sums, h)

least_product : (k t a g w v : ℤ) → k *ℤ t ≡ a *ℤ (g *ℤ (w *ℤ v)) → pos 0 <ℤ k → pos 0 <ℤ a → pos 0 <ℤ g → pos 0 <ℤ w → pos 0 ≤ℤ v → pos 0 ≤ℤ t
least_product k t a g w v e hk ha hg hw hv =
    least_cancel k t hk (subst (λ (z : ℤ). pos 0 ≤ℤ z) (sym e) (least_least a (g *ℤ (w *ℤ v)) (least_by a ha) (least_least g (w *ℤ v) (least_by g hg) (least_least w v (least_by w hw) hv))))

none_of : (k t a g w v : ℤ) → k *ℤ t ≡ a *ℤ (g *ℤ (w *ℤ v)) → pos 0 <ℤ a → pos 0 <ℤ g → pos 0 <ℤ w → t ≡ pos 0 → v ≡ pos 0
none_of k t a g w v e ha hg hw ht =
    let no : a *ℤ (g *ℤ (w *ℤ v)) ≡ pos 0 = sym e ∙ ap (λ (z : ℤ). k *ℤ z) ht ∙ ring (k ∷ []) (times (var 0) (num (pos 0))) (num (pos 0)) refl in
    zero_cancel w v hw (zero_cancel g (w *ℤ v) hg (zero_cancel a (g *ℤ (w *ℤ v)) ha no))

-- three different points are needed for a plane
no_way : (n : Coefficients) (a b c d e f : ℤ) → inner_product n (plane_of_points (whole a b c) (whole a b c) (whole d e f)) ≡ pos 0
no_way n a b c d e f = let P = wholeP 4 in let Q = wholeP 7 in ring (of_plane n (a ∷ b ∷ c ∷ d ∷ e ∷ f ∷ [])) (innerP (form 0) (throughP P P Q)) (num (pos 0)) refl

most_none : (x : ℤ) → x ≡ pos 0 → x ≤ℤ pos 0
most_none x e = omega (arith, sums, e)

-- no corner is to the left of the way from a place to the next
none_left : (points : List (List ℤ)) (face : List ℕ) (n : Coefficients) → IsClockwise points face n → (i j : ℕ) → i < length face → j < length face →
    inner_product n (plane_of_points (point_at (at_place points face i)) (point_at (next_to points face i)) (point_at (at_place points face j))) ≤ℤ pos 0
none_left points face n h i j hi hj =
    let u = at_place points face i in let v = next_to points face i in let x = at_place points face j in
    elim (each_way (HasNoneLeft points face n) points face h i hi) [
      | inl same ↦ subst (λ (r : List ℤ). inner_product n (plane_of_points (point_at u) (point_at r) (point_at x)) ≤ℤ pos 0) same
          (most_none _ (no_way n (get_or u 0 (pos 0)) (get_or u 1 (pos 0)) (get_or u 2 (pos 0)) (get_or x 0 (pos 0)) (get_or x 1 (pos 0)) (get_or x 2 (pos 0))))
      | inr none ↦ none j 0 hj
    ]

through_three : (points : List (List ℤ)) (face : List ℕ) (n : Coefficients) → All (λ (i : ℕ). value_at_point points n i ≡ pos 0) face → (i j k : ℕ) → i < length face → j < length face → k < length face →
    GoesThrough n (point_at (at_place points face i)) (point_at (at_place points face j)) (point_at (at_place points face k))
through_three points face n on i j k hi hj hk = record { first = on i 0 hi; second = on j 0 hj; third = on k 0 hk }

factors_above : (a b c : ℤ) → pos 0 <ℤ a → pos 0 <ℤ b → pos 0 <ℤ c → pos 0 <ℤ (a *ℤ b *ℤ c)
factors_above a b c ha hb hc = pos_pos (a *ℤ b) c (pos_pos a b ha hb) hc

-- the triangle of a way and a corner turns no other way than the face
least_three : (points : List (List ℤ)) (face : List ℕ) (n m : Coefficients) (q : Coordinates) (s : List ℤ → ℤ) (k : ℤ) → IsView points face n m q s k → (i j : ℕ) → i < length face → j < length face →
    pos 0 ≤ℤ three s m q (at_place points face i) (next_to points face i) (at_place points face j)
least_three points face n m q s k h i j hi hj =
    let l = next_in_face i (length face) in
    let hl = after_in i (length face) hi in
    let u = at_place points face i in let v = at_place points face l in let x = at_place points face j in
    let side = clockwise_side n (get_or u 0 (pos 0)) (get_or u 1 (pos 0)) (get_or u 2 (pos 0)) (get_or v 0 (pos 0)) (get_or v 1 (pos 0)) (get_or v 2 (pos 0)) (get_or x 0 (pos 0)) (get_or x 1 (pos 0)) (get_or x 2 (pos 0))
    (through_three points face n h.on i l j hi hl hj) h.directed (none_left points face n h.clockwise i j hi hj) q h.behind in
    least_product k (three s m q u v x) (s u *ℤ s v *ℤ s x) (inner_product m m) (q.w *ℤ q.w) (value (plane_of_points (point_at u) (point_at v) (point_at x)) q)
    (three_is s m q k u v x (h.seen i hi) (h.seen l hl) (h.seen j hj)) h.common (factors_above (s u) (s v) (s x) (h.seen i hi).above (h.seen l hl).above (h.seen j hj).above) h.square (pos_pos q.w q.w h.weight h.weight) side

-- ---- the sum round a face
abbrev pub turn_of : (List ℤ → ℤ) → Coefficients → Coordinates → DirectedEdge → ℤ
turn_of s m q w = spin s m q w.from w.to

third_parts : (x y z t : ℤ) → z ≡ pos 0 -ℤ t → x +ℤ (y +ℤ z) ≡ x +ℤ (y -ℤ t)
third_parts x y z t e = omega (arith, sums, e)

-- the sum is that of the triangles of all ways with one point
by_triangles : (points : List (List ℤ)) (face : List ℕ) (m : Coefficients) (q : Coordinates) (s : List ℤ → ℤ) (x : List ℤ) → sum_over (turn_of s m q) (edges_of_mesh_face points face) ≡ sum_below (λ i. three s m q (at_place points face i) (next_to points face i) x) (length face)
by_triangles points face m q s x =
    let g : ℕ → ℤ = λ i. spin s m q (at_place points face i) x in
    let own : ℕ → ℤ = λ i. spin s m q (at_place points face i) (next_to points face i) in
    let n = length face in
    let apart : sum_below (λ i. three s m q (at_place points face i) (next_to points face i) x) n ≡ sum_below (λ i. own i +ℤ (g (next_in_face i n) -ℤ g i)) n =
    same_below _ _ n (λ i lt. third_parts (own i) (g (next_in_face i n)) (spin s m q x (at_place points face i)) (g i) (spin_back s m q (at_place points face i) x)) in
    let none : sum_below own n +ℤ sum_below (λ i. g (next_in_face i n) -ℤ g i) n ≡ sum_below own n = ap (λ (z : ℤ). sum_below own n +ℤ z) (round_again g n) ∙ ring (sum_below own n ∷ []) (plus (var 0) (num (pos 0))) (var 0) refl in
    round_total points face (turn_of s m q) (λ p. spin_none s m q p) ∙ sym (apart ∙ sum_of_sums own (λ i. g (next_in_face i n) -ℤ g i) n ∙ none)

pub least_face : (points : List (List ℤ)) (face : List ℕ) (n m : Coefficients) (q : Coordinates) (s : List ℤ → ℤ) (k : ℤ) → IsView points face n m q s k → 0 < length face → pos 0 ≤ℤ sum_over (turn_of s m q) (edges_of_mesh_face points face)
least_face points face n m q s k h some =
    subst (λ (z : ℤ). pos 0 ≤ℤ z) (sym (by_triangles points face m q s (at_place points face 0)))
    (least_below (λ i. three s m q (at_place points face i) (next_to points face i) (at_place points face 0)) (length face) (λ i lt. least_three points face n m q s k h i 0 lt some))

handed : (uv va vb ua ub au bu : ℤ) → uv +ℤ (va +ℤ au) ≡ pos 0 → uv +ℤ (vb +ℤ bu) ≡ pos 0 → au ≡ pos 0 -ℤ ua → bu ≡ pos 0 -ℤ ub → va -ℤ vb ≡ ua -ℤ ub
handed uv va vb ua ub au bu first second e f = omega (arith, sums, first, second, e, f)

closing : (aa ab ca cb bc : ℤ) → aa ≡ pos 0 → ca -ℤ cb ≡ aa -ℤ ab → bc ≡ pos 0 -ℤ cb → ab +ℤ (bc +ℤ ca) ≡ pos 0
closing aa ab ca cb bc none same back = omega (arith, sums, none, same, back)

-- the sum is not 0: else all triangles of ways and corners were flat, and so were that of three corners that are not on one
-- line
pub face_turns : (points : List (List ℤ)) (face : List ℕ) (n m : Coefficients) (q : Coordinates) (s : List ℤ → ℤ) (k : ℤ) → IsView points face n m q s k → HasTriangle points face → sum_over (turn_of s m q) (edges_of_mesh_face points face) ≡ pos 0 → ⊥
face_turns points face n m q s k h t none =
    let P : ℕ → List ℤ = at_place points face in
    let flat : (j : ℕ) → j < length face → (i : ℕ) → i < length face → three s m q (P i) (next_to points face i) (P j) ≡ pos 0 = λ j hj.
    zero_below (λ i. three s m q (P i) (next_to points face i) (P j)) (length face) (λ i hi. least_three points face n m q s k h i j hi hj) (sym (by_triangles points face m q s (P j)) ∙ none) in
    let a = P t.first in let b = P t.second in let c = P t.third in
    let g : ℕ → ℤ = λ i. spin s m q (P i) a -ℤ spin s m q (P i) b in
    let hands : (i : ℕ) → i < length face → g (next_in_face i (length face)) ≡ g i = λ i hi.
    handed (spin s m q (P i) (next_to points face i)) (spin s m q (next_to points face i) a) (spin s m q (next_to points face i) b) (spin s m q (P i) a) (spin s m q (P i) b) (spin s m q a (P i)) (spin s m q b (P i))
    (flat t.first t.first_in i hi) (flat t.second t.second_in i hi) (spin_back s m q (P i) a) (spin_back s m q (P i) b) in
    let same : g t.third ≡ g t.first = same_round g (length face) hands t.third t.third_in ∙ sym (same_round g (length face) hands t.first t.first_in) in
    let zero_three : three s m q a b c ≡ pos 0 = closing (spin s m q a a) (spin s m q a b) (spin s m q c a) (spin s m q c b) (spin s m q b c) (spin_none s m q a) same (spin_back s m q c b) in
    let ha = h.seen t.first t.first_in in let hb = h.seen t.second t.second_in in let hc = h.seen t.third t.third_in in
    let zero_value : value (plane_of_points (point_at a) (point_at b) (point_at c)) q ≡ pos 0 =
    none_of k (three s m q a b c) (s a *ℤ s b *ℤ s c) (inner_product m m) (q.w *ℤ q.w) (value (plane_of_points (point_at a) (point_at b) (point_at c)) q) (three_is s m q k a b c ha hb hc)
    (factors_above (s a) (s b) (s c) ha.above hb.above hc.above) h.square (pos_pos q.w q.w h.weight h.weight) zero_three in
    off_the_plane n (get_or a 0 (pos 0)) (get_or a 1 (pos 0)) (get_or a 2 (pos 0)) (get_or b 0 (pos 0)) (get_or b 1 (pos 0)) (get_or b 2 (pos 0)) (get_or c 0 (pos 0)) (get_or c 1 (pos 0)) (get_or c 2 (pos 0))
    (through_three points face n h.on t.first t.second t.third t.first_in t.second_in t.third_in) t.apart q (not_zero_below (value n q) h.behind) zero_value
