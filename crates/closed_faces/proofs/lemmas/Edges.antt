-- Sums over the ways along faces: round a face, and over all faces of a closed surface.
use Rattle.std.proofs.Common.{◌≡◌, ◌⊎◌, inl, inr, ℕ, zero, suc, ◌+◌, ◌<◌, Bool, true, false, cond, ◌&&◌, List, [], ◌∷◌, ◌++◌, length, get_or, refl, sym, ap, ap₂, ◌∙◌, subst, append-nil, arith, nat_eq, ℤ, pos, ◌+ℤ◌, ◌-ℤ◌, ◌≤ℤ◌, All}
use Rattle.std.specs.Bool.{Decides}
use Rattle.std.specs.Cmp.Lexicographic.{pointwise, pointwise_decides}
use Rattle.std.specs.List.{flat_map, AllByRecursion}
use Rattle.std.specs.Ordering.{int_eq}
use Rattle.std.proofs.lemmas.Bool.{cases_lt, true≢false}
use Rattle.std.proofs.lemmas.Bool.Decides.{nat_tests, Decides-and, Decides-int_eq}
use Rattle.std.proofs.lemmas.List.{get_or-append-add, get_or_append_left, get_or_default, length-append}
use Rattle.std.proofs.lemmas.List.Concat.{flat_map-append}
use Rattle.plane_predicate.specs.Space.{point_at}
use Rattle.plane_predicate.proofs.lemmas.IntegerRing.{sums}
use Rattle.primitives.specs.declared.ways.DirectedEdge.{DirectedEdge}
use Rattle.primitives.specs.DirectedEdges.{next_in_face, all_edges, missing_edge, reversed_edge, edge_at_place, edge_between, edges_of_mesh_face, AreMetBothWays, IsMetOnce}
use Rattle.closed_faces.specs.Sums.{times_in}
use Rattle.closed_faces.proofs.lemmas.Sums.{cancelled_total, last_or_below, place, sum_below, total_append}
use Rattle.plane_predicate.specs.Indices.{indices_below}
use Rattle.plane_predicate.specs.Sums.{sum_over}

-- the way from one point to another
abbrev pub way : List ℤ → List ℤ → DirectedEdge
way p q = record { from = p; to = q }

-- the point at a place of a face
abbrev pub at_place : List (List ℤ) → List ℕ → ℕ → List ℤ
at_place points face k = get_or points (get_or face k 0) []

-- the point that follows it, round the face
abbrev pub next_to : List (List ℤ) → List ℕ → ℕ → List ℤ
next_to points face k = at_place points face (next_in_face k (length face))

pub same_point : (p q : List ℤ) → Decides (pointwise int_eq p q) (p ≡ q)
same_point = pointwise_decides Decides-int_eq

-- ---- a sum over the ways along a face is one over its places
way_total : (f : DirectedEdge → ℤ) → ((p : List ℤ) → f (way p p) ≡ pos 0) → (p q : List ℤ) (b : Bool) → Decides b (p ≡ q) → sum_over f (cond b [] (way p q ∷ [])) ≡ f (way p q)
way_total f none p q true d = sym (ap (λ (r : List ℤ). f (way p r)) (sym (d.0 refl)) ∙ none p)
way_total f none p q false d = omega (arith, sums)

flat_next : {A : Type 0} (f : ℕ → List A) (n : ℕ) → flat_map f (indices_below (suc n)) ≡ flat_map f (indices_below n) ++ f n
flat_next f n = flat_map-append f (indices_below n) (n ∷ []) ∙ ap (λ (l : List _). flat_map f (indices_below n) ++ l) (append-nil (f n))

places_total : (points : List (List ℤ)) (face : List ℕ) (f : DirectedEdge → ℤ) → ((p : List ℤ) → f (way p p) ≡ pos 0) → (n : ℕ) → sum_over f (flat_map (edge_at_place points face) (indices_below n)) ≡ sum_below (λ k. f (way (at_place points face k) (next_to points face k))) n
places_total points face f none zero = refl
places_total points face f none (suc n) =
    ap (sum_over f) (flat_next (edge_at_place points face) n) ∙ total_append f (flat_map (edge_at_place points face) (indices_below n)) (edge_at_place points face n)
    ∙ ap₂ (λ (a b : ℤ). a +ℤ b) (places_total points face f none n) (way_total f none (at_place points face n) (next_to points face n) (pointwise int_eq (at_place points face n) (next_to points face n)) (same_point (at_place points face n) (next_to points face n)))

pub round_total : (points : List (List ℤ)) (face : List ℕ) (f : DirectedEdge → ℤ) → ((p : List ℤ) → f (way p p) ≡ pos 0) → sum_over f (edges_of_mesh_face points face) ≡ sum_below (λ k. f (way (at_place points face k) (next_to points face k))) (length face)
round_total points face f none = places_total points face f none (length face)

-- ---- differences round a face sum to 0
pub after_inner : (k n : ℕ) → suc k < n → next_in_face k n ≡ suc k
after_inner k n lt = grind (arith, nat_tests)

pub after_last : (k n : ℕ) → suc k ≡ n → next_in_face k n ≡ 0
after_last k n e = grind (arith, nat_tests)

tele : (a b c s : ℤ) → s ≡ b -ℤ a → s +ℤ (c -ℤ b) ≡ c -ℤ a
tele a b c s e = omega (arith, sums, e)

none_left : (x : ℤ) → pos 0 ≡ x -ℤ x
none_left x = omega (arith, sums)

stretch : (g : ℕ → ℤ) (n m : ℕ) → m < n → sum_below (λ k. g (next_in_face k n) -ℤ g k) m ≡ g m -ℤ g 0
stretch g n zero lt = none_left (g 0)
stretch g n (suc m) lt =
    ap (λ (i : ℕ). sum_below (λ k. g (next_in_face k n) -ℤ g k) m +ℤ (g i -ℤ g m)) (after_inner m n lt)
    ∙ tele (g 0) (g m) (g (suc m)) (sum_below (λ k. g (next_in_face k n) -ℤ g k) m) (stretch g n m (omega (arith, lt)))

back_again : (a b s : ℤ) → s ≡ b -ℤ a → s +ℤ (a -ℤ b) ≡ pos 0
back_again a b s e = omega (arith, sums, e)

pub round_again : (g : ℕ → ℤ) (n : ℕ) → sum_below (λ k. g (next_in_face k n) -ℤ g k) n ≡ pos 0
round_again g zero = refl
round_again g (suc m) =
    ap (λ (i : ℕ). sum_below (λ k. g (next_in_face k (suc m)) -ℤ g k) m +ℤ (g i -ℤ g m)) (after_last m (suc m) refl)
    ∙ back_again (g 0) (g m) (sum_below (λ k. g (next_in_face k (suc m)) -ℤ g k) m) (stretch g (suc m) m (omega arith))

-- what each place hands on to the next is the same at all places
pub same_round : (g : ℕ → ℤ) (n : ℕ) → ((k : ℕ) → k < n → g (next_in_face k n) ≡ g k) → (k : ℕ) → k < n → g k ≡ g 0
same_round g n h zero lt = refl
same_round g n h (suc k) lt = ap g (sym (after_inner k n lt)) ∙ h k (omega (arith, lt)) ∙ same_round g n h k (omega (arith, lt))

pub after_in : (k n : ℕ) → k < n → next_in_face k n < n
after_in k n h = grind (arith, nat_tests)

-- ---- what holds of all ways along a face
all_first : {A : Type 0} (P : A → Type 0) (xs ys : List A) → All P (xs ++ ys) → All P xs
all_first P xs ys h = λ k d lt. subst P (get_or_append_left xs ys d k lt) (h k d (omega (arith, lt, length-append xs ys)))

all_second : {A : Type 0} (P : A → Type 0) (xs ys : List A) → All P (xs ++ ys) → All P ys
all_second P xs ys h = λ k d lt. subst P (get_or-append-add xs ys k d) (h (length xs + k) d (omega (arith, lt, length-append xs ys)))

all_at : {A : Type 0} (P : A → Type 0) (f : ℕ → List A) (n : ℕ) → All P (flat_map f (indices_below n)) → (k : ℕ) → k < n → All P (f k)
all_at P f zero h k lt = absurd (omega (arith, lt))
all_at P f (suc n) h k lt =
    let whole : All P (flat_map f (indices_below n) ++ f n) = subst (All P) (flat_next f n) h in
    elim (last_or_below k n lt) [
      | inl l ↦ all_at P f n (all_first P (flat_map f (indices_below n)) (f n) whole) k l
      | inr e ↦ subst (λ (i : ℕ). All P (f i)) (sym e) (all_second P (flat_map f (indices_below n)) (f n) whole)
    ]

on_way : (P : DirectedEdge → Type 0) (p q : List ℤ) (b : Bool) → Decides b (p ≡ q) → All P (cond b [] (way p q ∷ [])) → (p ≡ q) ⊎ P (way p q)
on_way P p q true d h = inl (d.0 refl)
on_way P p q false d h = inr (h 0 missing_edge (omega arith))

-- at each place of a face: the next point is the same, or the way there is one of the ways along the face
pub each_way : (P : DirectedEdge → Type 0) (points : List (List ℤ)) (face : List ℕ) → All P (edges_of_mesh_face points face) → (k : ℕ) → k < length face → (at_place points face k ≡ next_to points face k) ⊎ P (way (at_place points face k) (next_to points face k))
each_way P points face h k lt =
    on_way P (at_place points face k) (next_to points face k) (pointwise int_eq (at_place points face k) (next_to points face k)) (same_point (at_place points face k) (next_to points face k)) (all_at P (edge_at_place points face) (length face) h k lt)

-- ---- ways that stand as often as their reverses
abbrev pub same_way : DirectedEdge → DirectedEdge → Bool
same_way v w = pointwise int_eq v.from w.from && pointwise int_eq v.to w.to

ways_equal : (v w : DirectedEdge) → v.from ≡ w.from → v.to ≡ w.to → v ≡ w
ways_equal v w e f = λ i. record { from = e i; to = f i }

pub way_decides : (v w : DirectedEdge) → Decides (same_way v w) (v ≡ w)
way_decides v w =
    let d = Decides-and (pointwise int_eq v.from w.from) (pointwise int_eq v.to w.to) (same_point v.from w.from) (same_point v.to w.to) in
    (λ h. (let both = d.0 h in ways_equal v w both.0 both.1), λ e. d.1 (ap (λ (x : DirectedEdge). x.from) e, ap (λ (x : DirectedEdge). x.to) e))

not_first : (k : ℕ) → suc k ≡ 0 → ⊥
not_first k e = omega (arith, e)

one_less : (k n : ℕ) → suc k ≡ suc n → k ≡ n
one_less k n e = omega (arith, e)

none_here : (v w : DirectedEdge) (n : ℕ) (b : Bool) → Decides b (v ≡ w) → (v ≡ w → ⊥) → n ≡ 0 → cond b 1 0 + n ≡ 0
none_here v w n true d apart e = absurd (apart (d.0 refl))
none_here v w n false d apart e = omega (arith, e)

times_none : (ways : List DirectedEdge) (w : DirectedEdge) → ((k : ℕ) → k < length ways → get_or ways k missing_edge ≡ w → ⊥) → times_in same_way ways w ≡ 0
times_none [] w h = refl
times_none (v ∷ ways) w h = none_here v w (times_in same_way ways w) (same_way v w) (way_decides v w) (λ e. h 0 (omega arith) e) (times_none ways w (λ k lt e. h (suc k) (omega (arith, lt)) e))

one_here : (v w : DirectedEdge) (n : ℕ) (b : Bool) → Decides b (v ≡ w) → v ≡ w → n ≡ 0 → cond b 1 0 + n ≡ 1
one_here v w n true d same e = omega (arith, e)
one_here v w n false d same e = absurd (true≢false (sym (d.1 same)))

one_later : (v w : DirectedEdge) (n : ℕ) (b : Bool) → Decides b (v ≡ w) → (v ≡ w → ⊥) → n ≡ 1 → cond b 1 0 + n ≡ 1
one_later v w n true d apart e = absurd (apart (d.0 refl))
one_later v w n false d apart e = omega (arith, e)

met_at : (ways : List DirectedEdge) (w : DirectedEdge) (at : ℕ) → at < length ways → get_or ways at missing_edge ≡ w → ((k : ℕ) → k < length ways → get_or ways k missing_edge ≡ w → k ≡ at) → times_in same_way ways w ≡ 1
met_at [] w at lt is only = absurd (omega (arith, lt))
met_at (v ∷ ways) w zero lt is only =
    one_here v w (times_in same_way ways w) (same_way v w) (way_decides v w) is (times_none ways w (λ k lk e. not_first k (only (suc k) (omega (arith, lk)) e)))
met_at (v ∷ ways) w (suc at) lt is only =
    one_later v w (times_in same_way ways w) (same_way v w) (way_decides v w) (λ e. not_first at (sym (only 0 (omega arith) e)))
    (met_at ways w at (omega (arith, lt)) is (λ k lk e. one_less k at (only (suc k) (omega (arith, lk)) e)))

both_once : (ways : List DirectedEdge) (w : DirectedEdge) → IsMetOnce ways w → IsMetOnce ways (reversed_edge w) → times_in same_way ways w ≡ times_in same_way ways (reversed_edge w)
both_once ways w one back = met_at ways w one.at one.at_in one.is one.only ∙ sym (met_at ways (reversed_edge w) back.at back.at_in back.is back.only)

pub once_each : (ways : List DirectedEdge) → AreMetBothWays ways → (w : DirectedEdge) → times_in same_way ways w ≡ times_in same_way ways (reversed_edge w)
once_each ways h w = elim (cases_lt 0 (times_in same_way ways w)) [
  | inl some ↦ (
      let p = place same_way way_decides ways w missing_edge some in
      let both = h p.0 missing_edge p.1 in
      both_once ways w (subst (IsMetOnce ways) p.2 both.0) (subst (λ (v : DirectedEdge). IsMetOnce ways (reversed_edge v)) p.2 both.1))
  | inr none ↦ elim (cases_lt 0 (times_in same_way ways (reversed_edge w))) [
    | inl some ↦ (
        let p = place same_way way_decides ways (reversed_edge w) missing_edge some in
        let both = h p.0 missing_edge p.1 in
        both_once ways w (subst (λ (v : DirectedEdge). IsMetOnce ways (reversed_edge v)) p.2 both.1) (subst (IsMetOnce ways) p.2 both.0))
    | inr other ↦ omega (arith, none, other)
  ]
]

-- numbers that are opposite for the two directions of a way sum to 0 over all faces
pub all_ways_total : (ways : List DirectedEdge) (f : DirectedEdge → ℤ) → ((w : DirectedEdge) → f (reversed_edge w) ≡ pos 0 -ℤ f w) → ((w : DirectedEdge) → times_in same_way ways w ≡ times_in same_way ways (reversed_edge w)) → sum_over f ways ≡ pos 0
all_ways_total ways f odd even = cancelled_total same_way way_decides reversed_edge (λ w. refl) f odd ways even
