-- A way that touches no edge of a face goes through it as a way does whose end is moved a little.
use Rattle.std.proofs.Common.{◌≡◌, ◌≢◌, inl, inr, ℕ, suc, ◌+◌, ◌≤◌, Bool, true, false, ◌&&◌, ◌||◌, List, [], ◌∷◌, refl, sym, ap, ap₂, ◌∙◌, subst, true≢false, arith, ℤ, pos, ◌+ℤ◌, ◌-ℤ◌, ◌*ℤ◌, ◌<ℤ◌, int_lt, unsigned_abs}
use Rattle.std.specs.List.{list_all, list_any}
use Rattle.std.proofs.lemmas.Bool.{and_parts, and_from, or_cases}
use Rattle.plane_predicate.specs.Space.{Coordinates}
use Rattle.plane_predicate.proofs.lemmas.IntegerRing.{one_mul}
use Rattle.plane_predicate.proofs.lemmas.Identities.{combine, volume}
use Rattle.plane_predicate.proofs.lemmas.Polynomials.{var, plus, times, ring}
use Rattle.plane_predicate.proofs.lemmas.Vectors.{place, of_point, combineP}
use Rattle.plane_predicate.proofs.lemmas.Signs.{signs, pos_neg, neg_cancel}
use Rattle.bsp_tree.proofs.lemmas.Openness.{more_below, more_above}
use Rattle.closed_surface.specs.Closed.{Edge, edges_of}
use Rattle.closed_surface.specs.Near.{indicator}
use Rattle.closed_surface.proofs.lemmas.Numbers.{below, not_below, below_back, at_most, at_least, same_tests}
use Rattle.closed_surface.proofs.lemmas.Each.{Each}
use Rattle.ray_crossings.specs.Crossings.{orientation_to_face, passes_left, passes_right, passes_clear, goes_through, crossing, TouchesNoEdge}
use Rattle.ray_crossings.proofs.Volumes.{volumeP, facing_turn}
use Rattle.ray_crossings.proofs.Parts.{left_is, height_is}
use Rattle.ray_crossings.proofs.Choice.{sizes, each_size}

-- ---- tests of numbers that are taken often, with others added
pub times_below : (k x : ℤ) → pos 0 <ℤ k → int_lt (k *ℤ x) (pos 0) ≡ int_lt x (pos 0)
times_below k x h =
    same_tests (int_lt (k *ℤ x) (pos 0)) (int_lt x (pos 0))
    (λ e. below x (pos 0) (neg_cancel k x h (below_back (k *ℤ x) (pos 0) e)))
    (λ e. below (k *ℤ x) (pos 0) (pos_neg k x h (below_back x (pos 0) e)))

pub right_is : (a b : Coordinates) (e : Edge) → pos 0 <ℤ a.w → passes_right a b e ≡ int_lt (volume a b e.0 e.1) (pos 0)
right_is a b e wa = ap (λ (x : ℤ). int_lt x (pos 0)) (facing_turn a b e.0 e.1) ∙ times_below a.w (volume a b e.0 e.1) wa

-- the values of edges, taken often, with others added
abbrev Often : ℕ → (Edge → ℤ) → (Edge → ℤ) → (Edge → ℤ) → Type 0
Often k g h g' = (e : Edge) → g' e ≡ pos (suc k) *ℤ g e +ℤ h e

abbrev Small : ℕ → (Edge → ℤ) → List Edge → Type 0
Small k h es = Each (λ e. unsigned_abs (h e) ≤ k) es

abbrev above : (Edge → ℤ) → Edge → Bool
above g e = int_lt (pos 0) (g e)

abbrev under : (Edge → ℤ) → Edge → Bool
under g e = int_lt (g e) (pos 0)

all_stay : (k : ℕ) (g h g' : Edge → ℤ) → Often k g h g' → (es : List Edge) → Small k h es → list_all (above g) es ≡ true → list_all (above g') es ≡ true
all_stay k g h g' o [] b e = refl
all_stay k g h g' o (x ∷ es) b e =
    let p = and_parts (above g x) (list_all (above g) es) e in
    and_from (above g' x) (list_all (above g') es)
    (below (pos 0) (g' x) (subst (λ (y : ℤ). pos 0 <ℤ y) (sym (o x)) (more_above k (g x) (h x) (below_back (pos 0) (g x) p.0) b.0)))
    (all_stay k g h g' o es b.1 p.1)

not_above : (x : ℤ) → x <ℤ pos 0 → int_lt (pos 0) x ≡ false
not_above x h = not_below (pos 0) x (at_most x h)

one_false : (x y : Bool) → x ≡ false → (x && y) ≡ false
one_false x y e = ap (λ b. b && y) e

other_false : (x y : Bool) → y ≡ false → (x && y) ≡ false
other_false true y e = e
other_false false y e = refl

some_fails : (g : Edge → ℤ) (es : List Edge) → list_any (under g) es ≡ true → list_all (above g) es ≡ false
some_fails g [] e = absurd (true≢false (sym e))
some_fails g (x ∷ es) e = elim (or_cases (under g x) (list_any (under g) es) e) [
  | inl u ↦ one_false (above g x) (list_all (above g) es) (not_above (g x) (below_back (g x) (pos 0) u))
  | inr r ↦ other_false (above g x) (list_all (above g) es) (some_fails g es r)
]

some_stay : (k : ℕ) (g h g' : Edge → ℤ) → Often k g h g' → (es : List Edge) → Small k h es → list_any (under g) es ≡ true → list_all (above g') es ≡ false
some_stay k g h g' o [] b e = absurd (true≢false (sym e))
some_stay k g h g' o (x ∷ es) b e = elim (or_cases (under g x) (list_any (under g) es) e) [
  | inl u ↦ one_false (above g' x) (list_all (above g') es)
      (not_above (g' x) (subst (λ (y : ℤ). y <ℤ pos 0) (sym (o x)) (more_below k (g x) (h x) (below_back (g x) (pos 0) u) b.0)))
  | inr r ↦ other_false (above g' x) (list_all (above g') es) (some_stay k g h g' o es b.1 r)
]

edges_stay : (k : ℕ) (g h g' : Edge → ℤ) → Often k g h g' → (es : List Edge) → Small k h es → (list_all (above g) es || list_any (under g) es) ≡ true → list_all (above g') es ≡ list_all (above g) es
edges_stay k g h g' o es b e = elim (or_cases (list_all (above g) es) (list_any (under g) es) e) [
  | inl a ↦ all_stay k g h g' o es b a ∙ sym a
  | inr u ↦ some_stay k g h g' o es b u ∙ sym (some_fails g es u)
]

-- ---- volumes with an end that is moved
end_moved : (p q a : Coordinates) (u : ℤ) (b : Coordinates) (v : ℤ) (z : Coordinates) → volume a (combine u b v z) p q ≡ u *ℤ volume a b p q +ℤ v *ℤ volume a z p q
end_moved p q a u b v z =
    let P = place 0 in let Q = place 4 in let A = place 8 in let B = place 12 in let Z = place 16 in let U = var 20 in let V = var 21 in
    ring (of_point p (of_point q (of_point a (of_point b (of_point z (u ∷ v ∷ []))))))
    (volumeP A (combineP U B V Z) P Q) (plus (times U (volumeP A B P Q)) (times V (volumeP A Z P Q))) refl

start_moved : (p q a : Coordinates) (u : ℤ) (b : Coordinates) (v : ℤ) (z : Coordinates) → volume (combine u b v z) a p q ≡ u *ℤ volume b a p q +ℤ v *ℤ volume z a p q
start_moved p q a u b v z =
    let P = place 0 in let Q = place 4 in let A = place 8 in let B = place 12 in let Z = place 16 in let U = var 20 in let V = var 21 in
    ring (of_point p (of_point q (of_point a (of_point b (of_point z (u ∷ v ∷ []))))))
    (volumeP (combineP U B V Z) A P Q) (plus (times U (volumeP B A P Q)) (times V (volumeP Z A P Q))) refl

once : (x y : ℤ) → x +ℤ pos 1 *ℤ y ≡ x +ℤ y
once x y = ap (λ (z : ℤ). x +ℤ z) (one_mul y)

-- ---- what a number must reach for a face
abbrev pub face_size : Coordinates → Coordinates → List Coordinates → ℕ
face_size a z corners =
    unsigned_abs (orientation_to_face corners z) + (sizes (λ (e : Edge). volume a z e.0 e.1) (edges_of corners) + sizes (λ (e : Edge). volume z a e.0 e.1) (edges_of corners))

first_part : (a b c n : ℕ) → a + (b + c) ≤ n → a ≤ n
first_part a b c n h = omega arith

second_part : (a b c n : ℕ) → a + (b + c) ≤ n → b ≤ n
second_part a b c n h = omega arith

third_part : (a b c n : ℕ) → a + (b + c) ≤ n → c ≤ n
third_part a b c n h = omega arith

same_through : (x y s t : Bool) → (x ≡ true → y ≡ true → s ≡ t) → (x && (y && s)) ≡ (x && (y && t))
same_through true true s t h = h refl refl
same_through true false s t h = refl
same_through false y s t h = refl

module _ (a b z : Coordinates) (k : ℕ) (wa : pos 0 <ℤ a.w) (wb : pos 0 <ℤ b.w) (wc : pos 0 <ℤ (combine (pos (suc k)) b (pos 1) z).w)
    (corners : List Coordinates) (hb : orientation_to_face corners b ≢ pos 0) (enough : face_size a z corners ≤ k) (clear : TouchesNoEdge a b corners) where
  abbrev c : Coordinates
  c = combine (pos (suc k)) b (pos 1) z

  abbrev out_size : ℕ
  out_size = sizes (λ (e : Edge). volume a z e.0 e.1) (edges_of corners)

  abbrev back_size : ℕ
  back_size = sizes (λ (e : Edge). volume z a e.0 e.1) (edges_of corners)

  height_moved : orientation_to_face corners c ≡ pos (suc k) *ℤ orientation_to_face corners b +ℤ orientation_to_face corners z
  height_moved = height_is corners (pos (suc k)) b (pos 1) z ∙ once (pos (suc k) *ℤ orientation_to_face corners b) (orientation_to_face corners z)

  small : unsigned_abs (orientation_to_face corners z) ≤ k
  small = first_part (unsigned_abs (orientation_to_face corners z)) out_size back_size k enough

  low_stays : int_lt (orientation_to_face corners c) (pos 0) ≡ int_lt (orientation_to_face corners b) (pos 0)
  low_stays = elim (signs (orientation_to_face corners b)) [
    | inl l ↦ below (orientation_to_face corners c) (pos 0) (subst (λ (x : ℤ). x <ℤ pos 0) (sym height_moved) (more_below k (orientation_to_face corners b) (orientation_to_face corners z) l small))
        ∙ sym (below (orientation_to_face corners b) (pos 0) l)
    | inr (inl e) ↦ absurd (hb e)
    | inr (inr g) ↦ not_below (orientation_to_face corners c) (pos 0)
        (at_least (orientation_to_face corners c) (subst (λ (x : ℤ). pos 0 <ℤ x) (sym height_moved) (more_above k (orientation_to_face corners b) (orientation_to_face corners z) g small)))
        ∙ sym (not_below (orientation_to_face corners b) (pos 0) (at_least (orientation_to_face corners b) g))
  ]

  high_stays : int_lt (pos 0) (orientation_to_face corners c) ≡ int_lt (pos 0) (orientation_to_face corners b)
  high_stays = elim (signs (orientation_to_face corners b)) [
    | inl l ↦ not_above (orientation_to_face corners c) (subst (λ (x : ℤ). x <ℤ pos 0) (sym height_moved) (more_below k (orientation_to_face corners b) (orientation_to_face corners z) l small))
        ∙ sym (not_above (orientation_to_face corners b) l)
    | inr (inl e) ↦ absurd (hb e)
    | inr (inr g) ↦ below (pos 0) (orientation_to_face corners c) (subst (λ (x : ℤ). pos 0 <ℤ x) (sym height_moved) (more_above k (orientation_to_face corners b) (orientation_to_face corners z) g small))
        ∙ sym (below (pos 0) (orientation_to_face corners b) g)
  ]

  -- ---- onward
  abbrev out_volume : Edge → ℤ
  out_volume e = volume a b e.0 e.1

  abbrev back_volume : Edge → ℤ
  back_volume e = volume b a e.0 e.1

  out_often : (e : Edge) → volume a c e.0 e.1 ≡ pos (suc k) *ℤ volume a b e.0 e.1 +ℤ volume a z e.0 e.1
  out_often e = end_moved e.0 e.1 a (pos (suc k)) b (pos 1) z ∙ once (pos (suc k) *ℤ volume a b e.0 e.1) (volume a z e.0 e.1)

  back_often : (e : Edge) → volume c a e.0 e.1 ≡ pos (suc k) *ℤ volume b a e.0 e.1 +ℤ volume z a e.0 e.1
  back_often e = start_moved e.0 e.1 a (pos (suc k)) b (pos 1) z ∙ once (pos (suc k) *ℤ volume b a e.0 e.1) (volume z a e.0 e.1)

  by_volumes : (p q : Coordinates) → pos 0 <ℤ p.w → (es : List Edge) → list_all (passes_left p q) es ≡ list_all (λ (e : Edge). int_lt (pos 0) (volume p q e.0 e.1)) es
  by_volumes p q w es = ap (λ (t : Edge → Bool). list_all t es) (λ i e. left_is p q e w i)

  by_volumes_right : (p q : Coordinates) → pos 0 <ℤ p.w → (es : List Edge) → list_any (passes_right p q) es ≡ list_any (λ (e : Edge). int_lt (volume p q e.0 e.1) (pos 0)) es
  by_volumes_right p q w es = ap (λ (t : Edge → Bool). list_any t es) (λ i e. right_is p q e w i)

  out_edges : passes_clear a b corners ≡ true → list_all (passes_left a c) (edges_of corners) ≡ list_all (passes_left a b) (edges_of corners)
  out_edges e =
      by_volumes a c wa (edges_of corners)
      ∙ edges_stay k out_volume (λ (x : Edge). volume a z x.0 x.1) (λ (x : Edge). volume a c x.0 x.1) out_often (edges_of corners)
      (each_size (λ (x : Edge). volume a z x.0 x.1) (edges_of corners) k (second_part (unsigned_abs (orientation_to_face corners z)) out_size back_size k enough))
      (sym (ap₂ (λ (s t : Bool). s || t) (by_volumes a b wa (edges_of corners)) (by_volumes_right a b wa (edges_of corners))) ∙ e)
      ∙ sym (by_volumes a b wa (edges_of corners))

  back_edges : passes_clear b a corners ≡ true → list_all (passes_left c a) (edges_of corners) ≡ list_all (passes_left b a) (edges_of corners)
  back_edges e =
      by_volumes c a wc (edges_of corners)
      ∙ edges_stay k back_volume (λ (x : Edge). volume z a x.0 x.1) (λ (x : Edge). volume c a x.0 x.1) back_often (edges_of corners)
      (each_size (λ (x : Edge). volume z a x.0 x.1) (edges_of corners) k (third_part (unsigned_abs (orientation_to_face corners z)) out_size back_size k enough))
      (sym (ap₂ (λ (s t : Bool). s || t) (by_volumes b a wb (edges_of corners)) (by_volumes_right b a wb (edges_of corners))) ∙ e)
      ∙ sym (by_volumes b a wb (edges_of corners))

  out_same : goes_through a c corners ≡ goes_through a b corners
  out_same =
      ap (λ (t : Bool). int_lt (orientation_to_face corners a) (pos 0) && (t && list_all (passes_left a c) (edges_of corners))) high_stays
      ∙ same_through (int_lt (orientation_to_face corners a) (pos 0)) (int_lt (pos 0) (orientation_to_face corners b)) (list_all (passes_left a c) (edges_of corners)) (list_all (passes_left a b) (edges_of corners))
      (λ x y. out_edges (clear.out (below_back (orientation_to_face corners a) (pos 0) x) (below_back (pos 0) (orientation_to_face corners b) y)))

  back_same : goes_through c a corners ≡ goes_through b a corners
  back_same =
      ap (λ (t : Bool). t && (int_lt (pos 0) (orientation_to_face corners a) && list_all (passes_left c a) (edges_of corners))) low_stays
      ∙ same_through (int_lt (orientation_to_face corners b) (pos 0)) (int_lt (pos 0) (orientation_to_face corners a)) (list_all (passes_left c a) (edges_of corners)) (list_all (passes_left b a) (edges_of corners))
      (λ x y. back_edges (clear.back (below_back (orientation_to_face corners b) (pos 0) x) (below_back (pos 0) (orientation_to_face corners a) y)))

  pub crossing_same : crossing a c corners ≡ crossing a b corners
  crossing_same = ap₂ (λ (x y : Bool). indicator x -ℤ indicator y) out_same back_same
