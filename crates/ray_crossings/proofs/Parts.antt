-- The crossing of a face by a way is the sum of the crossings by the two parts of the way.
use Rattle.std.proofs.Common.{◌≡◌, ◌≢◌, inl, inr, Bool, true, false, not, ◌&&◌, List, [], ◌∷◌, refl, sym, ap, ap₂, ◌∙◌, true≢false, arith, ℤ, pos, ◌+ℤ◌, ◌-ℤ◌, ◌*ℤ◌, ◌<ℤ◌, int_lt}
use Rattle.std.specs.List.{list_all}
use Rattle.std.proofs.Math.IntN.{*ℤ-zero}
use Rattle.plane_predicate.specs.Space.{Coordinates}
use Rattle.plane_predicate.proofs.lemmas.IntegerRing.{sums}
use Rattle.plane_predicate.proofs.lemmas.Identities.{combine, volume}
use Rattle.plane_predicate.proofs.lemmas.Signs.{signs, pos_pos, pos_neg, pos_cancel}
use Rattle.closed_surface.specs.Closed.{Edge, edges_of}
use Rattle.closed_surface.specs.Near.{indicator}
use Rattle.closed_surface.proofs.lemmas.Numbers.{below, not_below, below_back, same_tests, at_least, at_most}
use Rattle.ray_crossings.specs.Crossings.{orientation_to_face, passes_left, goes_through, crossing}
use Rattle.ray_crossings.proofs.Volumes.{facing_turn, height_between, first_part, second_part}

-- ---- tests of numbers
pub times_above : (k x : ℤ) → pos 0 <ℤ k → int_lt (pos 0) (k *ℤ x) ≡ int_lt (pos 0) x
times_above k x h =
    same_tests (int_lt (pos 0) (k *ℤ x)) (int_lt (pos 0) x)
    (λ e. below (pos 0) x (pos_cancel k x h (below_back (pos 0) (k *ℤ x) e)))
    (λ e. below (pos 0) (k *ℤ x) (pos_pos k x h (below_back (pos 0) x e)))

pub other_test : (x : ℤ) → x ≢ pos 0 → int_lt (pos 0) x ≡ not (int_lt x (pos 0))
other_test x h = elim (signs x) [
  | inl b ↦ not_below (pos 0) x (at_most x b) ∙ sym (ap not (below x (pos 0) b))
  | inr (inl e) ↦ absurd (h e)
  | inr (inr a) ↦ below (pos 0) x a ∙ sym (ap not (not_below x (pos 0) (at_least x a)))
]

pub above_by : (x : ℤ) → x ≢ pos 0 → int_lt x (pos 0) ≡ false → pos 0 <ℤ x
above_by x h e = elim (signs x) [
  | inl b ↦ absurd (true≢false (sym (below x (pos 0) b) ∙ e))
  | inr (inl z) ↦ absurd (h z)
  | inr (inr a) ↦ a
]

pub sum_below : (u v x y z : ℤ) → pos 0 <ℤ u → pos 0 <ℤ v → z ≡ u *ℤ x +ℤ v *ℤ y → x <ℤ pos 0 → y <ℤ pos 0 → z <ℤ pos 0
sum_below u v x y z hu hv e hx hy = omega (arith, sums, e, pos_neg u x hu hx, pos_neg v y hv hy)

pub sum_above : (u v x y z : ℤ) → pos 0 <ℤ u → pos 0 <ℤ v → z ≡ u *ℤ x +ℤ v *ℤ y → pos 0 <ℤ x → pos 0 <ℤ y → pos 0 <ℤ z
sum_above u v x y z hu hv e hx hy = omega (arith, sums, e, pos_pos u x hu hx, pos_pos v y hv hy)

-- ---- the point between, from the other end
exchanged : (a b : ℤ) → a +ℤ b ≡ b +ℤ a
exchanged a b = omega (arith, sums)

pub other_end : (u : ℤ) (a : Coordinates) (v : ℤ) (b : Coordinates) → combine u a v b ≡ combine v b u a
other_end u a v b = λ i. record {
  x = exchanged (u *ℤ a.x) (v *ℤ b.x) i;
  y = exchanged (u *ℤ a.y) (v *ℤ b.y) i;
  z = exchanged (u *ℤ a.z) (v *ℤ b.z) i;
  w = exchanged (u *ℤ a.w) (v *ℤ b.w) i;
}

-- ---- edges that a way passes
pub left_is : (a b : Coordinates) (e : Edge) → pos 0 <ℤ a.w → passes_left a b e ≡ int_lt (pos 0) (volume a b e.0 e.1)
left_is a b e wa = ap (λ (x : ℤ). int_lt (pos 0) x) (facing_turn a b e.0 e.1) ∙ times_above a.w (volume a b e.0 e.1) wa

module _ (u v : ℤ) (hu : pos 0 <ℤ u) (hv : pos 0 <ℤ v) (a b : Coordinates) (wa : pos 0 <ℤ a.w) (wb : pos 0 <ℤ b.w) where
  between_weight : pos 0 <ℤ (combine u a v b).w
  between_weight = sum_above u v a.w b.w (combine u a v b).w hu hv refl wa wb

  left_first : (e : Edge) → passes_left a (combine u a v b) e ≡ passes_left a b e
  left_first e =
      left_is a (combine u a v b) e wa ∙ ap (λ (x : ℤ). int_lt (pos 0) x) (first_part e.0 e.1 u a v b)
      ∙ times_above v (volume a b e.0 e.1) hv ∙ sym (left_is a b e wa)

  left_second : (e : Edge) → passes_left (combine u a v b) b e ≡ passes_left a b e
  left_second e =
      left_is (combine u a v b) b e between_weight ∙ ap (λ (x : ℤ). int_lt (pos 0) x) (second_part e.0 e.1 u a v b)
      ∙ times_above u (volume a b e.0 e.1) hu ∙ sym (left_is a b e wa)

  all_first : (es : List Edge) → list_all (passes_left a (combine u a v b)) es ≡ list_all (passes_left a b) es
  all_first es = ap (λ (t : Edge → Bool). list_all t es) (λ i e. left_first e i)

  all_second : (es : List Edge) → list_all (passes_left (combine u a v b) b) es ≡ list_all (passes_left a b) es
  all_second es = ap (λ (t : Edge → Bool). list_all t es) (λ i e. left_second e i)

-- ---- heights
zero_between : (u v : ℤ) → pos 0 ≡ u *ℤ pos 0 +ℤ v *ℤ pos 0
zero_between u v = omega (arith, sums, *ℤ-zero u, *ℤ-zero v)

pub height_is : (corners : List Coordinates) (u : ℤ) (a : Coordinates) (v : ℤ) (b : Coordinates) →
    orientation_to_face corners (combine u a v b) ≡ u *ℤ orientation_to_face corners a +ℤ v *ℤ orientation_to_face corners b
height_is [] u a v b = zero_between u v
height_is (p ∷ []) u a v b = zero_between u v
height_is (p ∷ q ∷ []) u a v b = zero_between u v
height_is (p ∷ q ∷ r ∷ corners) u a v b = height_between p q r u a v b

-- ---- the crossing by both parts
add_parts : (a c b e f : Bool) → (a ≡ true → b ≡ true → c ≡ true) → (a ≡ false → b ≡ false → c ≡ false) →
    indicator (a && (not b && e)) -ℤ indicator (b && (not a && f))
    ≡ (indicator (a && (not c && e)) -ℤ indicator (c && (not a && f))) +ℤ (indicator (c && (not b && e)) -ℤ indicator (b && (not c && f)))
add_parts true true true e f h k = refl
add_parts true true false e f h k = omega (arith, sums)
add_parts true false true e f h k = absurd (true≢false (sym (h refl refl)))
add_parts true false false e f h k = omega (arith, sums)
add_parts false true true e f h k = omega (arith, sums)
add_parts false true false e f h k = absurd (true≢false (k refl refl))
add_parts false false true e f h k = omega (arith, sums)
add_parts false false false e f h k = refl

abbrev behind : List Coordinates → Coordinates → Bool
behind corners p = int_lt (orientation_to_face corners p) (pos 0)

by_behind : (corners : List Coordinates) (a b : Coordinates) (e : Bool) → orientation_to_face corners b ≢ pos 0 → list_all (passes_left a b) (edges_of corners) ≡ e →
    goes_through a b corners ≡ (behind corners a && (not (behind corners b) && e))
by_behind corners a b e hb l = ap₂ (λ (s t : Bool). behind corners a && (s && t)) (other_test (orientation_to_face corners b) hb) l

difference : (s t s' t' : Bool) → s ≡ s' → t ≡ t' → indicator s -ℤ indicator t ≡ indicator s' -ℤ indicator t'
difference s t s' t' hs ht = ap₂ (λ (x y : Bool). indicator x -ℤ indicator y) hs ht

module _ (corners : List Coordinates) (u v : ℤ) (hu : pos 0 <ℤ u) (hv : pos 0 <ℤ v) (a b : Coordinates) (wa : pos 0 <ℤ a.w) (wb : pos 0 <ℤ b.w)
    (ha : orientation_to_face corners a ≢ pos 0) (hb : orientation_to_face corners b ≢ pos 0) (hc : orientation_to_face corners (combine u a v b) ≢ pos 0) where
  abbrev c : Coordinates
  c = combine u a v b

  both_behind : behind corners a ≡ true → behind corners b ≡ true → behind corners c ≡ true
  both_behind ea eb =
      below (orientation_to_face corners c) (pos 0) (sum_below u v (orientation_to_face corners a) (orientation_to_face corners b) (orientation_to_face corners c) hu hv (height_is corners u a v b)
      (below_back (orientation_to_face corners a) (pos 0) ea) (below_back (orientation_to_face corners b) (pos 0) eb))

  both_ahead : behind corners a ≡ false → behind corners b ≡ false → behind corners c ≡ false
  both_ahead ea eb =
      not_below (orientation_to_face corners c) (pos 0) (at_least (orientation_to_face corners c) (sum_above u v (orientation_to_face corners a) (orientation_to_face corners b) (orientation_to_face corners c) hu hv (height_is corners u a v b)
      (above_by (orientation_to_face corners a) ha ea) (above_by (orientation_to_face corners b) hb eb)))

  abbrev onward : Bool
  onward = list_all (passes_left a b) (edges_of corners)

  abbrev back : Bool
  back = list_all (passes_left b a) (edges_of corners)

  back_first : list_all (passes_left b c) (edges_of corners) ≡ back
  back_first =
      ap (λ (p : Coordinates). list_all (passes_left b p) (edges_of corners)) (other_end u a v b) ∙ all_first v u hv hu b a wb wa (edges_of corners)

  back_second : list_all (passes_left c a) (edges_of corners) ≡ back
  back_second =
      ap (λ (p : Coordinates). list_all (passes_left p a) (edges_of corners)) (other_end u a v b) ∙ all_second v u hv hu b a wb wa (edges_of corners)

  pub crossing_parts : crossing a b corners ≡ crossing a c corners +ℤ crossing c b corners
  crossing_parts =
      difference _ _ _ _ (by_behind corners a b onward hb refl) (by_behind corners b a back ha refl)
      ∙ add_parts (behind corners a) (behind corners c) (behind corners b) onward back both_behind both_ahead
      ∙ sym (ap₂ (λ (x y : ℤ). x +ℤ y)
      (difference _ _ _ _ (by_behind corners a c onward hc (all_first u v hu hv a b wa wb (edges_of corners))) (by_behind corners c a back ha back_second))
      (difference _ _ _ _ (by_behind corners c b onward hb (all_second u v hu hv a b wa wb (edges_of corners))) (by_behind corners b c back hc back_first)))
