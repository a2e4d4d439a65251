-- The order of the places at which two planes meet the line of two more.
use Rattle.std.proofs.Common.{◌≡◌, zero, suc, [], refl, sym, ap, ap₂, ◌∙◌, arith, ℤ, pos, negsuc, ◌+ℤ◌, ◌-ℤ◌, ◌*ℤ◌, neg_ℤ, ◌<ℤ◌, inl, inr}
use Rattle.std.proofs.Math.IntN.{*ℤ-zero, zero-*ℤ}
use Rattle.plane_predicate.specs.Space.{Coefficients, Coordinates, meeting_by_cramers_rule, minor, value}
use Rattle.plane_predicate.specs.Sides.{side_of}
use Rattle.plane_predicate.specs.declared.sides.Side.TheVariants.{Behind, Ahead}
use Rattle.plane_predicate.proofs.lemmas.IntegerRing.{sums, mul_neg_right}
use Rattle.plane_predicate.proofs.lemmas.Identities.{as_cramer, weight_swapped}
use Rattle.plane_predicate.proofs.lemmas.Polynomials.{plus, times, ring}
use Rattle.plane_predicate.proofs.lemmas.Signs.{signs, pos_pos, pos_neg}
use Rattle.plane_predicate.proofs.lemmas.Vectors.{form, of_plane, minorP, determinantP}
use Rattle.plane_predicate.specs.declared.place.Place.{Place}
use Rattle.plane_predicate.specs.Lines.{Axis, IsAxisOf, IsLinePlaceOf}

-- ---- the side that a number says
below_is_behind : (x : ℤ) → x <ℤ pos 0 → side_of x ≡ Behind
below_is_behind (pos n) h = absurd (omega (arith, sums))
below_is_behind (negsuc n) h = refl

above_is_ahead : (x : ℤ) → pos 0 <ℤ x → side_of x ≡ Ahead
above_is_ahead (pos zero) h = absurd (omega (arith, sums))
above_is_ahead (pos (suc n)) h = refl
above_is_ahead (negsuc n) h = absurd (omega (arith, sums))

-- a factor above 0 leaves the side
side_times : (k x : ℤ) → pos 0 <ℤ k → side_of (k *ℤ x) ≡ side_of x
side_times k x h = elim (signs x) [
  | inl b ↦ below_is_behind (k *ℤ x) (pos_neg k x h b) ∙ sym (below_is_behind x b)
  | inr (inl e) ↦ ap side_of (ap (λ (y : ℤ). k *ℤ y) e ∙ *ℤ-zero k ∙ sym e)
  | inr (inr a) ↦ above_is_ahead (k *ℤ x) (pos_pos k x h a) ∙ sym (above_is_ahead x a)
]

-- ---- directions
-- the product of a direction with the line's
abbrev along : Coefficients → Axis → ℤ
along m line = m.a *ℤ line.a +ℤ m.b *ℤ line.b +ℤ m.c *ℤ line.c

third_weight : (p m r : Coefficients) → r.a *ℤ minor p.b p.c m.b m.c +ℤ r.b *ℤ minor p.c p.a m.c m.a +ℤ r.c *ℤ minor p.a p.b m.a m.b ≡ (meeting_by_cramers_rule p m r).w
third_weight p m r =
    let P = form 0 in let M = form 4 in let R = form 8 in
    ring (of_plane p (of_plane m (of_plane r [])))
    (plus (plus (times R.a (minorP P.b P.c M.b M.c)) (times R.b (minorP P.c P.a M.c M.a))) (times R.c (minorP P.a P.b M.a M.b)))
    (determinantP P.a P.b P.c M.a M.b M.c R.a R.b R.c) refl

along_is : (p m r : Coefficients) (line : Axis) → IsAxisOf p m line → along r line ≡ (meeting_by_cramers_rule p m r).w
along_is p m r line h = rw (h.a, h.b, h.c) (third_weight p m r)

-- ---- places
settled : (c vm w v vp x vq g vr f : ℤ) → c *ℤ vm -ℤ w *ℤ v ≡ vp *ℤ x +ℤ vq *ℤ g +ℤ vr *ℤ neg_ℤ f → vp ≡ pos 0 → vm ≡ pos 0 → w *ℤ v ≡ vr *ℤ f -ℤ vq *ℤ g
settled c vm w v vp x vq g vr f e hp hm =
    omega (arith, sums, e, ap (λ (k : ℤ). c *ℤ k) hm, *ℤ-zero c, ap (λ (k : ℤ). k *ℤ x) hp, zero-*ℤ x, mul_neg_right vr f)

swapped : (p q r m : Coefficients) (v : Coordinates) →
    (meeting_by_cramers_rule p q r).w *ℤ value m v -ℤ v.w *ℤ value m (meeting_by_cramers_rule p q r) ≡ value p v *ℤ (meeting_by_cramers_rule m q r).w +ℤ value q v *ℤ (meeting_by_cramers_rule p m r).w +ℤ value r v *ℤ neg_ℤ ((meeting_by_cramers_rule p m q).w)
swapped p q r m v = as_cramer p q r m v ∙ ap (λ (k : ℤ). value p v *ℤ (meeting_by_cramers_rule m q r).w +ℤ value q v *ℤ (meeting_by_cramers_rule p m r).w +ℤ value r v *ℤ k) (weight_swapped p m q)

-- the values and products of two places, crossed, are a number above 0 times what the fourth plane says
crossed : (p m q r : Coefficients) (line : Axis) → IsAxisOf p m line →
    line.point.w *ℤ value m (meeting_by_cramers_rule p q r) ≡ value r line.point *ℤ along q line -ℤ value q line.point *ℤ along r line
crossed p m q r line h =
    let v = line.point in
    settled (meeting_by_cramers_rule p q r).w (value m v) v.w (value m (meeting_by_cramers_rule p q r)) (value p v) (meeting_by_cramers_rule m q r).w (value q v) (meeting_by_cramers_rule p m r).w (value r v) (meeting_by_cramers_rule p m q).w
    (swapped p q r m v) h.on.first h.on.second
    ∙ ap₂ (λ (f g : ℤ). value r v *ℤ f -ℤ value q v *ℤ g) (sym (along_is p m q line h)) (sym (along_is p m r line h))

pub side_at_line : (p m q r : Coefficients) (line : Axis) (ends begins : Place) → IsAxisOf p m line → IsLinePlaceOf q line ends → IsLinePlaceOf r line begins →
    side_of (begins.at *ℤ ends.along -ℤ ends.at *ℤ begins.along) ≡ side_of (value m (meeting_by_cramers_rule p q r))
side_at_line p m q r line ends begins h one other =
    ap side_of (rw (one.at, one.along, other.at, other.along) refl ∙ sym (crossed p m q r line h))
    ∙ side_times line.point.w (value m (meeting_by_cramers_rule p q r)) h.on.weight
