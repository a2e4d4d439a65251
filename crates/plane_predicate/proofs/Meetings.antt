-- Cramer's rule by cross products.
use Rattle.std.proofs.Common.{◌≡◌, ℕ, ◌+◌, ◌*◌, ◌≤◌, [], refl, ◌∙◌, arith, ℤ, pos, negsuc, neg_ℤ, ◌+ℤ◌, ◌*ℤ◌, ◌<ℤ◌, unsigned_abs}
use Rattle.plane_predicate.specs.Space.{Coefficients, Coordinates, minor, meeting_by_cramers_rule, value, negated_point, with_weight_above_zero, meeting}
use Rattle.plane_predicate.specs.Sides.{value_signed_by}
use Rattle.plane_predicate.proofs.lemmas.IntegerRing.{sums, mul_neg_right}
use Rattle.plane_predicate.proofs.lemmas.Identities.{cramer_on_first, cramer_on_second, cramer_on_third}
use Rattle.plane_predicate.proofs.lemmas.Polynomials.{plus, times, ring}
use Rattle.plane_predicate.proofs.lemmas.Vectors.{form, of_plane, minorP, cramerP}
use Rattle.plane_predicate.proofs.lemmas.Sizes.{three_products}

-- a sum of three products whose second factors are minors
with_minors : (a b c x y z u v w : ℤ) → x ≡ u → y ≡ v → z ≡ w → a *ℤ x +ℤ b *ℤ y +ℤ c *ℤ z ≡ a *ℤ u +ℤ b *ℤ v +ℤ c *ℤ w
with_minors a b c x y z u v w hx hy hz = rw (hx, hy, hz) refl

pub cramer_x : (p q r : Coefficients) (u v w : ℤ) → u ≡ minor q.b q.c r.b r.c → v ≡ minor r.b r.c p.b p.c → w ≡ minor p.b p.c q.b q.c → p.d *ℤ u +ℤ q.d *ℤ v +ℤ r.d *ℤ w ≡ (meeting_by_cramers_rule p q r).x
cramer_x p q r u v w hu hv hw =
    let P = form 0 in let Q = form 4 in let R = form 8 in
    with_minors p.d q.d r.d u v w (minor q.b q.c r.b r.c) (minor r.b r.c p.b p.c) (minor p.b p.c q.b q.c) hu hv hw
    ∙ ring (of_plane p (of_plane q (of_plane r [])))
    (plus (plus (times P.d (minorP Q.b Q.c R.b R.c)) (times Q.d (minorP R.b R.c P.b P.c))) (times R.d (minorP P.b P.c Q.b Q.c)))
    (cramerP P Q R).x refl

pub cramer_y : (p q r : Coefficients) (u v w : ℤ) → u ≡ minor q.c q.a r.c r.a → v ≡ minor r.c r.a p.c p.a → w ≡ minor p.c p.a q.c q.a → p.d *ℤ u +ℤ q.d *ℤ v +ℤ r.d *ℤ w ≡ (meeting_by_cramers_rule p q r).y
cramer_y p q r u v w hu hv hw =
    let P = form 0 in let Q = form 4 in let R = form 8 in
    with_minors p.d q.d r.d u v w (minor q.c q.a r.c r.a) (minor r.c r.a p.c p.a) (minor p.c p.a q.c q.a) hu hv hw
    ∙ ring (of_plane p (of_plane q (of_plane r [])))
    (plus (plus (times P.d (minorP Q.c Q.a R.c R.a)) (times Q.d (minorP R.c R.a P.c P.a))) (times R.d (minorP P.c P.a Q.c Q.a)))
    (cramerP P Q R).y refl

pub cramer_z : (p q r : Coefficients) (u v w : ℤ) → u ≡ minor q.a q.b r.a r.b → v ≡ minor r.a r.b p.a p.b → w ≡ minor p.a p.b q.a q.b → p.d *ℤ u +ℤ q.d *ℤ v +ℤ r.d *ℤ w ≡ (meeting_by_cramers_rule p q r).z
cramer_z p q r u v w hu hv hw =
    let P = form 0 in let Q = form 4 in let R = form 8 in
    with_minors p.d q.d r.d u v w (minor q.a q.b r.a r.b) (minor r.a r.b p.a p.b) (minor p.a p.b q.a q.b) hu hv hw
    ∙ ring (of_plane p (of_plane q (of_plane r [])))
    (plus (plus (times P.d (minorP Q.a Q.b R.a R.b)) (times Q.d (minorP R.a R.b P.a P.b))) (times R.d (minorP P.a P.b Q.a Q.b)))
    (cramerP P Q R).z refl

pub cramer_w : (p q r : Coefficients) (u v w : ℤ) → u ≡ minor q.b q.c r.b r.c → v ≡ minor q.c q.a r.c r.a → w ≡ minor q.a q.b r.a r.b → p.a *ℤ u +ℤ p.b *ℤ v +ℤ p.c *ℤ w ≡ (meeting_by_cramers_rule p q r).w
cramer_w p q r u v w hu hv hw = with_minors p.a p.b p.c u v w (minor q.b q.c r.b r.c) (minor q.c q.a r.c r.a) (minor q.a q.b r.a r.b) hu hv hw

-- the size of such a sum
pub sum_size : (s : ℕ) (a b c x y z : ℤ) (m : ℕ) → s ≤ unsigned_abs a * unsigned_abs x + unsigned_abs b * unsigned_abs y + unsigned_abs c * unsigned_abs z →
    unsigned_abs a ≤ m → unsigned_abs b ≤ m → unsigned_abs c ≤ m → unsigned_abs x ≤ 2 * (134152200 * 134152200) → unsigned_abs y ≤ 2 * (134152200 * 134152200) → unsigned_abs z ≤ 2 * (134152200 * 134152200) →
    s ≤ 6 * (134152200 * (134152200 * m))
sum_size s a b c x y z m h ha hb hc hx hy hz = omega (arith, three_products a b c x y z m (2 * (134152200 * 134152200)) ha hb hc hx hy hz)

-- ---- the sign of w
value_negative : (m : Coefficients) (p : Coordinates) → value m (negated_point p) ≡ neg_ℤ (value m p)
value_negative m p = omega (arith, sums, mul_neg_right m.a p.x, mul_neg_right m.b p.y, mul_neg_right m.c p.z, mul_neg_right m.d p.w)

pub value_signed : (w : ℤ) (m : Coefficients) (p : Coordinates) → value m (with_weight_above_zero w p) ≡ value_signed_by w (value m p)
value_signed (pos n) m p = refl
value_signed (negsuc n) m p = value_negative m p

pub signed_negative : (w : ℤ) (p : Coordinates) → w <ℤ pos 0 → with_weight_above_zero w p ≡ negated_point p
signed_negative (pos n) p h = absurd (omega (arith, sums))
signed_negative (negsuc n) p h = refl

turned_zero : (w v : ℤ) → v ≡ pos 0 → value_signed_by w v ≡ pos 0
turned_zero (pos n) v h = h
turned_zero (negsuc n) v h = rw h refl

-- the meeting is on each of its planes
pub meeting_on : (p q r : Coefficients) → (value p (meeting p q r) ≡ pos 0) × (value q (meeting p q r) ≡ pos 0) × (value r (meeting p q r) ≡ pos 0)
meeting_on p q r =
    let c = meeting_by_cramers_rule p q r in (
      value_signed c.w p c ∙ turned_zero c.w (value p c) (cramer_on_first p q r),
      value_signed c.w q c ∙ turned_zero c.w (value q c) (cramer_on_second p q r),
      value_signed c.w r c ∙ turned_zero c.w (value r c) (cramer_on_third p q r),
    )

-- a point whose w is above 0 keeps the value's sign
pub turned_above : (w v : ℤ) → pos 0 <ℤ w → value_signed_by w v ≡ v
turned_above (pos n) v h = refl
turned_above (negsuc n) v h = absurd (omega (arith, sums))
