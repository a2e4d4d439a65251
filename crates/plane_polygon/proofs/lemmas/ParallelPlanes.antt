-- Parallel planes.
use Rattle.std.proofs.Common.{◌≡◌, zero, suc, [], ◌∷◌, refl, sym, ap, ◌∙◌, arith, ℤ, pos, negsuc, ◌+ℤ◌, ◌-ℤ◌, ◌*ℤ◌, neg_ℤ, ◌<ℤ◌, inl, inr, Option, None, Some, IfSome}
use Rattle.plane_predicate.specs.Space.{Coefficients, Coordinates, value, opposite_of}
use Rattle.plane_predicate.specs.Sides.{side_of}
use Rattle.plane_predicate.specs.declared.sides.Side.{Side}
use Rattle.plane_predicate.specs.declared.sides.Side.TheVariants.{Behind, On, Ahead}
use Rattle.plane_predicate.proofs.lemmas.IntegerRing.{sums}
use Rattle.plane_predicate.proofs.lemmas.Polynomials.{var, num, plus, times, minus, ring}
use Rattle.plane_predicate.proofs.lemmas.Signs.{signs, pos_pos, pos_neg}
use Rattle.plane_predicate.proofs.lemmas.Vectors.{value-opposite}
use Rattle.plane_polygon.specs.Parallels.{side_past, HasAllOn}

-- ---- the side that a number says
pub below_is_behind : (x : ℤ) → x <ℤ pos 0 → side_of x ≡ Behind
below_is_behind (pos n) h = absurd (omega (arith, sums))
below_is_behind (negsuc n) h = refl

pub zero_is_on : (x : ℤ) → x ≡ pos 0 → side_of x ≡ On
zero_is_on x e = ap side_of e

pub above_is_ahead : (x : ℤ) → pos 0 <ℤ x → side_of x ≡ Ahead
above_is_ahead (pos zero) h = absurd (omega (arith, sums))
above_is_ahead (pos (suc n)) h = refl
above_is_ahead (negsuc n) h = absurd (omega (arith, sums))

times_zero : (k : ℤ) → k *ℤ pos 0 ≡ pos 0
times_zero k = ring (k ∷ []) (times (var 0) (num (pos 0))) (num (pos 0)) refl

-- a factor above 0 leaves the side
side_times : (k x : ℤ) → pos 0 <ℤ k → side_of (k *ℤ x) ≡ side_of x
side_times k x h = elim (signs x) [
  | inl b ↦ below_is_behind (k *ℤ x) (pos_neg k x h b) ∙ sym (below_is_behind x b)
  | inr (inl e) ↦ zero_is_on (k *ℤ x) (ap (λ (y : ℤ). k *ℤ y) e ∙ times_zero k) ∙ sym (zero_is_on x e)
  | inr (inr a) ↦ above_is_ahead (k *ℤ x) (pos_pos k x h a) ∙ sym (above_is_ahead x a)
]

-- ---- planes with one direction
past : (a b c d e x y z w : ℤ) → a *ℤ x +ℤ b *ℤ y +ℤ c *ℤ z -ℤ e *ℤ w ≡ (a *ℤ x +ℤ b *ℤ y +ℤ c *ℤ z -ℤ d *ℤ w) +ℤ w *ℤ (d -ℤ e)
past a b c d e x y z w =
    let high = plus (plus (times (var 0) (var 5)) (times (var 1) (var 6))) (times (var 2) (var 7)) in
    ring (a ∷ b ∷ c ∷ d ∷ e ∷ x ∷ y ∷ z ∷ w ∷ [])
    (minus high (times (var 4) (var 8)))
    (plus (minus high (times (var 3) (var 8))) (times (var 8) (minus (var 3) (var 4)))) refl

pub same_direction : (p m : Coefficients) → p.a ≡ m.a → p.b ≡ m.b → p.c ≡ m.c → HasAllOn p m (side_past p.d m.d)
same_direction p m ea eb ec v h e =
    let here : value m v ≡ value (record { a = p.a; b = p.b; c = p.c; d = m.d }) v = omega (arith, sums, ap (λ (k : ℤ). k *ℤ v.x) ea, ap (λ (k : ℤ). k *ℤ v.y) eb, ap (λ (k : ℤ). k *ℤ v.z) ec) in
    sym (ap side_of (here ∙ past p.a p.b p.c p.d m.d v.x v.y v.z v.w ∙ ap (λ (k : ℤ). k +ℤ v.w *ℤ (p.d -ℤ m.d)) e ∙ omega (arith, sums))
    ∙ side_times v.w (p.d -ℤ m.d) h)

-- a plane has the points of its opposite
opposite_zero : (x : ℤ) → neg_ℤ x ≡ pos 0 → x ≡ pos 0
opposite_zero x e = omega (arith, sums)

pub same_points : (p : Coefficients) (v : Coordinates) → value (opposite_of p) v ≡ pos 0 → value p v ≡ pos 0
same_points p v e = opposite_zero (value p v) (sym (value-opposite p v) ∙ e)

-- the side at a point of the parallel plane
pub all_on_at : (p m : Coefficients) (side : Option Side) (v : Coordinates) → pos 0 <ℤ v.w → value p v ≡ pos 0 → IfSome side (HasAllOn p m) → IfSome side (λ s. s ≡ side_of (value m v))
all_on_at p m None v w on h = tt
all_on_at p m (Some side) v w on h = h v w on
