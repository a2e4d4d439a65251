-- Points in units and in grid steps.
use Rattle.std.proofs.Common.{◌≡◌, [], ◌∷◌, refl, arith, ℤ, pos, ◌+ℤ◌, ◌-ℤ◌, ◌*ℤ◌, ◌<ℤ◌}
use Rattle.plane_predicate.specs.declared.unit.Unit.{Unit as LengthUnit}
use Rattle.plane_predicate.specs.declared.unit.Unit.TheVariants.{Whole, Half}
use Rattle.plane_predicate.specs.Space.{Coefficients, Coordinates, value, orientation_seen_from, IsPointTimes}
use Rattle.plane_predicate.specs.InUnits.{in_steps, in_units}
use Rattle.plane_predicate.specs.Units.{grid_steps_per_unit}
use Rattle.plane_predicate.proofs.lemmas.IntegerRing.{sums, one_mul}
use Rattle.plane_predicate.proofs.lemmas.Opposites.{same_point}
use Rattle.plane_predicate.proofs.lemmas.Polynomials.{Poly, var, plus, times, minus, ring}
use Rattle.plane_predicate.proofs.lemmas.Vectors.{Place, form, place, of_plane, of_point, valueP, turnP}

pub steps_above : (unit : LengthUnit) → pos 0 <ℤ grid_steps_per_unit unit
steps_above Whole = omega (arith, sums)
steps_above Half = omega (arith, sums)

pub back_in_steps : (unit : LengthUnit) (p : Coordinates) → IsPointTimes (in_steps unit (in_units unit p)) p
back_in_steps unit p =
    record { by = grid_steps_per_unit unit; above = steps_above unit; x = refl; y = refl; z = refl; w = refl }

pub back_in_units : (unit : LengthUnit) (p : Coordinates) → IsPointTimes (in_units unit (in_steps unit p)) p
back_in_units unit p =
    record { by = grid_steps_per_unit unit; above = steps_above unit; x = refl; y = refl; z = refl; w = refl }

-- the point with its first three parts multiplied
abbrev widened : ℤ → Coordinates → Coordinates
widened k p = record { x = k *ℤ p.x; y = k *ℤ p.y; z = k *ℤ p.z; w = p.w }

abbrev widenedP : Poly → Place → Place
widenedP k p = record { x = times k p.x; y = times k p.y; z = times k p.z; w = p.w }

value_widened : (k : ℤ) (m : Coefficients) (p : Coordinates) →
    value m (widened k p) ≡ k *ℤ (m.a *ℤ p.x +ℤ m.b *ℤ p.y +ℤ m.c *ℤ p.z) -ℤ m.d *ℤ p.w
value_widened k m p =
    let M = form 0 in let P = place 4 in
    ring (of_plane m (of_point p (k ∷ []))) (valueP M (widenedP (var 8) P))
    (minus (times (var 8) (plus (plus (times M.a P.x) (times M.b P.y)) (times M.c P.z))) (times M.d P.w)) refl

turn_widened : (k : ℤ) (n : Coefficients) (p q r : Coordinates) →
    orientation_seen_from n (widened k p) (widened k q) (widened k r) ≡ k *ℤ k *ℤ orientation_seen_from n p q r
turn_widened k n p q r =
    let K = var 16 in let P = place 4 in let Q = place 8 in let R = place 12 in
    ring (of_plane n (of_point p (of_point q (of_point r (k ∷ [])))))
    (turnP (form 0) (widenedP K P) (widenedP K Q) (widenedP K R)) (times (times K K) (turnP (form 0) P Q R)) refl

pub value_in_steps : (unit : LengthUnit) (m : Coefficients) (p : Coordinates) →
    value m (in_steps unit p) ≡ grid_steps_per_unit unit *ℤ (m.a *ℤ p.x +ℤ m.b *ℤ p.y +ℤ m.c *ℤ p.z) -ℤ m.d *ℤ p.w
value_in_steps unit m p = value_widened (grid_steps_per_unit unit) m p

pub turn_in_steps : (unit : LengthUnit) (n : Coefficients) (p q r : Coordinates) →
    orientation_seen_from n (in_steps unit p) (in_steps unit q) (in_steps unit r) ≡ grid_steps_per_unit unit *ℤ grid_steps_per_unit unit *ℤ orientation_seen_from n p q r
turn_in_steps unit n p q r = turn_widened (grid_steps_per_unit unit) n p q r

pub whole_units : (p : Coordinates) → in_units Whole p ≡ p
whole_units p = same_point p.x p.y p.z (pos 1 *ℤ p.w) p.x p.y p.z p.w refl refl refl (one_mul p.w)

pub whole_steps : (p : Coordinates) → in_steps Whole p ≡ p
whole_steps p =
    same_point (pos 1 *ℤ p.x) (pos 1 *ℤ p.y) (pos 1 *ℤ p.z) p.w p.x p.y p.z p.w (one_mul p.x) (one_mul p.y)
    (one_mul p.z) refl
