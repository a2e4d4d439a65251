-- Turns of ways against edges, and heights over faces, by the volumes of four points.
use Rattle.std.proofs.Common.{◌≡◌, [], ◌∷◌, refl, ℤ, pos, ◌+ℤ◌, ◌-ℤ◌, ◌*ℤ◌}
use Rattle.plane_predicate.specs.declared.unit.Unit.{Unit as LengthUnit}
use Rattle.plane_predicate.specs.Space.{Coefficients, Coordinates, value, orientation_seen_from}
use Rattle.plane_predicate.specs.InUnits.{in_steps}
use Rattle.plane_predicate.specs.Units.{grid_steps_per_unit}
use Rattle.plane_predicate.proofs.lemmas.Identities.{combine, volume}
use Rattle.plane_predicate.proofs.lemmas.Polynomials.{Poly, var, num, plus, times, minus, ring}
use Rattle.plane_predicate.proofs.lemmas.Vectors.{Form, Place, form, place, of_plane, of_point, valueP, turnP, determinantP, combineP}
use Rattle.ray_crossings.specs.Crossings.{plane_facing}

abbrev facingP : Place → Place → Form
facingP p q = record {
  a = minus (times p.w q.x) (times q.w p.x);
  b = minus (times p.w q.y) (times q.w p.y);
  c = minus (times p.w q.z) (times q.w p.z);
  d = num (pos 0);
}

abbrev pub volumeP : Place → Place → Place → Place → Poly
volumeP a b p q =
    minus (plus (minus (times a.w (determinantP b.x b.y b.z p.x p.y p.z q.x q.y q.z)) (times b.w (determinantP a.x a.y a.z p.x p.y p.z q.x q.y q.z)))
    (times p.w (determinantP a.x a.y a.z b.x b.y b.z q.x q.y q.z))) (times q.w (determinantP a.x a.y a.z b.x b.y b.z p.x p.y p.z))

abbrev widenedP : Poly → Place → Place
widenedP k p = record { x = times k p.x; y = times k p.y; z = times k p.z; w = p.w }

-- ---- the orientation_seen_from of an edge about a way that passes it, and the height of a point over three corners
pub facing_turn : (a b p q : Coordinates) → orientation_seen_from (plane_facing a b) p q a ≡ a.w *ℤ volume a b p q
facing_turn a b p q =
    let A = place 0 in let B = place 4 in let P = place 8 in let Q = place 12 in
    ring (of_point a (of_point b (of_point p (of_point q [])))) (turnP (facingP A B) P Q A) (times A.w (volumeP A B P Q)) refl

pub height_volume : (x p q r : Coordinates) → orientation_seen_from (plane_facing p x) p q r ≡ pos 0 -ℤ p.w *ℤ volume x p q r
height_volume x p q r =
    let X = place 0 in let P = place 4 in let Q = place 8 in let R = place 12 in
    ring (of_point x (of_point p (of_point q (of_point r [])))) (turnP (facingP P X) P Q R) (minus (num (pos 0)) (times P.w (volumeP X P Q R))) refl

pub volume_in_steps : (unit : LengthUnit) (a b p q : Coordinates) →
    volume (in_steps unit a) (in_steps unit b) (in_steps unit p) (in_steps unit q) ≡ grid_steps_per_unit unit *ℤ (grid_steps_per_unit unit *ℤ (grid_steps_per_unit unit *ℤ volume a b p q))
volume_in_steps unit a b p q =
    let K = var 16 in let A = place 0 in let B = place 4 in let P = place 8 in let Q = place 12 in
    ring (of_point a (of_point b (of_point p (of_point q (grid_steps_per_unit unit ∷ [])))))
    (volumeP (widenedP K A) (widenedP K B) (widenedP K P) (widenedP K Q)) (times K (times K (times K (volumeP A B P Q)))) refl

-- ---- points between two others
pub value_between : (unit : LengthUnit) (m : Coefficients) (u : ℤ) (a : Coordinates) (v : ℤ) (b : Coordinates) →
    value m (in_steps unit (combine u a v b)) ≡ u *ℤ value m (in_steps unit a) +ℤ v *ℤ value m (in_steps unit b)
value_between unit m u a v b =
    let K = var 14 in let M = form 0 in let A = place 4 in let B = place 8 in let U = var 12 in let V = var 13 in
    ring (of_plane m (of_point a (of_point b (u ∷ v ∷ grid_steps_per_unit unit ∷ []))))
    (valueP M (widenedP K (combineP U A V B))) (plus (times U (valueP M (widenedP K A))) (times V (valueP M (widenedP K B)))) refl

pub turn_between : (unit : LengthUnit) (n : Coefficients) (p q : Coordinates) (u : ℤ) (a : Coordinates) (v : ℤ) (b : Coordinates) →
    orientation_seen_from n (in_steps unit p) (in_steps unit q) (in_steps unit (combine u a v b))
    ≡ u *ℤ orientation_seen_from n (in_steps unit a) (in_steps unit p) (in_steps unit q) +ℤ v *ℤ orientation_seen_from n (in_steps unit b) (in_steps unit p) (in_steps unit q)
turn_between unit n p q u a v b =
    let K = var 22 in let N = form 0 in let P = widenedP K (place 4) in let Q = widenedP K (place 8) in let A = place 12 in let B = place 16 in let U = var 20 in let V = var 21 in
    ring (of_plane n (of_point p (of_point q (of_point a (of_point b (u ∷ v ∷ grid_steps_per_unit unit ∷ []))))))
    (turnP N P Q (widenedP K (combineP U A V B))) (plus (times U (turnP N (widenedP K A) P Q)) (times V (turnP N (widenedP K B) P Q))) refl

-- ---- parts of a way
pub height_between : (p q r : Coordinates) (u : ℤ) (a : Coordinates) (v : ℤ) (b : Coordinates) →
    orientation_seen_from (plane_facing p (combine u a v b)) p q r ≡ u *ℤ orientation_seen_from (plane_facing p a) p q r +ℤ v *ℤ orientation_seen_from (plane_facing p b) p q r
height_between p q r u a v b =
    let P = place 0 in let Q = place 4 in let R = place 8 in let A = place 12 in let B = place 16 in let U = var 20 in let V = var 21 in
    ring (of_point p (of_point q (of_point r (of_point a (of_point b (u ∷ v ∷ []))))))
    (turnP (facingP P (combineP U A V B)) P Q R) (plus (times U (turnP (facingP P A) P Q R)) (times V (turnP (facingP P B) P Q R))) refl

-- the way from a on to a point between a and b
pub first_part : (p q : Coordinates) (u : ℤ) (a : Coordinates) (v : ℤ) (b : Coordinates) → volume a (combine u a v b) p q ≡ v *ℤ volume a b p q
first_part p q u a v b =
    let P = place 0 in let Q = place 4 in let A = place 8 in let B = place 12 in let U = var 16 in let V = var 17 in
    ring (of_point p (of_point q (of_point a (of_point b (u ∷ v ∷ []))))) (volumeP A (combineP U A V B) P Q) (times V (volumeP A B P Q)) refl

-- the way from there to b
pub second_part : (p q : Coordinates) (u : ℤ) (a : Coordinates) (v : ℤ) (b : Coordinates) → volume (combine u a v b) b p q ≡ u *ℤ volume a b p q
second_part p q u a v b =
    let P = place 0 in let Q = place 4 in let A = place 8 in let B = place 12 in let U = var 16 in let V = var 17 in
    ring (of_point p (of_point q (of_point a (of_point b (u ∷ v ∷ []))))) (volumeP (combineP U A V B) B P Q) (times U (volumeP A B P Q)) refl
