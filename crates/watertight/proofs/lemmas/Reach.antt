-- Points within reach, by six planes.
use Rattle.std.proofs.Common.{◌≡◌, inl, inr, ◌*◌, ◌≤◌, Bool, true, false, not, ◌&&◌, ◌||◌, [], ◌∷◌, refl, sym, subst, arith, ℤ, pos, negsuc, ◌-ℤ◌, ◌*ℤ◌, ◌<ℤ◌, ◌≤ℤ◌, unsigned_abs, List, true≢false}
use Rattle.plane_predicate.specs.Space.{Coefficients, Coordinates, value, IsInReach}
use Rattle.plane_predicate.proofs.lemmas.IntegerRing.{sums}
use Rattle.plane_predicate.proofs.lemmas.Polynomials.{var, num, times, minus, ring}
use Rattle.plane_predicate.proofs.lemmas.Vectors.{Form, place, of_point, valueP}
use Rattle.bsp_tree.specs.Cells.{NoneAhead}

-- ---- the six sides of the reach
abbrev side : ℤ → ℤ → ℤ → Coefficients
side a b c = record { a = a; b = b; c = c; d = pos 4095 }

abbrev sideP : ℤ → ℤ → ℤ → Form
sideP a b c = record { a = num a; b = num b; c = num c; d = num (pos 4095) }

abbrev pub reach_sides : List Coefficients
reach_sides =
    side (pos 1) (pos 0) (pos 0) ∷ side (negsuc 0) (pos 0) (pos 0) ∷ side (pos 0) (pos 1) (pos 0)
    ∷ side (pos 0) (negsuc 0) (pos 0) ∷ side (pos 0) (pos 0) (pos 1) ∷ side (pos 0) (pos 0) (negsuc 0) ∷ []

value_high_x : (p : Coordinates) → value (side (pos 1) (pos 0) (pos 0)) p ≡ p.x -ℤ pos 4095 *ℤ p.w
value_high_x p = ring (of_point p []) (valueP (sideP (pos 1) (pos 0) (pos 0)) (place 0)) (minus (var 0) (times (num (pos 4095)) (var 3))) refl

value_low_x : (p : Coordinates) → value (side (negsuc 0) (pos 0) (pos 0)) p ≡ (pos 0 -ℤ p.x) -ℤ pos 4095 *ℤ p.w
value_low_x p = ring (of_point p []) (valueP (sideP (negsuc 0) (pos 0) (pos 0)) (place 0)) (minus (minus (num (pos 0)) (var 0)) (times (num (pos 4095)) (var 3))) refl

value_high_y : (p : Coordinates) → value (side (pos 0) (pos 1) (pos 0)) p ≡ p.y -ℤ pos 4095 *ℤ p.w
value_high_y p = ring (of_point p []) (valueP (sideP (pos 0) (pos 1) (pos 0)) (place 0)) (minus (var 1) (times (num (pos 4095)) (var 3))) refl

value_low_y : (p : Coordinates) → value (side (pos 0) (negsuc 0) (pos 0)) p ≡ (pos 0 -ℤ p.y) -ℤ pos 4095 *ℤ p.w
value_low_y p = ring (of_point p []) (valueP (sideP (pos 0) (negsuc 0) (pos 0)) (place 0)) (minus (minus (num (pos 0)) (var 1)) (times (num (pos 4095)) (var 3))) refl

value_high_z : (p : Coordinates) → value (side (pos 0) (pos 0) (pos 1)) p ≡ p.z -ℤ pos 4095 *ℤ p.w
value_high_z p = ring (of_point p []) (valueP (sideP (pos 0) (pos 0) (pos 1)) (place 0)) (minus (var 2) (times (num (pos 4095)) (var 3))) refl

value_low_z : (p : Coordinates) → value (side (pos 0) (pos 0) (negsuc 0)) p ≡ (pos 0 -ℤ p.z) -ℤ pos 4095 *ℤ p.w
value_low_z p = ring (of_point p []) (valueP (sideP (pos 0) (pos 0) (negsuc 0)) (place 0)) (minus (minus (num (pos 0)) (var 2)) (times (num (pos 4095)) (var 3))) refl

-- a number against 4095 w, w above 0
size_of_sides : (x w h l : ℤ) → pos 0 <ℤ w → h ≡ x -ℤ pos 4095 *ℤ w → l ≡ (pos 0 -ℤ x) -ℤ pos 4095 *ℤ w → h ≤ℤ pos 0 → l ≤ℤ pos 0 → unsigned_abs x ≤ 4095 * unsigned_abs w
size_of_sides (pos n) (pos k) h l above eh el hh hl = omega (arith, sums)
size_of_sides (negsuc n) (pos k) h l above eh el hh hl = omega (arith, sums)
size_of_sides x (negsuc k) h l above eh el hh hl = absurd (omega (arith, sums))

sides_of_size : (x w h l : ℤ) → pos 0 <ℤ w → h ≡ x -ℤ pos 4095 *ℤ w → l ≡ (pos 0 -ℤ x) -ℤ pos 4095 *ℤ w → unsigned_abs x ≤ 4095 * unsigned_abs w → (h ≤ℤ pos 0) × (l ≤ℤ pos 0)
sides_of_size (pos n) (pos k) h l above eh el s = (omega (arith, sums), omega (arith, sums))
sides_of_size (negsuc n) (pos k) h l above eh el s = (omega (arith, sums), omega (arith, sums))
sides_of_size x (negsuc k) h l above eh el s = absurd (omega (arith, sums))

pub reach_by_sides : (p : Coordinates) → pos 0 <ℤ p.w → NoneAhead reach_sides p → IsInReach p
reach_by_sides p w h = record {
  weight = w;
  x_size = size_of_sides p.x p.w _ _ w (value_high_x p) (value_low_x p) h.0 h.1.0;
  y_size = size_of_sides p.y p.w _ _ w (value_high_y p) (value_low_y p) h.1.1.0 h.1.1.1.0;
  z_size = size_of_sides p.z p.w _ _ w (value_high_z p) (value_low_z p) h.1.1.1.1.0 h.1.1.1.1.1.0;
}

pub sides_by_reach : (p : Coordinates) → IsInReach p → NoneAhead reach_sides p
sides_by_reach p h =
    let x = sides_of_size p.x p.w _ _ h.weight (value_high_x p) (value_low_x p) h.x_size in
    let y = sides_of_size p.y p.w _ _ h.weight (value_high_y p) (value_low_y p) h.y_size in
    let z = sides_of_size p.z p.w _ _ h.weight (value_high_z p) (value_low_z p) h.z_size in
    (x.0, (x.1, (y.0, (y.1, (z.0, (z.1, tt))))))
