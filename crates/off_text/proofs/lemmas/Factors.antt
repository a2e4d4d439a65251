-- The common factor of four numbers, and points without one.
use Rattle.std.proofs.Common.{◌≡◌, ℕ, ◌<◌, subst, arith, ℤ, pos, negsuc, ◌*ℤ◌, ◌<ℤ◌, unsigned_abs}
use Rattle.std.proofs.Math.Nat.{eq-one_of_dvd-one}
use Rattle.std.proofs.lemmas.Nat.Gcd.{dvd_trans}
use Rattle.std.specs.Int.{IsGcd}
use Rattle.plane_predicate.specs.Space.{Coordinates, IsCommonFactor, IsPoint, IsPointTimes, HasNoCommonFactor}
use Rattle.plane_predicate.proofs.lemmas.Divisions.{quotients_of, reduced_is_point, reduced_is_same, same_factor}
use Rattle.plane_predicate.proofs.lemmas.IntegerRing.{sums}
use Prim.Native.Nat.{◌∣◌}

-- a number above 0 is not 0 without its sign
pub size_above : (x : ℤ) → pos 0 <ℤ x → 0 < unsigned_abs x
size_above (pos n) h = omega (arith, sums)
size_above (negsuc n) h = absurd (omega (arith, sums))

-- one number after another, from the last one on
pub factor_of : (x y z w a b g : ℕ) → IsGcd x w a → IsGcd y a b → IsGcd z b g → IsCommonFactor x y z w g
factor_of x y z w a b g h k l =
    let with_x = dvd_trans g l.1 k.1 in
    record {
      divides_x = dvd_trans g with_x h.0;
      divides_y = dvd_trans g l.1 k.0;
      divides_z = l.0;
      divides_w = dvd_trans g with_x h.1;
      greatest = λ d hx hy hz hw. l.2 d hz (k.2 d hy (h.2 d hx hw));
    }

-- a whole point has no common factor
pub whole_is_reduced : (p : Coordinates) → p.w ≡ pos 1 → HasNoCommonFactor p
whole_is_reduced p e = record { reduced = λ k kx ky kz kw. eq-one_of_dvd-one (subst (λ (n : ℤ). k ∣ unsigned_abs n) e kw) }

-- a point divided by the common factor of its numbers
pub divided_point : (p q : Coordinates) (x y z w by : ℕ) → IsPoint p → x ≡ unsigned_abs p.x → y ≡ unsigned_abs p.y → z ≡ unsigned_abs p.z → w ≡ unsigned_abs p.w → IsCommonFactor x y z w by →
    p.x ≡ pos by *ℤ q.x → p.y ≡ pos by *ℤ q.y → p.z ≡ pos by *ℤ q.z → p.w ≡ pos by *ℤ q.w → IsPoint q × IsPointTimes p q × HasNoCommonFactor q
divided_point p q x y z w by h ux uy uz uw f ex ey ez ew =
    let d = quotients_of p.x p.y p.z p.w q.x q.y q.z q.w by (omega (arith, size_above p.w h.weight)) (same_factor x y z w _ _ _ _ by ux uy uz uw f) ex ey ez ew in
    (reduced_is_point p q h d, reduced_is_same p q d, record { reduced = d.no_factor })
