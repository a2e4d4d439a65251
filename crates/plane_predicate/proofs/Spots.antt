-- Points of the line in which two planes meet.
use Rattle.std.proofs.Common.{◌≡◌, ◌≢◌, zero, suc, [], refl, sym, ap, ◌∙◌, arith, ℤ, pos, negsuc, ◌<ℤ◌, subst}
use Rattle.plane_predicate.specs.Space.{Coefficients, Coordinates, minor, with_weight_above_zero, value}
use Rattle.plane_predicate.specs.Sides.{value_signed_by}
use Rattle.plane_predicate.proofs.lemmas.IntegerRing.{sums}
use Rattle.plane_predicate.proofs.Meetings.{value_signed}
use Rattle.plane_predicate.proofs.lemmas.Opposites.{same_point}
use Rattle.plane_predicate.proofs.lemmas.Polynomials.{num, ring}
use Rattle.plane_predicate.proofs.lemmas.Vectors.{Place, form, of_plane, minorP, valueP}
use Rattle.plane_predicate.specs.Lines.{IsOnBoth}

-- ---- the point with its w above 0
signed_above : (w : ℤ) (v : Coordinates) → w ≢ pos 0 → v.w ≡ w → pos 0 <ℤ (with_weight_above_zero w v).w
signed_above (pos zero) v h e = absurd (h refl)
signed_above (pos (suc n)) v h e = omega (arith, sums, e)
signed_above (negsuc n) v h e = omega (arith, sums, e)

turned_zero : (w v : ℤ) → v ≡ pos 0 → value_signed_by w v ≡ pos 0
turned_zero (pos n) v h = h
turned_zero (negsuc n) v h = rw h refl

pub signed_on : (p m : Coefficients) (w : ℤ) (v : Coordinates) → w ≢ pos 0 → v.w ≡ w → value p v ≡ pos 0 → value m v ≡ pos 0 → IsOnBoth p m (with_weight_above_zero w v)
signed_on p m w v h e f g = record {
  weight = signed_above w v h e;
  first = value_signed w p v ∙ turned_zero w (value p v) f;
  second = value_signed w m v ∙ turned_zero w (value m v) g;
}

-- ---- the three planes x = 0, y = 0 and z = 0
abbrev pub on_no_x : Coefficients → Coefficients → Coordinates
on_no_x p m = record { x = pos 0; y = minor p.d p.c m.d m.c; z = minor m.d m.b p.d p.b; w = minor p.b p.c m.b m.c }

abbrev pub on_no_y : Coefficients → Coefficients → Coordinates
on_no_y p m = record { x = minor m.d m.c p.d p.c; y = pos 0; z = minor p.d p.a m.d m.a; w = minor p.c p.a m.c m.a }

abbrev pub on_no_z : Coefficients → Coefficients → Coordinates
on_no_z p m = record { x = minor p.d p.b m.d m.b; y = minor m.d m.a p.d p.a; z = pos 0; w = minor p.a p.b m.a m.b }

abbrev no_x : Place
no_x = let P = form 0 in let M = form 4 in record { x = num (pos 0); y = minorP P.d P.c M.d M.c; z = minorP M.d M.b P.d P.b; w = minorP P.b P.c M.b M.c }

abbrev no_y : Place
no_y = let P = form 0 in let M = form 4 in record { x = minorP M.d M.c P.d P.c; y = num (pos 0); z = minorP P.d P.a M.d M.a; w = minorP P.c P.a M.c M.a }

abbrev no_z : Place
no_z = let P = form 0 in let M = form 4 in record { x = minorP P.d P.b M.d M.b; y = minorP M.d M.a P.d P.a; z = num (pos 0); w = minorP P.a P.b M.a M.b }

pub no_x_first : (p m : Coefficients) → value p (on_no_x p m) ≡ pos 0
no_x_first p m = ring (of_plane p (of_plane m [])) (valueP (form 0) no_x) (num (pos 0)) refl

pub no_x_second : (p m : Coefficients) → value m (on_no_x p m) ≡ pos 0
no_x_second p m = ring (of_plane p (of_plane m [])) (valueP (form 4) no_x) (num (pos 0)) refl

pub no_y_first : (p m : Coefficients) → value p (on_no_y p m) ≡ pos 0
no_y_first p m = ring (of_plane p (of_plane m [])) (valueP (form 0) no_y) (num (pos 0)) refl

pub no_y_second : (p m : Coefficients) → value m (on_no_y p m) ≡ pos 0
no_y_second p m = ring (of_plane p (of_plane m [])) (valueP (form 4) no_y) (num (pos 0)) refl

pub no_z_first : (p m : Coefficients) → value p (on_no_z p m) ≡ pos 0
no_z_first p m = ring (of_plane p (of_plane m [])) (valueP (form 0) no_z) (num (pos 0)) refl

pub no_z_second : (p m : Coefficients) → value m (on_no_z p m) ≡ pos 0
no_z_second p m = ring (of_plane p (of_plane m [])) (valueP (form 4) no_z) (num (pos 0)) refl

-- ---- the point with its w above 0, by its numbers
pub over_x : (p m : Coefficients) (y z w : ℤ) (v : Coordinates) → y ≡ minor p.d p.c m.d m.c → z ≡ minor m.d m.b p.d p.b → w ≡ minor p.b p.c m.b m.c → w ≢ pos 0 →
    v ≡ with_weight_above_zero w (record { x = pos 0; y = y; z = z; w = w }) → IsOnBoth p m v
over_x p m y z w v hy hz hw h e =
    let s : Coordinates = record { x = pos 0; y = y; z = z; w = w } in
    let is : s ≡ on_no_x p m = same_point _ _ _ _ _ _ _ _ refl hy hz hw in
    subst (IsOnBoth p m) (sym e) (signed_on p m w s h refl (ap (value p) is ∙ no_x_first p m) (ap (value m) is ∙ no_x_second p m))

pub over_y : (p m : Coefficients) (x z w : ℤ) (v : Coordinates) → x ≡ minor m.d m.c p.d p.c → z ≡ minor p.d p.a m.d m.a → w ≡ minor p.c p.a m.c m.a → w ≢ pos 0 →
    v ≡ with_weight_above_zero w (record { x = x; y = pos 0; z = z; w = w }) → IsOnBoth p m v
over_y p m x z w v hx hz hw h e =
    let s : Coordinates = record { x = x; y = pos 0; z = z; w = w } in
    let is : s ≡ on_no_y p m = same_point _ _ _ _ _ _ _ _ hx refl hz hw in
    subst (IsOnBoth p m) (sym e) (signed_on p m w s h refl (ap (value p) is ∙ no_y_first p m) (ap (value m) is ∙ no_y_second p m))

pub over_z : (p m : Coefficients) (x y w : ℤ) (v : Coordinates) → x ≡ minor p.d p.b m.d m.b → y ≡ minor m.d m.a p.d p.a → w ≡ minor p.a p.b m.a m.b → w ≢ pos 0 →
    v ≡ with_weight_above_zero w (record { x = x; y = y; z = pos 0; w = w }) → IsOnBoth p m v
over_z p m x y w v hx hy hw h e =
    let s : Coordinates = record { x = x; y = y; z = pos 0; w = w } in
    let is : s ≡ on_no_z p m = same_point _ _ _ _ _ _ _ _ hx hy refl hw in
    subst (IsOnBoth p m) (sym e) (signed_on p m w s h refl (ap (value p) is ∙ no_z_first p m) (ap (value m) is ∙ no_z_second p m))
