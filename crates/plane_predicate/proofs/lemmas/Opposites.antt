-- Planes and points with all signs changed.
use Rattle.std.proofs.Common.{◌≡◌, ℕ, ◌^◌, ◌<◌, ◌≤◌, refl, sym, ap, ◌∙◌, subst, arith, ℤ, pos, negsuc, zero, suc, ◌-ℤ◌, neg_ℤ, unsigned_abs, to_z, of_z, to_z-of_z, FitsSigned}
use Rattle.plane_predicate.specs.Space.{Coefficients, Coordinates, opposite_of, IsPlane}
use Rattle.plane_predicate.proofs.lemmas.IntegerRing.{sums}
use Rattle.plane_predicate.proofs.lemmas.Sizes.{fits_by_size}
use mir.Syntax.{Width}
use mir.Val.{hbits}

pub size_of_negative : (x : ℤ) → unsigned_abs (neg_ℤ x) ≡ unsigned_abs x
size_of_negative (pos zero) = refl
size_of_negative (pos (suc n)) = refl
size_of_negative (negsuc n) = refl

pub from_zero : (x : ℤ) → pos 0 -ℤ x ≡ neg_ℤ x
from_zero x = omega (arith, sums)

-- a machine's negative of a number that is not its least one
pub negated : (w : Width) (x : ℤ) → unsigned_abs x < 2 ^ hbits w → to_z w (of_z w (pos 0 -ℤ to_z w (of_z w x))) ≡ neg_ℤ x
negated w x h =
    let inner : FitsSigned w x = fits_by_size w x h in
    let fits : FitsSigned w (neg_ℤ x) = fits_by_size w (neg_ℤ x) (subst (λ (n : ℕ). n < 2 ^ hbits w) (sym (size_of_negative x)) h) in
    ap (λ (z : ℤ). to_z w (of_z w (pos 0 -ℤ z))) (to_z-of_z inner) ∙ ap (λ (z : ℤ). to_z w (of_z w z)) (from_zero x) ∙ to_z-of_z fits

pub same_plane : (a b c d e f g h : ℤ) → a ≡ e → b ≡ f → c ≡ g → d ≡ h → let m : Coefficients = record { a = a; b = b; c = c; d = d } in m ≡ record { a = e; b = f; c = g; d = h }
same_plane a b c d e f g h ha hb hc hd = rw (ha, hb, hc, hd) refl

pub same_point : (a b c d e f g h : ℤ) → a ≡ e → b ≡ f → c ≡ g → d ≡ h → let m : Coordinates = record { x = a; y = b; z = c; w = d } in m ≡ record { x = e; y = f; z = g; w = h }
same_point a b c d e f g h ha hb hc hd = rw (ha, hb, hc, hd) refl

pub opposite_is_plane : (m : Coefficients) → IsPlane m → IsPlane (opposite_of m)
opposite_is_plane m h = record {
  a_size = subst (λ (n : ℕ). n ≤ 134152200) (sym (size_of_negative m.a)) h.a_size;
  b_size = subst (λ (n : ℕ). n ≤ 134152200) (sym (size_of_negative m.b)) h.b_size;
  c_size = subst (λ (n : ℕ). n ≤ 134152200) (sym (size_of_negative m.c)) h.c_size;
  d_size = subst (λ (n : ℕ). n ≤ 1648059777000) (sym (size_of_negative m.d)) h.d_size;
  directed = omega (arith, h.directed, size_of_negative m.a, size_of_negative m.b, size_of_negative m.c);
  reduced = rw (size_of_negative m.a, size_of_negative m.b, size_of_negative m.c, size_of_negative m.d) h.reduced;
}
