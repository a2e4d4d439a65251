-- Planes of small numbers, by number.
use Rattle.std.proofs.Common.{ℕ, ◌/◌, ◌≤◌, List, get_or, sym, subst, inl, inr, arith, All}
use Rattle.plane_predicate.specs.Space.{Coefficients, opposite_of}
use Rattle.plane_predicate.proofs.lemmas.Opposites.{size_of_negative}
use Rattle.plane_predicate.specs.Lines.{IsSmall}
use Rattle.plane_polygon.specs.Polygons.{missing_plane}
use Rattle.plane_table.specs.Tables.{plane_named, NamesPlaneIn}
use Rattle.plane_table.proofs.Numbers.{even, odd, parity}

small_opposite : (m : Coefficients) → IsSmall m → IsSmall (opposite_of m)
small_opposite m h = record {
  a_size = subst (λ (n : ℕ). n ≤ 100000) (sym (size_of_negative m.a)) h.a_size;
  b_size = subst (λ (n : ℕ). n ≤ 100000) (sym (size_of_negative m.b)) h.b_size;
  c_size = subst (λ (n : ℕ). n ≤ 100000) (sym (size_of_negative m.c)) h.c_size;
  d_size = subst (λ (n : ℕ). n ≤ 100000000) (sym (size_of_negative m.d)) h.d_size;
}

pub small_named : (planes : List Coefficients) (n : ℕ) → All IsSmall planes → NamesPlaneIn planes n → IsSmall (plane_named planes n)
small_named planes n h l =
    let m = get_or planes (n / 2) missing_plane in
    let own : IsSmall m = h (n / 2) missing_plane (omega arith) in
    elim (parity n) [
      | inl e ↦ subst IsSmall (sym (even n e m)) own
      | inr e ↦ subst IsSmall (sym (odd n e m)) (small_opposite m own)
    ]
