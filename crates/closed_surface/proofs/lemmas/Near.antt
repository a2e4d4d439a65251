-- A point near by keeps the side of each plane that it isn't on.
use Rattle.std.proofs.Common.{◌≡◌, ◌⊎◌, inl, inr, ℕ, suc, ◌≤◌, [], ◌∷◌, refl, sym, ap, ◌∙◌, subst, arith, ℤ, pos, ◌+ℤ◌, ◌*ℤ◌, ◌<ℤ◌, unsigned_abs}
use Rattle.std.proofs.Math.IntN.{*ℤ-zero}
use Rattle.plane_predicate.specs.Space.{Coefficients, Coordinates, value}
use Rattle.plane_predicate.proofs.lemmas.IntegerRing.{sums}
use Rattle.plane_predicate.proofs.lemmas.Polynomials.{var, plus, times, ring}
use Rattle.plane_predicate.proofs.lemmas.Vectors.{form, place, of_plane, of_point, valueP, minorP, determinantP}
use Rattle.plane_predicate.proofs.lemmas.Signs.{signs, pos_pos}
use Rattle.bsp_tree.proofs.lemmas.Openness.{more_below, more_above}
use Rattle.closed_surface.specs.Ways.{Direction, slope}
use Rattle.closed_surface.specs.Around.{triple_product_of}
use Rattle.closed_surface.proofs.lemmas.Numbers.{not_zero_below, not_zero_above, not_both}
use Rattle.closed_surface.specs.Near.{near_point, direction_beside}

pub value_near : (m : Coefficients) (number : ℕ) (q : Coordinates) (v : Direction) → value m (near_point number q v) ≡ pos (suc number) *ℤ value m q +ℤ slope m v
value_near m number q v =
    let M = form 0 in let Q = place 4 in
    ring (of_plane m (of_point q (v.x ∷ v.y ∷ v.z ∷ pos (suc number) ∷ [])))
    (valueP M (record { x = plus (times (var 11) Q.x) (var 8); y = plus (times (var 11) Q.y) (var 9); z = plus (times (var 11) Q.z) (var 10); w = times (var 11) Q.w }))
    (plus (times (var 11) (valueP M Q)) (plus (plus (times M.a (var 8)) (times M.b (var 9))) (times M.c (var 10)))) refl

pub slope_beside : (m half : Coefficients) (v : Direction) → slope m (direction_beside half v) ≡ triple_product_of v m half
slope_beside m half v =
    let M = form 0 in let H = form 4 in
    ring (of_plane m (of_plane half (v.x ∷ v.y ∷ v.z ∷ [])))
    (plus (plus (times M.a (minorP H.b H.c (var 9) (var 10))) (times M.b (minorP H.c H.a (var 10) (var 8)))) (times M.c (minorP H.a H.b (var 8) (var 9))))
    (determinantP M.a M.b M.c H.a H.b H.c (var 8) (var 9) (var 10)) refl

pub near_weight : (number : ℕ) (q : Coordinates) (v : Direction) → pos 0 <ℤ q.w → pos 0 <ℤ (near_point number q v).w
near_weight number q v h = pos_pos (pos (suc number)) q.w (omega (arith, sums)) h

pub near_on : (m : Coefficients) (number : ℕ) (q : Coordinates) (v : Direction) → value m q ≡ pos 0 → value m (near_point number q v) ≡ slope m v
near_on m number q v e =
    value_near m number q v ∙ ap (λ (x : ℤ). pos (suc number) *ℤ x +ℤ slope m v) e ∙ omega (arith, sums, *ℤ-zero (pos (suc number)))

pub near_behind : (m : Coefficients) (number : ℕ) (q : Coordinates) (v : Direction) → unsigned_abs (slope m v) ≤ number → value m q <ℤ pos 0 → value m (near_point number q v) <ℤ pos 0
near_behind m number q v b h = subst (λ (x : ℤ). x <ℤ pos 0) (sym (value_near m number q v)) (more_below number (value m q) (slope m v) h b)

pub near_ahead : (m : Coefficients) (number : ℕ) (q : Coordinates) (v : Direction) → unsigned_abs (slope m v) ≤ number → pos 0 <ℤ value m q → pos 0 <ℤ value m (near_point number q v)
near_ahead m number q v b h = subst (λ (x : ℤ). pos 0 <ℤ x) (sym (value_near m number q v)) (more_above number (value m q) (slope m v) h b)

-- ---- back from the point near by
pub zero_near : (m : Coefficients) (number : ℕ) (q : Coordinates) (v : Direction) → unsigned_abs (slope m v) ≤ number → value m (near_point number q v) ≡ pos 0 → value m q ≡ pos 0
zero_near m number q v b e = elim (signs (value m q)) [
  | inl h ↦ absurd (not_zero_below _ (near_behind m number q v b h) e)
  | inr (inl h) ↦ h
  | inr (inr h) ↦ absurd (not_zero_above _ (near_ahead m number q v b h) e)
]

pub behind_near : (m : Coefficients) (number : ℕ) (q : Coordinates) (v : Direction) → unsigned_abs (slope m v) ≤ number → value m (near_point number q v) <ℤ pos 0 → (value m q <ℤ pos 0) ⊎ (value m q ≡ pos 0)
behind_near m number q v b e = elim (signs (value m q)) [
  | inl h ↦ inl h
  | inr (inl h) ↦ inr h
  | inr (inr h) ↦ absurd (not_both _ (near_ahead m number q v b h) e)
]
