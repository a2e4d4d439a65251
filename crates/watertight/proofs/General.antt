-- A direction along a plane that no other plane through a point holds.
use Rattle.std.proofs.Common.{◌≡◌, ◌≢◌, ◌⊎◌, inl, inr, ℕ, zero, suc, ◌+◌, ◌≤◌, Bool, true, false, List, [], ◌∷◌, refl, sym, ap, ◌∙◌, subst, true≢false, arith, ℤ, pos, ◌+ℤ◌, ◌-ℤ◌, ◌*ℤ◌, ◌<ℤ◌, unsigned_abs}
use Rattle.std.proofs.Math.IntN.{*ℤ-zero}
use Rattle.plane_predicate.specs.Space.{Coefficients, Coordinates, value, opposite_of, IsPlane, HasItsPointsOn}
use Rattle.plane_predicate.proofs.lemmas.IntegerRing.{sums}
use Rattle.plane_predicate.proofs.lemmas.Polynomials.{var, plus, times, num, ring}
use Rattle.plane_predicate.proofs.lemmas.Vectors.{form, of_plane, determinantP}
use Rattle.plane_predicate.proofs.lemmas.Signs.{signs, zero_cancel}
use Rattle.plane_predicate.proofs.lemmas.SamePlanes.{directed_above, equal_or_opposite}
use Rattle.bsp_tree.proofs.lemmas.Openness.{more_below, more_above}
use Rattle.closed_surface.specs.Ways.{Direction, displacement, dot_product, slope, line_of}
use Rattle.closed_surface.specs.Around.{triple_product_of}
use Rattle.closed_surface.specs.Near.{direction_beside}
use Rattle.closed_surface.proofs.lemmas.Near.{slope_beside}
use Rattle.closed_surface.proofs.lemmas.Numbers.{not_zero_below, not_zero_above}
use Rattle.closed_surface.proofs.lemmas.Parallels.{IsZero, along_dot, line_turn, slope_way, zero_by_length}
use Rattle.closed_surface.proofs.lemmas.Lines.{IsEither, is_either, either_parts, either_is}
use Rattle.closed_surface.proofs.lemmas.Each.{Each, each_weaker, each_both}

-- ---- two planes through a point whose line has no direction have the same points
pub minus_zero : (u x w y : ℤ) → x ≡ pos 0 → y ≡ pos 0 → u *ℤ x -ℤ w *ℤ y ≡ pos 0
minus_zero u x w y hx hy = rw (hx, hy, *ℤ-zero u, *ℤ-zero w) refl

only_first : (u x w y : ℤ) → u *ℤ x -ℤ w *ℤ y ≡ pos 0 → y ≡ pos 0 → u *ℤ x ≡ pos 0
only_first u x w y h e = omega (arith, sums, ap (λ (z : ℤ). w *ℤ z) e ∙ *ℤ-zero w)

same_points : (q : Coordinates) → pos 0 <ℤ q.w → (m n : Coefficients) → IsPlane m → value m q ≡ pos 0 → value n q ≡ pos 0 → IsZero (line_of m n) → HasItsPointsOn m n
same_points q hw m n plane hm hn z = record {
  points = λ p pw e.
      let a : Direction = record { x = m.a; y = m.b; z = m.c } in
      let b : Direction = record { x = n.a; y = n.b; z = n.c } in
      let u = displacement q p in
      let flat : slope m u ≡ pos 0 = slope_way m q p ∙ minus_zero q.w (value m p) p.w (value m q) e hm in
      let same : slope n u ≡ pos 0 = zero_cancel (dot_product a a) (dot_product b u) (directed_above m plane.directed) (along_dot a b u z ∙ ap (λ (x : ℤ). dot_product a b *ℤ x) flat ∙ *ℤ-zero (dot_product a b)) in
      zero_cancel q.w (value n p) hw (only_first q.w (value n p) p.w (value n q) (sym (slope_way n q p) ∙ same) hn);
}

-- ---- sums of directions
-- v many times, and w once
abbrev mixed : ℕ → Direction → Direction → Direction
mixed number v w = record { x = pos (suc number) *ℤ v.x +ℤ w.x; y = pos (suc number) *ℤ v.y +ℤ w.y; z = pos (suc number) *ℤ v.z +ℤ w.z }

slope_mixed : (m : Coefficients) (number : ℕ) (v w : Direction) → slope m (mixed number v w) ≡ pos (suc number) *ℤ slope m v +ℤ slope m w
slope_mixed m number v w =
    let M = form 0 in
    ring (of_plane m (v.x ∷ v.y ∷ v.z ∷ w.x ∷ w.y ∷ w.z ∷ pos (suc number) ∷ []))
    (plus (plus (times M.a (plus (times (var 10) (var 4)) (var 7))) (times M.b (plus (times (var 10) (var 5)) (var 8)))) (times M.c (plus (times (var 10) (var 6)) (var 9))))
    (plus (times (var 10) (plus (plus (times M.a (var 4)) (times M.b (var 5))) (times M.c (var 6)))) (plus (plus (times M.a (var 7)) (times M.b (var 8))) (times M.c (var 9)))) refl

only_second : (k : ℤ) (x y : ℤ) → x ≡ pos 0 → k *ℤ x +ℤ y ≡ y
only_second k x y e = ap (λ (z : ℤ). k *ℤ z +ℤ y) e ∙ omega (arith, sums, *ℤ-zero k)

mixed_flat : (m : Coefficients) (number : ℕ) (v w : Direction) → slope m v ≡ pos 0 → slope m (mixed number v w) ≡ slope m w
mixed_flat m number v w e = slope_mixed m number v w ∙ only_second (pos (suc number)) (slope m v) (slope m w) e

mixed_apart : (m : Coefficients) (number : ℕ) (v w : Direction) → unsigned_abs (slope m w) ≤ number → slope m v ≢ pos 0 → slope m (mixed number v w) ≢ pos 0
mixed_apart m number v w b h e = elim (signs (slope m v)) [
  | inl k ↦ not_zero_below _ (more_below number (slope m v) (slope m w) k b) (sym (slope_mixed m number v w) ∙ e)
  | inr (inl k) ↦ h k
  | inr (inr k) ↦ not_zero_above _ (more_above number (slope m v) (slope m w) k b) (sym (slope_mixed m number v w) ∙ e)
]

-- ---- numbers that are large enough
abbrev pub all_slopes : List Coefficients → Direction → ℕ
all_slopes [] u = 0
all_slopes (m ∷ ms) u = unsigned_abs (slope m u) + all_slopes ms u

pub each_slope : (ms : List Coefficients) (u : Direction) (number : ℕ) → all_slopes ms u ≤ number → Each (λ m. unsigned_abs (slope m u) ≤ number) ms
each_slope [] u number h = tt
each_slope (m ∷ ms) u number h = (omega arith, each_slope ms u number (omega arith))

pub least_itself : (n : ℕ) → n ≤ n
least_itself n = omega arith

-- ---- the direction that is at right angles to the line of two planes, in one of them
abbrev across : Coefficients → Coefficients → Direction
across n m = direction_beside n (line_of m n)

own_turn : (n : Coefficients) (v : Direction) → triple_product_of v n n ≡ pos 0
own_turn n v =
    let N = form 0 in
    ring (of_plane n (v.x ∷ v.y ∷ v.z ∷ [])) (determinantP N.a N.b N.c N.a N.b N.c (var 4) (var 5) (var 6)) (num (pos 0)) refl

across_flat : (n m : Coefficients) → slope n (across n m) ≡ pos 0
across_flat n m = slope_beside n n (line_of m n) ∙ own_turn n (line_of m n)

across_length : (n m : Coefficients) → slope m (across n m) ≡ dot_product (line_of m n) (line_of m n)
across_length n m = slope_beside m n (line_of m n) ∙ sym (line_turn m n (line_of m n))

module _ (q : Coordinates) (hw : pos 0 <ℤ q.w) (n : Coefficients) (plane : IsPlane n) (on : value n q ≡ pos 0) where
  across_apart : (m : Coefficients) → IsPlane m → value m q ≡ pos 0 → (IsEither m n → ⊥) → slope m (across n m) ≢ pos 0
  across_apart m hm e other z =
      other (equal_or_opposite m n hm plane (same_points q hw m n hm e on (zero_by_length (line_of m n) (sym (across_length n m) ∙ z))))

  -- the point is off the plane, or the plane is n or its opposite, or the direction leaves it
  abbrev pub Clears : Direction → Coefficients → Type 0
  Clears v m = (value m q ≢ pos 0) ⊎ (IsEither m n ⊎ (slope m v ≢ pos 0))

  -- a direction along n that leaves all other planes through the point
  pub record General (ms : List Coefficients) : Type 0 where
    pub v : Direction
    pub flat : slope n v ≡ pos 0
    pub clear : Each (Clears v) ms

  kept : (m : Coefficients) (ms : List Coefficients) (g : General ms) → Clears g.v m → General (m ∷ ms)
  kept m ms g c = record { v = g.v; flat = g.flat; clear = (c, g.clear) }

  still_clear : (number : ℕ) (v w : Direction) (m : Coefficients) → unsigned_abs (slope m w) ≤ number → Clears v m → Clears (mixed number v w) m
  still_clear number v w m b (inl off) = inl off
  still_clear number v w m b (inr (inl either)) = inr (inl either)
  still_clear number v w m b (inr (inr leaves)) = inr (inr (mixed_apart m number v w b leaves))

  changed : (m : Coefficients) (ms : List Coefficients) → IsPlane m → value m q ≡ pos 0 → (IsEither m n → ⊥) → (g : General ms) → slope m g.v ≡ pos 0 → General (m ∷ ms)
  changed m ms hm e other g z =
      let w = across n m in
      let number = all_slopes ms w in record {
        v = mixed number g.v w;
        flat = mixed_flat n number g.v w g.flat ∙ across_flat n m;
        clear = (
          inr (inr (λ h. across_apart m hm e other (sym (mixed_flat m number g.v w z) ∙ h))),
          each_weaker (λ k. (unsigned_abs (slope k w) ≤ number) × Clears g.v k) (Clears (mixed number g.v w)) (λ k h. still_clear number g.v w k h.0 h.1) ms
              (each_both (λ k. unsigned_abs (slope k w) ≤ number) (Clears g.v) ms (each_slope ms w number (least_itself number)) g.clear),
        );
      }

  by_slope : (m : Coefficients) (ms : List Coefficients) → IsPlane m → value m q ≡ pos 0 → (IsEither m n → ⊥) → General ms → General (m ∷ ms)
  by_slope m ms hm e other g = elim (signs (slope m g.v)) [
    | inl h ↦ kept m ms g (inr (inr (not_zero_below _ h)))
    | inr (inl h) ↦ changed m ms hm e other g h
    | inr (inr h) ↦ kept m ms g (inr (inr (not_zero_above _ h)))
  ]

  by_either : (m : Coefficients) (ms : List Coefficients) → IsPlane m → value m q ≡ pos 0 → (b : Bool) → is_either m n ≡ b → General ms → General (m ∷ ms)
  by_either m ms hm e true h g = kept m ms g (inr (inl (either_parts m n h)))
  by_either m ms hm e false h g = by_slope m ms hm e (λ k. true≢false (sym (either_is m n k) ∙ h)) g

  one_more : (m : Coefficients) (ms : List Coefficients) → IsPlane m → General ms → General (m ∷ ms)
  one_more m ms hm g = elim (signs (value m q)) [
    | inl h ↦ kept m ms g (inl (not_zero_below _ h))
    | inr (inl h) ↦ by_either m ms hm h (is_either m n) refl g
    | inr (inr h) ↦ kept m ms g (inl (not_zero_above _ h))
  ]

  no_slope : slope n (record { x = pos 0; y = pos 0; z = pos 0 }) ≡ pos 0
  no_slope = omega (arith, sums, *ℤ-zero n.a, *ℤ-zero n.b, *ℤ-zero n.c)

  pub general : (ms : List Coefficients) → Each IsPlane ms → General ms
  general [] e = record { v = record { x = pos 0; y = pos 0; z = pos 0 }; flat = no_slope; clear = tt }
  general (m ∷ ms) e = one_more m ms e.0 (general ms e.1)
