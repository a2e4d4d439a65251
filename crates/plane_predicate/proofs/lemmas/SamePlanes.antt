-- Two planes are the same set of points exactly where they are equal or opposite.
use Rattle.std.proofs.Common.{◌≡◌, ◌↔◌, ◌⊎◌, inl, inr, ℕ, zero, suc, ◌+◌, ◌*◌, ◌<◌, [], ◌∷◌, refl, sym, ap, ap₂, ◌∙◌, subst, arith, ℤ, pos, negsuc, neg_ℤ, ◌+ℤ◌, ◌-ℤ◌, ◌*ℤ◌, ◌<ℤ◌, ◌≤ℤ◌, unsigned_abs}
use Rattle.std.proofs.lemmas.Int.{unsigned_abs-mul}
use Rattle.std.proofs.Math.IntN.{*ℤ-zero}
use Rattle.plane_predicate.specs.Space.{Coefficients, Coordinates, value, inner_product, opposite_of, IsPlane, HasItsPointsOn, HaveSamePoints}
use Rattle.plane_predicate.proofs.lemmas.IntegerRing.{sums, mul_comm_ℤ, mul_neg_right, mul_neg_left}
use Rattle.plane_predicate.proofs.lemmas.Polynomials.{Poly, var, plus, times, minus, ring}
use Rattle.plane_predicate.proofs.lemmas.Vectors.{Form, Place, form, of_plane, valueP, innerP, value-opposite}
use Rattle.plane_predicate.proofs.lemmas.Signs.{signs, pos_pos, neg_neg, zero_cancel}
use Rattle.plane_predicate.proofs.lemmas.Coprime.{same_numbers}
use Prim.Native.Nat.{◌∣◌}

-- ---- a direction has a positive product with itself
square_least : (x : ℤ) → pos 0 ≤ℤ (x *ℤ x)
square_least x = elim (signs x) [ inl h ↦ omega (arith, sums, neg_neg x x h h) | inr (inl e) ↦ subst (λ (y : ℤ). pos 0 ≤ℤ (y *ℤ y)) (sym e) (omega (arith, sums)) | inr (inr h) ↦ omega (arith, sums, pos_pos x x h h) ]

square_above : (x : ℤ) → 0 < unsigned_abs x → pos 0 <ℤ (x *ℤ x)
square_above (pos zero) h = absurd (omega arith)
square_above (pos (suc n)) h = pos_pos (pos (suc n)) (pos (suc n)) (omega (arith, sums)) (omega (arith, sums))
square_above (negsuc n) h = neg_neg (negsuc n) (negsuc n) (omega (arith, sums)) (omega (arith, sums))

sum_above : (x y z : ℤ) → pos 0 ≤ℤ x → pos 0 ≤ℤ y → pos 0 ≤ℤ z → (pos 0 <ℤ x) ⊎ ((pos 0 <ℤ y) ⊎ (pos 0 <ℤ z)) → pos 0 <ℤ (x +ℤ y +ℤ z)
sum_above x y z hx hy hz (inl h) = omega (arith, sums)
sum_above x y z hx hy hz (inr (inl h)) = omega (arith, sums)
sum_above x y z hx hy hz (inr (inr h)) = omega (arith, sums)

some_above : (x y z : ℕ) → 0 < x + y + z → (0 < x) ⊎ ((0 < y) ⊎ (0 < z))
some_above (suc x) y z h = inl (omega arith)
some_above zero (suc y) z h = inr (inl (omega arith))
some_above zero zero (suc z) h = inr (inr (omega arith))
some_above zero zero zero h = absurd (omega arith)

pub directed_above : (m : Coefficients) → 0 < unsigned_abs m.a + unsigned_abs m.b + unsigned_abs m.c → pos 0 <ℤ inner_product m m
directed_above m h =
    sum_above (m.a *ℤ m.a) (m.b *ℤ m.b) (m.c *ℤ m.c) (square_least m.a) (square_least m.b) (square_least m.c)
    (elim (some_above (unsigned_abs m.a) (unsigned_abs m.b) (unsigned_abs m.c) h) [
      | inl k ↦ inl (square_above m.a k)
      | inr (inl k) ↦ inr (inl (square_above m.b k))
      | inr (inr k) ↦ inr (inr (square_above m.c k))
    ])

-- ---- four points of a plane, from which its numbers can be read
abbrev root : Coefficients → ℤ → ℤ → ℤ → Coordinates
root m x y z = record { x = m.a *ℤ m.d +ℤ x; y = m.b *ℤ m.d +ℤ y; z = m.c *ℤ m.d +ℤ z; w = inner_product m m }

abbrev rootP : Form → Poly → Poly → Poly → Place
rootP m x y z = record { x = plus (times m.a m.d) x; y = plus (times m.b m.d) y; z = plus (times m.c m.d) z; w = innerP m m }

root_on : (m : Coefficients) (x y z : ℤ) → value m (root m x y z) ≡ m.a *ℤ x +ℤ m.b *ℤ y +ℤ m.c *ℤ z
root_on m x y z = let M = form 0 in
    ring (of_plane m (x ∷ y ∷ z ∷ [])) (valueP M (rootP M (var 4) (var 5) (var 6))) (plus (plus (times M.a (var 4)) (times M.b (var 5))) (times M.c (var 6))) refl

root_value : (m n : Coefficients) (x y z : ℤ) → value n (root m x y z) ≡ (m.d *ℤ inner_product m n -ℤ n.d *ℤ inner_product m m) +ℤ (n.a *ℤ x +ℤ n.b *ℤ y +ℤ n.c *ℤ z)
root_value m n x y z = let M = form 0 in let N = form 4 in
    ring (of_plane m (of_plane n (x ∷ y ∷ z ∷ []))) (valueP N (rootP M (var 8) (var 9) (var 10)))
    (plus (minus (times M.d (innerP M N)) (times N.d (innerP M M))) (plus (plus (times N.a (var 8)) (times N.b (var 9))) (times N.c (var 10)))) refl

-- what a plane n with all points of m says at such a point
at_root : (m n : Coefficients) → pos 0 <ℤ inner_product m m → HasItsPointsOn m n → (x y z : ℤ) → m.a *ℤ x +ℤ m.b *ℤ y +ℤ m.c *ℤ z ≡ pos 0 → (m.d *ℤ inner_product m n -ℤ n.d *ℤ inner_product m m) +ℤ (n.a *ℤ x +ℤ n.b *ℤ y +ℤ n.c *ℤ z) ≡ pos 0
at_root m n h k x y z e = sym (root_value m n x y z) ∙ k.points (root m x y z) h (root_on m x y z ∙ e)

cross_a : (m : Coefficients) → m.a *ℤ pos 0 +ℤ m.b *ℤ m.c +ℤ m.c *ℤ neg_ℤ m.b ≡ pos 0
cross_a m = omega (arith, sums, *ℤ-zero m.a, mul_neg_right m.c m.b, mul_comm_ℤ m.b m.c)

cross_b : (m : Coefficients) → m.a *ℤ neg_ℤ m.c +ℤ m.b *ℤ pos 0 +ℤ m.c *ℤ m.a ≡ pos 0
cross_b m = omega (arith, sums, *ℤ-zero m.b, mul_neg_right m.a m.c, mul_comm_ℤ m.a m.c)

cross_c : (m : Coefficients) → m.a *ℤ m.b +ℤ m.b *ℤ neg_ℤ m.a +ℤ m.c *ℤ pos 0 ≡ pos 0
cross_c m = omega (arith, sums, *ℤ-zero m.c, mul_neg_right m.b m.a, mul_comm_ℤ m.a m.b)

no_step : (m : Coefficients) → m.a *ℤ pos 0 +ℤ m.b *ℤ pos 0 +ℤ m.c *ℤ pos 0 ≡ pos 0
no_step m = omega (arith, sums, *ℤ-zero m.a, *ℤ-zero m.b, *ℤ-zero m.c)

-- the numbers of n are to those of m as (m n) to (m m)
pub record AreInProportion (m n : Coefficients) : Type 0 where
  pub a : n.a *ℤ inner_product m m ≡ m.a *ℤ inner_product m n
  pub b : n.b *ℤ inner_product m m ≡ m.b *ℤ inner_product m n
  pub c : n.c *ℤ inner_product m m ≡ m.c *ℤ inner_product m n
  pub d : n.d *ℤ inner_product m m ≡ m.d *ℤ inner_product m n

-- with the cross product of the two directions, in its parts
by_cross_a : (m n : Coefficients) → n.a *ℤ inner_product m m -ℤ m.a *ℤ inner_product m n ≡ m.b *ℤ (n.a *ℤ m.b -ℤ n.b *ℤ m.a) -ℤ m.c *ℤ (n.c *ℤ m.a -ℤ n.a *ℤ m.c)
by_cross_a m n = let M = form 0 in let N = form 4 in
    ring (of_plane m (of_plane n [])) (minus (times N.a (innerP M M)) (times M.a (innerP M N)))
    (minus (times M.b (minus (times N.a M.b) (times N.b M.a))) (times M.c (minus (times N.c M.a) (times N.a M.c)))) refl

by_cross_b : (m n : Coefficients) → n.b *ℤ inner_product m m -ℤ m.b *ℤ inner_product m n ≡ m.c *ℤ (n.b *ℤ m.c -ℤ n.c *ℤ m.b) -ℤ m.a *ℤ (n.a *ℤ m.b -ℤ n.b *ℤ m.a)
by_cross_b m n = let M = form 0 in let N = form 4 in
    ring (of_plane m (of_plane n [])) (minus (times N.b (innerP M M)) (times M.b (innerP M N)))
    (minus (times M.c (minus (times N.b M.c) (times N.c M.b))) (times M.a (minus (times N.a M.b) (times N.b M.a)))) refl

by_cross_c : (m n : Coefficients) → n.c *ℤ inner_product m m -ℤ m.c *ℤ inner_product m n ≡ m.a *ℤ (n.c *ℤ m.a -ℤ n.a *ℤ m.c) -ℤ m.b *ℤ (n.b *ℤ m.c -ℤ n.c *ℤ m.b)
by_cross_c m n = let M = form 0 in let N = form 4 in
    ring (of_plane m (of_plane n [])) (minus (times N.c (innerP M M)) (times M.c (innerP M N)))
    (minus (times M.a (minus (times N.c M.a) (times N.a M.c))) (times M.b (minus (times N.b M.c) (times N.c M.b)))) refl

no_cross : (l r u v x y : ℤ) → x ≡ pos 0 → y ≡ pos 0 → l -ℤ r ≡ u *ℤ x -ℤ v *ℤ y → l ≡ r
no_cross l r u v x y hx hy e = let z : u *ℤ x -ℤ v *ℤ y ≡ pos 0 = rw (hx, hy, *ℤ-zero u, *ℤ-zero v) refl in omega (arith, sums)

step_a : (s a b c x y : ℤ) → s +ℤ (a *ℤ pos 0 +ℤ b *ℤ pos 0 +ℤ c *ℤ pos 0) ≡ pos 0 → s +ℤ (a *ℤ pos 0 +ℤ b *ℤ x +ℤ c *ℤ neg_ℤ y) ≡ pos 0 → b *ℤ x -ℤ c *ℤ y ≡ pos 0
step_a s a b c x y h k = omega (arith, sums, *ℤ-zero a, *ℤ-zero b, *ℤ-zero c, mul_neg_right c y)

step_b : (s a b c x y : ℤ) → s +ℤ (a *ℤ pos 0 +ℤ b *ℤ pos 0 +ℤ c *ℤ pos 0) ≡ pos 0 → s +ℤ (a *ℤ neg_ℤ y +ℤ b *ℤ pos 0 +ℤ c *ℤ x) ≡ pos 0 → c *ℤ x -ℤ a *ℤ y ≡ pos 0
step_b s a b c x y h k = omega (arith, sums, *ℤ-zero a, *ℤ-zero b, *ℤ-zero c, mul_neg_right a y)

step_c : (s a b c x y : ℤ) → s +ℤ (a *ℤ pos 0 +ℤ b *ℤ pos 0 +ℤ c *ℤ pos 0) ≡ pos 0 → s +ℤ (a *ℤ x +ℤ b *ℤ neg_ℤ y +ℤ c *ℤ pos 0) ≡ pos 0 → a *ℤ x -ℤ b *ℤ y ≡ pos 0
step_c s a b c x y h k = omega (arith, sums, *ℤ-zero a, *ℤ-zero b, *ℤ-zero c, mul_neg_right b y)

step_d : (s t a b c : ℤ) → (s -ℤ t) +ℤ (a *ℤ pos 0 +ℤ b *ℤ pos 0 +ℤ c *ℤ pos 0) ≡ pos 0 → t ≡ s
step_d s t a b c h = omega (arith, sums, *ℤ-zero a, *ℤ-zero b, *ℤ-zero c)

in_proportion : (m n : Coefficients) → pos 0 <ℤ inner_product m m → HasItsPointsOn m n → AreInProportion m n
in_proportion m n h k =
    let s = m.d *ℤ inner_product m n -ℤ n.d *ℤ inner_product m m in
    let base = at_root m n h k (pos 0) (pos 0) (pos 0) (no_step m) in
    let x = step_a s n.a n.b n.c m.c m.b base (at_root m n h k (pos 0) m.c (neg_ℤ m.b) (cross_a m)) in
    let y = step_b s n.a n.b n.c m.a m.c base (at_root m n h k (neg_ℤ m.c) (pos 0) m.a (cross_b m)) in
    let z = step_c s n.a n.b n.c m.b m.a base (at_root m n h k m.b (neg_ℤ m.a) (pos 0) (cross_c m)) in record {
      a = no_cross _ _ m.b m.c _ _ z y (by_cross_a m n);
      b = no_cross _ _ m.c m.a _ _ x z (by_cross_b m n);
      c = no_cross _ _ m.a m.b _ _ y x (by_cross_c m n);
      d = step_d (m.d *ℤ inner_product m n) (n.d *ℤ inner_product m m) n.a n.b n.c base;
    }

-- ---- without a common factor the proportion is 1 or -1
abbrev size_at : Coefficients → ℕ → ℕ
size_at m zero = unsigned_abs m.a
size_at m (suc zero) = unsigned_abs m.b
size_at m (suc (suc zero)) = unsigned_abs m.c
size_at m (suc (suc (suc i))) = unsigned_abs m.d

no_factor : (m : Coefficients) → IsPlane m → (k : ℕ) → ((i : ℕ) → k ∣ size_at m i) → k ≡ 1
no_factor m h k d = h.reduced k (d 0) (d 1) (d 2) (d 3)

sizes : (x y u v : ℤ) → x *ℤ u ≡ y *ℤ v → unsigned_abs u * unsigned_abs x ≡ unsigned_abs v * unsigned_abs y
sizes x y u v e = let h = ap unsigned_abs e in omega (arith, h, unsigned_abs-mul x u, unsigned_abs-mul y v)

all_sizes : (m n : Coefficients) → AreInProportion m n → (i : ℕ) → unsigned_abs (inner_product m m) * size_at n i ≡ unsigned_abs (inner_product m n) * size_at m i
all_sizes m n h zero = sizes n.a m.a (inner_product m m) (inner_product m n) h.a
all_sizes m n h (suc zero) = sizes n.b m.b (inner_product m m) (inner_product m n) h.b
all_sizes m n h (suc (suc zero)) = sizes n.c m.c (inner_product m m) (inner_product m n) h.c
all_sizes m n h (suc (suc (suc i))) = sizes n.d m.d (inner_product m m) (inner_product m n) h.d

size_above : (x : ℤ) → pos 0 <ℤ x → 0 < unsigned_abs x
size_above (pos n) h = omega (arith, sums)
size_above (negsuc n) h = absurd (omega (arith, sums))

-- the directions are not at a right angle
nothing : (x y u v : ℤ) → pos 0 <ℤ u → v ≡ pos 0 → x *ℤ u ≡ y *ℤ v → unsigned_abs x ≡ 0
nothing x y u v h e k = ap unsigned_abs (zero_cancel u x h (mul_comm_ℤ u x ∙ k ∙ ap (λ (z : ℤ). y *ℤ z) e ∙ *ℤ-zero y))

not_right : (m n : Coefficients) → pos 0 <ℤ inner_product m m → 0 < unsigned_abs n.a + unsigned_abs n.b + unsigned_abs n.c → AreInProportion m n → (v : ℤ) → v ≡ inner_product m n → 0 < unsigned_abs v
not_right m n h d k (pos zero) e = absurd (omega (arith, nothing n.a m.a (inner_product m m) (inner_product m n) h (sym e) k.a, nothing n.b m.b (inner_product m m) (inner_product m n) h (sym e) k.b, nothing n.c m.c (inner_product m m) (inner_product m n) h (sym e) k.c))
not_right m n h d k (pos (suc i)) e = omega arith
not_right m n h d k (negsuc i) e = omega arith

same_size : (u v : ℤ) → pos 0 <ℤ u → unsigned_abs u ≡ unsigned_abs v → (v ≡ u) ⊎ (v ≡ neg_ℤ u)
same_size (pos n) (pos k) h e = inl (ap pos (sym e))
same_size (pos n) (negsuc k) h e = inr (ap (λ (i : ℕ). neg_ℤ (pos i)) (sym e))
same_size (negsuc n) v h e = absurd (omega (arith, sums))

dropped : (u x y : ℤ) → pos 0 <ℤ u → x *ℤ u ≡ y *ℤ u → x ≡ y
dropped u x y h e =
    let z = zero_cancel u (x -ℤ y) h (ring (u ∷ x ∷ y ∷ []) (times (var 0) (minus (var 1) (var 2))) (minus (times (var 1) (var 0)) (times (var 2) (var 0))) refl ∙ (let s : x *ℤ u -ℤ y *ℤ u ≡ pos 0 = omega (arith, sums) in s)) in
    omega (arith, sums)

turned : (u v x y : ℤ) → pos 0 <ℤ u → v ≡ neg_ℤ u → x *ℤ u ≡ y *ℤ v → y ≡ neg_ℤ x
turned u v x y h e k =
    let d = dropped u x (neg_ℤ y) h (k ∙ ap (λ (z : ℤ). y *ℤ z) e ∙ mul_neg_right y u ∙ sym (mul_neg_left y u)) in omega (arith, sums)

kept : (u v x y : ℤ) → pos 0 <ℤ u → v ≡ u → x *ℤ u ≡ y *ℤ v → y ≡ x
kept u v x y h e k = sym (dropped u x y h (k ∙ ap (λ (z : ℤ). y *ℤ z) e))

same_numbers_of : (m n : Coefficients) → m.a ≡ n.a → m.b ≡ n.b → m.c ≡ n.c → m.d ≡ n.d → m ≡ n
same_numbers_of m n ha hb hc hd = ap₂ (λ (a b : ℤ). let k : Coefficients = record { a = a; b = b; c = m.c; d = m.d } in k) ha hb ∙ ap₂ (λ (c d : ℤ). let k : Coefficients = record { a = n.a; b = n.b; c = c; d = d } in k) hc hd

-- a plane that has all points of another one is that plane, or its opposite
pub equal_or_opposite : (m n : Coefficients) → IsPlane m → IsPlane n → HasItsPointsOn m n → (m ≡ n) ⊎ (m ≡ opposite_of n)
equal_or_opposite m n hm hn k =
    let u = directed_above m hm.directed in
    let p = in_proportion m n u k in
    let e = same_numbers (size_at m) (size_at n) (no_factor m hm) (no_factor n hn) (unsigned_abs (inner_product m m)) (unsigned_abs (inner_product m n)) (size_above (inner_product m m) u) (not_right m n u hn.directed p (inner_product m n) refl) (all_sizes m n p) in
    elim (same_size (inner_product m m) (inner_product m n) u e) [
      | inl s ↦ inl (same_numbers_of m n (kept _ _ n.a m.a u s p.a) (kept _ _ n.b m.b u s p.b) (kept _ _ n.c m.c u s p.c) (kept _ _ n.d m.d u s p.d))
      | inr s ↦ inr (same_numbers_of m (opposite_of n) (turned _ _ n.a m.a u s p.a) (turned _ _ n.b m.b u s p.b) (turned _ _ n.c m.c u s p.c) (turned _ _ n.d m.d u s p.d))
    ]

negative_zero : (x : ℤ) → neg_ℤ x ≡ pos 0 → x ≡ pos 0
negative_zero x e = omega (arith, sums)

zero_negative : (x : ℤ) → x ≡ pos 0 → neg_ℤ x ≡ pos 0
zero_negative x e = omega (arith, sums)

pub opposite_points : (n : Coefficients) → HaveSamePoints (opposite_of n) n
opposite_points n = record { points = λ p w. (λ e. negative_zero (value n p) (sym (value-opposite n p) ∙ e), λ e. value-opposite n p ∙ zero_negative (value n p) e) }

same_points_of : (m n : Coefficients) → (m ≡ n) ⊎ (m ≡ opposite_of n) → HaveSamePoints m n
same_points_of m n (inl e) = subst (λ (k : Coefficients). HaveSamePoints k n) (sym e) (record { points = λ p w. (λ h. h, λ h. h) })
same_points_of m n (inr e) = subst (λ (k : Coefficients). HaveSamePoints k n) (sym e) (opposite_points n)

pub same_points : (m n : Coefficients) → IsPlane m → IsPlane n → HaveSamePoints m n ↔ ((m ≡ n) ⊎ (m ≡ opposite_of n))
same_points m n hm hn = (λ h. equal_or_opposite m n hm hn (record { points = λ p w. (h.points p w).0 }), same_points_of m n)
