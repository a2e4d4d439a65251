-- Inner combinations of points within reach are within reach.
use Rattle.std.proofs.Common.{◌≡◌, ◌*◌, ◌<◌, ◌≤◌, List, [], ◌∷◌, length, get_or, refl, sym, ℕ, arith, ℤ, pos, negsuc, ◌+ℤ◌, ◌-ℤ◌, ◌*ℤ◌, ◌<ℤ◌, ◌≤ℤ◌, unsigned_abs, All}
use Rattle.plane_predicate.specs.Space.{Coefficients, Coordinates, point_at, value, IsInReach}
use Rattle.plane_predicate.proofs.lemmas.IntegerRing.{sums}
use Rattle.plane_predicate.proofs.lemmas.Polynomials.{var, num, plus, times, minus, ring}
use Rattle.plane_predicate.proofs.lemmas.Signs.{least_most, neg_cancel}
use Rattle.plane_predicate.proofs.lemmas.Vectors.{form, of_plane, of_point, place, valueP}
use Rattle.scad_hull.specs.Combinations.{IsInnerCombination}
use Rattle.scad_hull.proofs.lemmas.Inner.{behind_each}
use Rattle.shape_hulls.proofs.Axes.{most_by}

-- ---- a plane that no point is ahead of
-- the plane, k times, and one further away
abbrev further : ℤ → Coefficients → Coefficients
further k m = record { a = k *ℤ m.a; b = k *ℤ m.b; c = k *ℤ m.c; d = k *ℤ m.d +ℤ pos 1 }

value_further : (k : ℤ) (m : Coefficients) (p : Coordinates) → value (further k m) p ≡ k *ℤ value m p -ℤ p.w
value_further k m p =
    ring (of_plane m (of_point p (k ∷ []))) (valueP (record { a = times (var 8) (var 0); b = times (var 8) (var 1); c = times (var 8) (var 2); d = plus (times (var 8) (var 3)) (num (pos 1)) }) (place 4)) (minus (times (var 8) (valueP (form 0) (place 4))) (var 7)) refl

below_further : (v k u : ℤ) → v ≡ k *ℤ u -ℤ pos 1 → pos 0 <ℤ k → u ≤ℤ pos 0 → v <ℤ pos 0
below_further v k u e above most = omega (arith, sums, e, least_most k u (omega (arith, sums, above)) most)

most_further : (v w u : ℤ) → v ≡ w *ℤ u -ℤ w → pos 0 <ℤ w → v <ℤ pos 0 → u ≤ℤ pos 0
most_further v w u e above below =
    let less = neg_cancel w (u -ℤ pos 1) above (omega (arith, sums, e, below, ring (w ∷ u ∷ []) (times (var 0) (minus (var 1) (num (pos 1)))) (minus (times (var 0) (var 1)) (var 0)) refl)) in
    omega (arith, sums, less)

most_below : (v : ℤ) → v <ℤ pos 0 → v ≤ℤ pos 0
most_below v h = omega (arith, sums, h)

-- no inner combination is ahead of it
pub none_beyond : (points : List (List ℤ)) (q : Coordinates) → pos 0 <ℤ q.w → 0 < length points → IsInnerCombination points q → (m : Coefficients) → All (λ p. value m (point_at p) ≤ℤ pos 0) points → value m q ≤ℤ pos 0
none_beyond points q above some c m most =
    let n = further q.w m in
    let each : All (λ p. value n (point_at p) <ℤ pos 0) points = λ k d lt. below_further _ q.w _ (value_further q.w m _) above (most k d lt) in
    most_further (value n q) q.w (value m q) (value_further q.w m q) above
    (behind_each points q above c n (λ k d lt. most_below _ (each k d lt)) 0 some (each 0 [] some))

-- ---- the six sides of the reach
abbrev side : ℤ → ℤ → ℤ → Coefficients
side a b c = record { a = a; b = b; c = c; d = pos 4095 }

right : (x y z t : ℤ) → pos 1 *ℤ x +ℤ pos 0 *ℤ y +ℤ pos 0 *ℤ z -ℤ t ≡ x -ℤ t
right x y z t = ring (x ∷ y ∷ z ∷ t ∷ []) (minus (plus (plus (times (num (pos 1)) (var 0)) (times (num (pos 0)) (var 1))) (times (num (pos 0)) (var 2))) (var 3)) (minus (var 0) (var 3)) refl

left : (x y z t : ℤ) → negsuc 0 *ℤ x +ℤ pos 0 *ℤ y +ℤ pos 0 *ℤ z -ℤ t ≡ pos 0 -ℤ x -ℤ t
left x y z t = ring (x ∷ y ∷ z ∷ t ∷ []) (minus (plus (plus (times (num (negsuc 0)) (var 0)) (times (num (pos 0)) (var 1))) (times (num (pos 0)) (var 2))) (var 3)) (minus (minus (num (pos 0)) (var 0)) (var 3)) refl

back : (x y z t : ℤ) → pos 0 *ℤ x +ℤ pos 1 *ℤ y +ℤ pos 0 *ℤ z -ℤ t ≡ y -ℤ t
back x y z t = ring (x ∷ y ∷ z ∷ t ∷ []) (minus (plus (plus (times (num (pos 0)) (var 0)) (times (num (pos 1)) (var 1))) (times (num (pos 0)) (var 2))) (var 3)) (minus (var 1) (var 3)) refl

front : (x y z t : ℤ) → pos 0 *ℤ x +ℤ negsuc 0 *ℤ y +ℤ pos 0 *ℤ z -ℤ t ≡ pos 0 -ℤ y -ℤ t
front x y z t = ring (x ∷ y ∷ z ∷ t ∷ []) (minus (plus (plus (times (num (pos 0)) (var 0)) (times (num (negsuc 0)) (var 1))) (times (num (pos 0)) (var 2))) (var 3)) (minus (minus (num (pos 0)) (var 1)) (var 3)) refl

up : (x y z t : ℤ) → pos 0 *ℤ x +ℤ pos 0 *ℤ y +ℤ pos 1 *ℤ z -ℤ t ≡ z -ℤ t
up x y z t = ring (x ∷ y ∷ z ∷ t ∷ []) (minus (plus (plus (times (num (pos 0)) (var 0)) (times (num (pos 0)) (var 1))) (times (num (pos 1)) (var 2))) (var 3)) (minus (var 2) (var 3)) refl

down : (x y z t : ℤ) → pos 0 *ℤ x +ℤ pos 0 *ℤ y +ℤ negsuc 0 *ℤ z -ℤ t ≡ pos 0 -ℤ z -ℤ t
down x y z t = ring (x ∷ y ∷ z ∷ t ∷ []) (minus (plus (plus (times (num (pos 0)) (var 0)) (times (num (pos 0)) (var 1))) (times (num (negsuc 0)) (var 2))) (var 3)) (minus (minus (num (pos 0)) (var 2)) (var 3)) refl

-- a number of size at most 4095 w, by both of its ends
size_within : (x w : ℤ) → pos 0 <ℤ w → (x -ℤ pos 4095 *ℤ w) ≤ℤ pos 0 → (pos 0 -ℤ x -ℤ pos 4095 *ℤ w) ≤ℤ pos 0 → unsigned_abs x ≤ 4095 * unsigned_abs w
size_within x (negsuc k) above h g = absurd (omega (arith, sums, above))
size_within (pos n) (pos k) above h g = omega (arith, sums, h)
size_within (negsuc n) (pos k) above h g = omega (arith, sums, g)

upper : (x : ℤ) → unsigned_abs x ≤ 4095 * unsigned_abs (pos 1) → (x -ℤ pos 4095 *ℤ pos 1) ≤ℤ pos 0
upper (pos n) h = omega (arith, sums, h)
upper (negsuc n) h = omega (arith, sums)

lower : (x : ℤ) → unsigned_abs x ≤ 4095 * unsigned_abs (pos 1) → (pos 0 -ℤ x -ℤ pos 4095 *ℤ pos 1) ≤ℤ pos 0
lower (pos n) h = omega (arith, sums)
lower (negsuc n) h = omega (arith, sums, h)

pub combined_in_reach : (points : List (List ℤ)) (q : Coordinates) → pos 0 <ℤ q.w → 0 < length points → IsInnerCombination points q → All (λ p. IsInReach (point_at p)) points → IsInReach q
combined_in_reach points q above some c reach =
    let most = pos 4095 *ℤ pos 1 in
    let far = pos 4095 *ℤ q.w in
    let at = λ (k : ℕ) (d : List ℤ). point_at (get_or points k d) in
    let beyond = none_beyond points q above some c in
    record {
      weight = above;
      x_size = size_within q.x q.w above
          (most_by _ _ (right q.x q.y q.z far) (beyond (side (pos 1) (pos 0) (pos 0)) (λ k d lt. (let p = at k d in most_by _ _ (sym (right p.x p.y p.z most)) (upper p.x (reach k d lt).x_size)))))
          (most_by _ _ (left q.x q.y q.z far) (beyond (side (negsuc 0) (pos 0) (pos 0)) (λ k d lt. (let p = at k d in most_by _ _ (sym (left p.x p.y p.z most)) (lower p.x (reach k d lt).x_size)))));
      y_size = size_within q.y q.w above
          (most_by _ _ (back q.x q.y q.z far) (beyond (side (pos 0) (pos 1) (pos 0)) (λ k d lt. (let p = at k d in most_by _ _ (sym (back p.x p.y p.z most)) (upper p.y (reach k d lt).y_size)))))
          (most_by _ _ (front q.x q.y q.z far) (beyond (side (pos 0) (negsuc 0) (pos 0)) (λ k d lt. (let p = at k d in most_by _ _ (sym (front p.x p.y p.z most)) (lower p.y (reach k d lt).y_size)))));
      z_size = size_within q.z q.w above
          (most_by _ _ (up q.x q.y q.z far) (beyond (side (pos 0) (pos 0) (pos 1)) (λ k d lt. (let p = at k d in most_by _ _ (sym (up p.x p.y p.z most)) (upper p.z (reach k d lt).z_size)))))
          (most_by _ _ (down q.x q.y q.z far) (beyond (side (pos 0) (pos 0) (negsuc 0)) (λ k d lt. (let p = at k d in most_by _ _ (sym (down p.x p.y p.z most)) (lower p.z (reach k d lt).z_size)))));
    }
