-- The sides of a cylinder: a side in the direction (s, t) from the radius a at the height l to the radius b at the height
-- l + k.
use Rattle.std.proofs.Common.{◌≡◌, inl, inr, ℕ, zero, suc, ◌<◌, List, [], ◌∷◌, length, All, ap, subst, sym, ◌∙◌, refl, arith, ℤ, pos, negsuc, neg_ℤ, ◌+ℤ◌, ◌-ℤ◌, ◌*ℤ◌, ◌<ℤ◌, ◌≤ℤ◌, unsigned_abs}
use Rattle.std.proofs.lemmas.List.Elements.{All-from_recursion}
use Rattle.std.proofs.Math.IntN.{*ℤ-zero}
use Rattle.plane_predicate.specs.Space.{Coefficients, Coordinates, point_at, value, AreCollinear}
use Rattle.plane_predicate.proofs.lemmas.IntegerRing.{sums, one_mul}
use Rattle.plane_predicate.proofs.lemmas.Polynomials.{Poly, var, num, plus, times, minus, ring}
use Rattle.plane_predicate.proofs.lemmas.Signs.{pos_neg, least_most, zero_cancel}
use Rattle.plane_predicate.proofs.lemmas.Vectors.{Form, Place, valueP, minorP}
use Rattle.primitives.specs.Shapes.{Mesh, mesh_point, value_at_point, HasTriangle}
use Rattle.primitives.proofs.lemmas.Moves.{whole}
use Rattle.primitives.proofs.lemmas.Bodies.{HasFar, IsOutside}
use Rattle.round_four.proofs.Corners.{reach, IsCorner, IsSign}

abbrev pub side_plane : ℤ → ℤ → ℤ → ℤ → ℤ → ℤ → Coefficients
side_plane s t a b l k = record { a = s *ℤ k; b = t *ℤ k; c = a -ℤ b; d = k *ℤ a +ℤ (a -ℤ b) *ℤ l }

-- s, t, a, b, l, k, x and y as numbered variables
abbrev sideP : Form
sideP = record { a = times (var 0) (var 5); b = times (var 1) (var 5); c = minus (var 2) (var 3); d = plus (times (var 5) (var 2)) (times (minus (var 2) (var 3)) (var 4)) }

abbrev atP : Poly → Place
atP z = record { x = var 6; y = var 7; z = z; w = num (pos 1) }

abbrev growthP : Poly → Poly
growthP r = times (var 5) (minus (plus (times (var 0) (var 6)) (times (var 1) (var 7))) r)

low_value : (s t a b l k x y : ℤ) → value (side_plane s t a b l k) (whole x y l) ≡ k *ℤ (reach s t x y -ℤ a)
low_value s t a b l k x y = ring (s ∷ t ∷ a ∷ b ∷ l ∷ k ∷ x ∷ y ∷ []) (valueP sideP (atP (var 4))) (growthP (var 2)) refl

high_value : (s t a b l k x y : ℤ) → value (side_plane s t a b l k) (whole x y (l +ℤ k)) ≡ k *ℤ (reach s t x y -ℤ b)
high_value s t a b l k x y = ring (s ∷ t ∷ a ∷ b ∷ l ∷ k ∷ x ∷ y ∷ []) (valueP sideP (atP (plus (var 4) (var 5)))) (growthP (var 3)) refl

-- ---- signs of k (n - r)
no_growth : (v k n r : ℤ) → v ≡ k *ℤ (n -ℤ r) → n ≡ r → v ≡ pos 0
no_growth v k n r e h = let d : n -ℤ r ≡ pos 0 = omega (arith, sums, h) in e ∙ ap (λ (u : ℤ). k *ℤ u) d ∙ *ℤ-zero k

most_growth : (v k n r : ℤ) → v ≡ k *ℤ (n -ℤ r) → pos 0 <ℤ k → n ≤ℤ r → v ≤ℤ pos 0
most_growth v k n r e hk h = subst (λ (u : ℤ). u ≤ℤ pos 0) (sym e) (least_most k (n -ℤ r) (omega (arith, sums, hk)) (omega (arith, sums, h)))

less_growth : (v k n r : ℤ) → v ≡ k *ℤ (n -ℤ r) → pos 0 <ℤ k → pos 0 <ℤ r → n ≡ neg_ℤ r → v <ℤ pos 0
less_growth v k n r e hk hr h = subst (λ (u : ℤ). u <ℤ pos 0) (sym e) (pos_neg k (n -ℤ r) hk (omega (arith, sums, hr, h)))

pub low_on : (s t a b l k x y : ℤ) → reach s t x y ≡ a → value (side_plane s t a b l k) (whole x y l) ≡ pos 0
low_on s t a b l k x y e = no_growth _ k (reach s t x y) a (low_value s t a b l k x y) e

pub high_on : (s t a b l k x y : ℤ) → reach s t x y ≡ b → value (side_plane s t a b l k) (whole x y (l +ℤ k)) ≡ pos 0
high_on s t a b l k x y e = no_growth _ k (reach s t x y) b (high_value s t a b l k x y) e

pub low_behind : (s t a b l k x y : ℤ) → pos 0 <ℤ k → pos 0 <ℤ a → reach s t x y ≡ neg_ℤ a → value (side_plane s t a b l k) (whole x y l) <ℤ pos 0
low_behind s t a b l k x y hk ha e = less_growth _ k (reach s t x y) a (low_value s t a b l k x y) hk ha e

pub high_behind : (s t a b l k x y : ℤ) → pos 0 <ℤ k → pos 0 <ℤ b → reach s t x y ≡ neg_ℤ b → value (side_plane s t a b l k) (whole x y (l +ℤ k)) <ℤ pos 0
high_behind s t a b l k x y hk hb e = less_growth _ k (reach s t x y) b (high_value s t a b l k x y) hk hb e

side_within : (s t a b l k : ℤ) → IsSign s → IsSign t → pos 0 <ℤ k → (p : Coordinates) → IsCorner a b l (l +ℤ k) p → value (side_plane s t a b l k) p ≤ℤ pos 0
side_within s t a b l k es et hk p (inl c) = most_growth _ k (reach s t c.x c.y) a (ap (value (side_plane s t a b l k)) c.is ∙ low_value s t a b l k c.x c.y) hk (c.within s t es et)
side_within s t a b l k es et hk p (inr c) = most_growth _ k (reach s t c.x c.y) b (ap (value (side_plane s t a b l k)) c.is ∙ high_value s t a b l k c.x c.y) hk (c.within s t es et)

-- ---- the direction
some_size : (n : ℤ) → (n ≡ pos 0 → ⊥) → 0 < unsigned_abs n
some_size (pos zero) h = absurd (h refl)
some_size (pos (suc n)) h = omega arith
some_size (negsuc n) h = omega arith

some_step : (s k : ℤ) → IsSign s → pos 0 <ℤ k → s *ℤ k ≡ pos 0 → ⊥
some_step s k (inl e) h z = let p : pos 1 *ℤ k ≡ pos 0 = ap (λ (n : ℤ). n *ℤ k) (sym e) ∙ z in omega (arith, sums, one_mul k, p, h)
some_step s k (inr e) h z = let p : negsuc 0 *ℤ k ≡ pos 0 = ap (λ (n : ℤ). n *ℤ k) (sym e) ∙ z in let q : negsuc 0 *ℤ k ≡ neg_ℤ k = ring (k ∷ []) (times (num (negsuc 0)) (var 0)) (minus (num (pos 0)) (var 0)) refl ∙ omega (arith, sums) in omega (arith, sums, p, q, h)

-- ---- three corners of a side
abbrev apartP : Poly → Poly → Poly
apartP l h = minorP (minus (var 1) (var 0)) (minus l l) (minus (var 2) (var 0)) (minus h l)

-- two low corners and one high one
pub low_apart : (x y u v m n l k : ℤ) → (y ≡ v → ⊥) → pos 0 <ℤ k → AreCollinear (whole x y l) (whole u v l) (whole m n (l +ℤ k)) → ⊥
low_apart x y u v m n l k h hk c =
    let product = ring (y ∷ v ∷ n ∷ l ∷ k ∷ []) (apartP (var 3) (plus (var 3) (var 4))) (times (var 4) (minus (var 1) (var 0))) refl in
    let none = zero_cancel k (v -ℤ y) hk (sym product ∙ c.a) in
    h (omega (arith, sums, none))

-- two high corners and one low one
pub high_apart : (x y u v m n l k : ℤ) → (y ≡ v → ⊥) → pos 0 <ℤ k → AreCollinear (whole x y (l +ℤ k)) (whole u v (l +ℤ k)) (whole m n l) → ⊥
high_apart x y u v m n l k h hk c =
    let product = ring (y ∷ v ∷ n ∷ l ∷ k ∷ []) (apartP (plus (var 3) (var 4)) (var 3)) (times (var 4) (minus (var 0) (var 1))) refl in
    let none = zero_cancel k (y -ℤ v) hk (sym product ∙ c.a) in
    h (omega (arith, sums, none))

-- ---- lists of corners
pub three : (P : ℕ → Type 0) (i j m : ℕ) → P i → P j → P m → All P (i ∷ j ∷ m ∷ [])
three P i j m hi hj hm = All-from_recursion P (i ∷ j ∷ m ∷ []) (hi, (hj, (hm, tt)))

pub four : (P : ℕ → Type 0) (i j m n : ℕ) → P i → P j → P m → P n → All P (i ∷ j ∷ m ∷ n ∷ [])
four P i j m n hi hj hm hn = All-from_recursion P (i ∷ j ∷ m ∷ n ∷ []) (hi, (hj, (hm, (hn, tt))))

-- ---- a side as a face
abbrev pub AreCorners : ℤ → ℤ → ℤ → ℤ → List (List ℤ) → Type 0
AreCorners a b l k points = All (λ (p : List ℤ). IsCorner a b l (l +ℤ k) (point_at p)) points

-- what is left to show of a side with this plane
pub record IsFaceOf (mesh : Mesh) (face : List ℕ) (m : Coefficients) : Type 0 where
  pub there : All (λ (i : ℕ). i < length mesh.points) face
  pub triangle : HasTriangle mesh.points face
  pub on : All (λ (i : ℕ). value_at_point mesh.points m i ≡ pos 0) face
  pub far : HasFar mesh m

pub side_is_outside : (mesh : Mesh) (face : List ℕ) (s t a b l k : ℤ) → IsSign s → IsSign t → pos 0 <ℤ k → AreCorners a b l k mesh.points → IsFaceOf mesh face (side_plane s t a b l k) → IsOutside mesh face
side_is_outside mesh face s t a b l k es et hk all h = record {
  there = h.there;
  triangle = h.triangle;
  plane = side_plane s t a b l k;
  directed = omega (arith, some_size (s *ℤ k) (some_step s k es hk));
  on = h.on;
  within = λ i lt. side_within s t a b l k es et hk (mesh_point mesh.points i) (all i [] lt);
  far = h.far;
}
