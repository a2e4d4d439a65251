-- The low and the high end of a cylinder.
use Rattle.std.proofs.Common.{◌≡◌, inl, inr, ℕ, List, [], ◌∷◌, ap, sym, ◌∙◌, refl, arith, ℤ, pos, negsuc, neg_ℤ, ◌+ℤ◌, ◌-ℤ◌, ◌<ℤ◌, ◌≤ℤ◌}
use Rattle.plane_predicate.specs.Space.{Coefficients, Coordinates, value, minor, AreCollinear}
use Rattle.plane_predicate.proofs.lemmas.IntegerRing.{sums}
use Rattle.plane_predicate.proofs.lemmas.Polynomials.{var, num, times, minus, ring}
use Rattle.plane_predicate.proofs.lemmas.Signs.{zero_cancel}
use Rattle.plane_predicate.proofs.lemmas.Vectors.{valueP, minorP}
use Rattle.primitives.specs.Shapes.{Mesh, mesh_point}
use Rattle.primitives.proofs.lemmas.Moves.{whole, wholeP}
use Rattle.primitives.proofs.lemmas.Bodies.{IsOutside}
use Rattle.round_four.proofs.Corners.{IsCorner}
use Rattle.round_four.proofs.Sides.{AreCorners, IsFaceOf}

abbrev pub low_plane : ℤ → Coefficients
low_plane l = record { a = pos 0; b = pos 0; c = negsuc 0; d = pos 0 -ℤ l }

abbrev pub high_plane : ℤ → Coefficients
high_plane h = record { a = pos 0; b = pos 0; c = pos 1; d = h }

value_low : (l x y z : ℤ) → value (low_plane l) (whole x y z) ≡ l -ℤ z
value_low l x y z = ring (x ∷ y ∷ z ∷ l ∷ []) (valueP (record { a = num (pos 0); b = num (pos 0); c = num (negsuc 0); d = minus (num (pos 0)) (var 3) }) (wholeP 0)) (minus (var 3) (var 2)) refl

value_high : (h x y z : ℤ) → value (high_plane h) (whole x y z) ≡ z -ℤ h
value_high h x y z = ring (x ∷ y ∷ z ∷ h ∷ []) (valueP (record { a = num (pos 0); b = num (pos 0); c = num (pos 1); d = var 3 }) (wholeP 0)) (minus (var 2) (var 3)) refl

pub on_low : (l x y : ℤ) → value (low_plane l) (whole x y l) ≡ pos 0
on_low l x y = omega (arith, sums, value_low l x y l)

pub on_high : (h x y : ℤ) → value (high_plane h) (whole x y h) ≡ pos 0
on_high h x y = omega (arith, sums, value_high h x y h)

pub behind_low : (l k x y : ℤ) → pos 0 <ℤ k → value (low_plane l) (whole x y (l +ℤ k)) <ℤ pos 0
behind_low l k x y hk = omega (arith, sums, value_low l x y (l +ℤ k), hk)

pub behind_high : (l k x y : ℤ) → pos 0 <ℤ k → value (high_plane (l +ℤ k)) (whole x y l) <ℤ pos 0
behind_high l k x y hk = omega (arith, sums, value_high (l +ℤ k) x y l, hk)

low_within : (a b l k : ℤ) → pos 0 <ℤ k → (p : Coordinates) → IsCorner a b l (l +ℤ k) p → value (low_plane l) p ≤ℤ pos 0
low_within a b l k hk p (inl c) = omega (arith, sums, ap (value (low_plane l)) c.is ∙ value_low l c.x c.y l)
low_within a b l k hk p (inr c) = omega (arith, sums, ap (value (low_plane l)) c.is ∙ value_low l c.x c.y (l +ℤ k), hk)

high_within : (a b l k : ℤ) → pos 0 <ℤ k → (p : Coordinates) → IsCorner a b l (l +ℤ k) p → value (high_plane (l +ℤ k)) p ≤ℤ pos 0
high_within a b l k hk p (inl c) = omega (arith, sums, ap (value (high_plane (l +ℤ k))) c.is ∙ value_high (l +ℤ k) c.x c.y l, hk)
high_within a b l k hk p (inr c) = omega (arith, sums, ap (value (high_plane (l +ℤ k))) c.is ∙ value_high (l +ℤ k) c.x c.y (l +ℤ k))

-- three corners of a circle: n is -r
three_apart : (r n : ℤ) → pos 0 <ℤ r → n ≡ neg_ℤ r → minor (pos 0 -ℤ r) (r -ℤ pos 0) (n -ℤ r) (pos 0 -ℤ pos 0) ≡ pos 0 → ⊥
three_apart r n h e c =
    let zeroP = num (pos 0) in
    let product = ring (r ∷ n ∷ []) (minorP (minus zeroP (var 0)) (minus (var 0) zeroP) (minus (var 1) (var 0)) (minus zeroP zeroP)) (times (var 0) (minus (var 0) (var 1))) refl in
    let none = zero_cancel r (r -ℤ n) h (sym product ∙ c) in
    omega (arith, sums, none, e, h)

pub circle_apart : (r z : ℤ) → pos 0 <ℤ r → AreCollinear (whole r (pos 0) z) (whole (pos 0) r z) (whole (neg_ℤ r) (pos 0) z) → ⊥
circle_apart r z h c = three_apart r (neg_ℤ r) h refl c.c

-- ---- an end as a face
pub low_is_outside : (mesh : Mesh) (face : List ℕ) (a b l k : ℤ) → pos 0 <ℤ k → AreCorners a b l k mesh.points → IsFaceOf mesh face (low_plane l) → IsOutside mesh face
low_is_outside mesh face a b l k hk all h = record {
  there = h.there;
  triangle = h.triangle;
  plane = low_plane l;
  directed = omega arith;
  on = h.on;
  within = λ i lt. low_within a b l k hk (mesh_point mesh.points i) (all i [] lt);
  far = h.far;
}

pub high_is_outside : (mesh : Mesh) (face : List ℕ) (a b l k : ℤ) → pos 0 <ℤ k → AreCorners a b l k mesh.points → IsFaceOf mesh face (high_plane (l +ℤ k)) → IsOutside mesh face
high_is_outside mesh face a b l k hk all h = record {
  there = h.there;
  triangle = h.triangle;
  plane = high_plane (l +ℤ k);
  directed = omega arith;
  on = h.on;
  within = λ i lt. high_within a b l k hk (mesh_point mesh.points i) (all i [] lt);
  far = h.far;
}
