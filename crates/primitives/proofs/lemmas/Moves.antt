-- Planes under an affine map, forward and back.
use Rattle.std.proofs.Common.{◌≡◌, ℕ, ◌+◌, [], ◌∷◌, refl, sym, ap, ◌∙◌, arith, ℤ, pos, ◌+ℤ◌, ◌-ℤ◌, ◌*ℤ◌, neg_ℤ, ◌<ℤ◌, inl, inr}
use Rattle.plane_predicate.specs.Space.{Coefficients, Coordinates, value, opposite_of, minor, plane_of_points, AreCollinear}
use Rattle.plane_predicate.proofs.lemmas.IntegerRing.{sums, mul_neg_left}
use Rattle.plane_predicate.proofs.lemmas.Polynomials.{var, num, plus, times, minus, ring}
use Rattle.plane_predicate.proofs.lemmas.Signs.{signs}
use Rattle.plane_predicate.proofs.lemmas.Vectors.{Form, Place, form, place, of_plane, of_point, valueP, minorP, determinantP, value-opposite}
use Rattle.int_transform.specs.declared.affine.Affine.{Affine}
use Rattle.int_transform.specs.Maps.{determinant_of, image}
use Rattle.int_transform.proofs.lemmas.Images.{of_map, imageP}
use Rattle.int_transform.proofs.lemmas.Regular.{no_product}

-- the plane whose value at a point is that of m at the point's image
abbrev pub pulled : Coefficients → Affine → Coefficients
pulled m f = record {
  a = m.a *ℤ f.x.a +ℤ m.b *ℤ f.y.a +ℤ m.c *ℤ f.z.a;
  b = m.a *ℤ f.x.b +ℤ m.b *ℤ f.y.b +ℤ m.c *ℤ f.z.b;
  c = m.a *ℤ f.x.c +ℤ m.b *ℤ f.y.c +ℤ m.c *ℤ f.z.c;
  d = m.d -ℤ (m.a *ℤ f.x.d +ℤ m.b *ℤ f.y.d +ℤ m.c *ℤ f.z.d);
}

abbrev pulledP : Form → Form → Form → Form → Form
pulledP m x y z = record {
  a = plus (plus (times m.a x.a) (times m.b y.a)) (times m.c z.a);
  b = plus (plus (times m.a x.b) (times m.b y.b)) (times m.c z.b);
  c = plus (plus (times m.a x.c) (times m.b y.c)) (times m.c z.c);
  d = minus m.d (plus (plus (times m.a x.d) (times m.b y.d)) (times m.c z.d));
}

pub value-pulled : (m : Coefficients) (f : Affine) (p : Coordinates) → value (pulled m f) p ≡ value m (image f p)
value-pulled m f p =
    let N = form 0 in let X = form 4 in let Y = form 8 in let Z = form 12 in let P = place 16 in
    ring (of_plane m (of_map f (of_point p []))) (valueP (pulledP N X Y Z) P) (valueP N (imageP X Y Z P)) refl

-- the plane whose value at a point's image is the determinant times that of m at the point
abbrev pub pushed : Coefficients → Affine → Coefficients
pushed m f =
    let a = m.a *ℤ minor f.y.b f.y.c f.z.b f.z.c +ℤ m.b *ℤ minor f.y.c f.y.a f.z.c f.z.a +ℤ m.c *ℤ minor f.y.a f.y.b f.z.a f.z.b in
    let b = m.a *ℤ minor f.z.b f.z.c f.x.b f.x.c +ℤ m.b *ℤ minor f.z.c f.z.a f.x.c f.x.a +ℤ m.c *ℤ minor f.z.a f.z.b f.x.a f.x.b in
    let c = m.a *ℤ minor f.x.b f.x.c f.y.b f.y.c +ℤ m.b *ℤ minor f.x.c f.x.a f.y.c f.y.a +ℤ m.c *ℤ minor f.x.a f.x.b f.y.a f.y.b in
    record { a = a; b = b; c = c; d = determinant_of f *ℤ m.d +ℤ (a *ℤ f.x.d +ℤ b *ℤ f.y.d +ℤ c *ℤ f.z.d) }

abbrev pushedP : Form → Form → Form → Form → Form
pushedP m x y z =
    let a = plus (plus (times m.a (minorP y.b y.c z.b z.c)) (times m.b (minorP y.c y.a z.c z.a))) (times m.c (minorP y.a y.b z.a z.b)) in
    let b = plus (plus (times m.a (minorP z.b z.c x.b x.c)) (times m.b (minorP z.c z.a x.c x.a))) (times m.c (minorP z.a z.b x.a x.b)) in
    let c = plus (plus (times m.a (minorP x.b x.c y.b y.c)) (times m.b (minorP x.c x.a y.c y.a))) (times m.c (minorP x.a x.b y.a y.b)) in
    record { a = a; b = b; c = c; d = plus (times (determinantP x.a x.b x.c y.a y.b y.c z.a z.b z.c) m.d) (plus (plus (times a x.d) (times b y.d)) (times c z.d)) }

pub value-pushed : (m : Coefficients) (f : Affine) (p : Coordinates) → value (pushed m f) (image f p) ≡ determinant_of f *ℤ value m p
value-pushed m f p =
    let N = form 0 in let X = form 4 in let Y = form 8 in let Z = form 12 in let P = place 16 in
    ring (of_plane m (of_map f (of_point p []))) (valueP (pushedP N X Y Z) (imageP X Y Z P)) (times (determinantP X.a X.b X.c Y.a Y.b Y.c Z.a Z.b Z.c) (valueP N P)) refl

-- a plane that a point's image lies behind, on or ahead of as the point lies to m
pub record Follows (f : Affine) (m : Coefficients) : Type 0 where
  pub plane : Coefficients
  pub by : ℤ
  pub above : pos 0 <ℤ by
  pub times : (p : Coordinates) → value plane (image f p) ≡ by *ℤ value m p

pub plane_follows : (f : Affine) (m : Coefficients) → (determinant_of f ≡ pos 0 → ⊥) → Follows f m
plane_follows f m n =
    elim (signs (determinant_of f)) [
      | inl below ↦ record {
        plane = opposite_of (pushed m f);
        by = neg_ℤ (determinant_of f);
        above = omega (arith, sums);
        times = λ p. value-opposite (pushed m f) (image f p) ∙ ap neg_ℤ (value-pushed m f p) ∙ sym (mul_neg_left (determinant_of f) (value m p));
      }
      | inr other ↦ elim other [
        | inl none ↦ absurd (n none)
        | inr above ↦ record { plane = pushed m f; by = determinant_of f; above = above; times = value-pushed m f }
      ]
    ]

-- ---- points on one line
abbrev pub wholeP : ℕ → Place
wholeP i = record { x = var i; y = var (i + 1); z = var (i + 2); w = num (pos 1) }

abbrev pub throughP : Place → Place → Place → Form
throughP p q r =
    let a = minorP (minus q.y p.y) (minus q.z p.z) (minus r.y p.y) (minus r.z p.z) in
    let b = minorP (minus q.z p.z) (minus q.x p.x) (minus r.z p.z) (minus r.x p.x) in
    let c = minorP (minus q.x p.x) (minus q.y p.y) (minus r.x p.x) (minus r.y p.y) in
    record { a = a; b = b; c = c; d = plus (plus (times a p.x) (times b p.y)) (times c p.z) }

abbrev pub whole : ℤ → ℤ → ℤ → Coordinates
whole x y z = record { x = x; y = y; z = z; w = pos 1 }

-- the direction of a plane through three points, against that through their images
moved_a : (f : Affine) (a b c d e g h i j : ℤ) → let t = plane_of_points (whole a b c) (whole d e g) (whole h i j) in let u = plane_of_points (image f (whole a b c)) (image f (whole d e g)) (image f (whole h i j)) in
    determinant_of f *ℤ t.a ≡ f.x.a *ℤ u.a +ℤ f.y.a *ℤ u.b +ℤ f.z.a *ℤ u.c
moved_a f a b c d e g h i j =
    let X = form 0 in let Y = form 4 in let Z = form 8 in let P = wholeP 12 in let Q = wholeP 15 in let R = wholeP 18 in
    let T = throughP P Q R in let U = throughP (imageP X Y Z P) (imageP X Y Z Q) (imageP X Y Z R) in
    ring (of_map f (a ∷ b ∷ c ∷ d ∷ e ∷ g ∷ h ∷ i ∷ j ∷ [])) (times (determinantP X.a X.b X.c Y.a Y.b Y.c Z.a Z.b Z.c) T.a) (plus (plus (times X.a U.a) (times Y.a U.b)) (times Z.a U.c)) refl

moved_b : (f : Affine) (a b c d e g h i j : ℤ) → let t = plane_of_points (whole a b c) (whole d e g) (whole h i j) in let u = plane_of_points (image f (whole a b c)) (image f (whole d e g)) (image f (whole h i j)) in
    determinant_of f *ℤ t.b ≡ f.x.b *ℤ u.a +ℤ f.y.b *ℤ u.b +ℤ f.z.b *ℤ u.c
moved_b f a b c d e g h i j =
    let X = form 0 in let Y = form 4 in let Z = form 8 in let P = wholeP 12 in let Q = wholeP 15 in let R = wholeP 18 in
    let T = throughP P Q R in let U = throughP (imageP X Y Z P) (imageP X Y Z Q) (imageP X Y Z R) in
    ring (of_map f (a ∷ b ∷ c ∷ d ∷ e ∷ g ∷ h ∷ i ∷ j ∷ [])) (times (determinantP X.a X.b X.c Y.a Y.b Y.c Z.a Z.b Z.c) T.b) (plus (plus (times X.b U.a) (times Y.b U.b)) (times Z.b U.c)) refl

moved_c : (f : Affine) (a b c d e g h i j : ℤ) → let t = plane_of_points (whole a b c) (whole d e g) (whole h i j) in let u = plane_of_points (image f (whole a b c)) (image f (whole d e g)) (image f (whole h i j)) in
    determinant_of f *ℤ t.c ≡ f.x.c *ℤ u.a +ℤ f.y.c *ℤ u.b +ℤ f.z.c *ℤ u.c
moved_c f a b c d e g h i j =
    let X = form 0 in let Y = form 4 in let Z = form 8 in let P = wholeP 12 in let Q = wholeP 15 in let R = wholeP 18 in
    let T = throughP P Q R in let U = throughP (imageP X Y Z P) (imageP X Y Z Q) (imageP X Y Z R) in
    ring (of_map f (a ∷ b ∷ c ∷ d ∷ e ∷ g ∷ h ∷ i ∷ j ∷ [])) (times (determinantP X.a X.b X.c Y.a Y.b Y.c Z.a Z.b Z.c) T.c) (plus (plus (times X.c U.a) (times Y.c U.b)) (times Z.c U.c)) refl

-- a number times 0, three times
pub no_sum : (x y z u v w : ℤ) → u ≡ pos 0 → v ≡ pos 0 → w ≡ pos 0 → x *ℤ u +ℤ y *ℤ v +ℤ z *ℤ w ≡ pos 0
no_sum x y z u v w eu ev ew = rw (eu, ev, ew) (ring (x ∷ y ∷ z ∷ []) (plus (plus (times (var 0) (num (pos 0))) (times (var 1) (num (pos 0)))) (times (var 2) (num (pos 0)))) (num (pos 0)) refl)

pub cancelled : (k x : ℤ) → (k ≡ pos 0 → ⊥) → k *ℤ x ≡ pos 0 → x ≡ pos 0
cancelled k x n e =
    elim (signs x) [
      | inl below ↦ absurd (no_product k x n (λ z. omega (arith, sums, z)) e)
      | inr other ↦ elim other [ inl none ↦ none | inr above ↦ absurd (no_product k x n (λ z. omega (arith, sums, z)) e) ]
    ]

-- points whose images are on one line are on one line
pub collinear_before : (f : Affine) (a b c d e g h i j : ℤ) → (determinant_of f ≡ pos 0 → ⊥) → AreCollinear (image f (whole a b c)) (image f (whole d e g)) (image f (whole h i j)) → AreCollinear (whole a b c) (whole d e g) (whole h i j)
collinear_before f a b c d e g h i j n k = record {
  a = cancelled (determinant_of f) _ n (moved_a f a b c d e g h i j ∙ no_sum f.x.a f.y.a f.z.a _ _ _ k.a k.b k.c);
  b = cancelled (determinant_of f) _ n (moved_b f a b c d e g h i j ∙ no_sum f.x.b f.y.b f.z.b _ _ _ k.a k.b k.c);
  c = cancelled (determinant_of f) _ n (moved_c f a b c d e g h i j ∙ no_sum f.x.c f.y.c f.z.c _ _ _ k.a k.b k.c);
}
