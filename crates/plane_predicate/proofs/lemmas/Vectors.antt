-- Planes and points whose numbers are polynomials, for `ring`.
use Rattle.std.proofs.Common.{◌≡◌, ℕ, ◌+◌, List, ◌∷◌, refl, ℤ, neg_ℤ, arith}
use Rattle.plane_predicate.specs.Space.{Coefficients, Coordinates, value as plane_value, opposite_of}
use Rattle.plane_predicate.proofs.lemmas.IntegerRing.{sums, mul_neg_left}
use Rattle.plane_predicate.proofs.lemmas.Polynomials.{Poly, var, plus, times, minus, value}

pub record Form : Type 0 where
  pub a : Poly
  pub b : Poly
  pub c : Poly
  pub d : Poly

pub record Place : Type 0 where
  pub x : Poly
  pub y : Poly
  pub z : Poly
  pub w : Poly

-- the four variables from number i on
abbrev pub form : ℕ → Form
form i = record { a = var i; b = var (i + 1); c = var (i + 2); d = var (i + 3) }

abbrev pub place : ℕ → Place
place i = record { x = var i; y = var (i + 1); z = var (i + 2); w = var (i + 3) }

abbrev pub of_plane : Coefficients → List ℤ → List ℤ
of_plane m rest = m.a ∷ m.b ∷ m.c ∷ m.d ∷ rest

abbrev pub of_point : Coordinates → List ℤ → List ℤ
of_point p rest = p.x ∷ p.y ∷ p.z ∷ p.w ∷ rest

-- the plane and the point that the polynomials are at these numbers
abbrev pub plane_of : List ℤ → Form → Coefficients
plane_of xs m = record { a = value xs m.a; b = value xs m.b; c = value xs m.c; d = value xs m.d }

abbrev pub point_of : List ℤ → Place → Coordinates
point_of xs p = record { x = value xs p.x; y = value xs p.y; z = value xs p.z; w = value xs p.w }

abbrev pub valueP : Form → Place → Poly
valueP m p = minus (plus (plus (times m.a p.x) (times m.b p.y)) (times m.c p.z)) (times m.d p.w)

pub value-at : (xs : List ℤ) (m : Form) (p : Place) → plane_value (plane_of xs m) (point_of xs p) ≡ value xs (valueP m p)
value-at xs m p = refl

-- the opposite plane has the opposite value
pub value-opposite : (m : Coefficients) (p : Coordinates) → plane_value (opposite_of m) p ≡ neg_ℤ (plane_value m p)
value-opposite m p = omega (arith, sums, mul_neg_left m.a p.x, mul_neg_left m.b p.y, mul_neg_left m.c p.z, mul_neg_left m.d p.w)

abbrev pub minorP : Poly → Poly → Poly → Poly → Poly
minorP a b c d = minus (times a d) (times b c)

abbrev pub determinantP : Poly → Poly → Poly → Poly → Poly → Poly → Poly → Poly → Poly → Poly
determinantP a b c d e f g h i = plus (plus (times a (minorP e f h i)) (times b (minorP f d i g))) (times c (minorP d e g h))

abbrev pub productP : Form → Place → Place → Poly
productP n p q = determinantP n.a n.b n.c p.x p.y p.z q.x q.y q.z

abbrev pub turnP : Form → Place → Place → Place → Poly
turnP n p q r = plus (plus (times p.w (productP n q r)) (times q.w (productP n r p))) (times r.w (productP n p q))

abbrev pub innerP : Form → Form → Poly
innerP m n = plus (plus (times m.a n.a) (times m.b n.b)) (times m.c n.c)

abbrev pub combineP : Poly → Place → Poly → Place → Place
combineP u p v q = record { x = plus (times u p.x) (times v q.x); y = plus (times u p.y) (times v q.y); z = plus (times u p.z) (times v q.z); w = plus (times u p.w) (times v q.w) }

abbrev pub cramerP : Form → Form → Form → Place
cramerP p q r = record {
  x = determinantP p.d p.b p.c q.d q.b q.c r.d r.b r.c;
  y = determinantP p.a p.d p.c q.a q.d q.c r.a r.d r.c;
  z = determinantP p.a p.b p.d q.a q.b q.d r.a r.b r.d;
  w = determinantP p.a p.b p.c q.a q.b q.c r.a r.b r.c;
}
