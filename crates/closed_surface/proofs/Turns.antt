-- Turns about a line.
use Rattle.std.proofs.Common.{◌≡◌, ℕ, ◌+◌, List, [], ◌∷◌, refl, ◌∙◌, arith, ℤ, pos, ◌+ℤ◌, ◌-ℤ◌, ◌*ℤ◌, neg_ℤ}
use Rattle.plane_predicate.specs.Space.{Coefficients, opposite_of, minor}
use Rattle.plane_predicate.proofs.lemmas.IntegerRing.{sums, mul_neg_left}
use Rattle.plane_predicate.proofs.lemmas.Polynomials.{Poly, var, num, plus, times, minus, ring}
use Rattle.plane_predicate.proofs.lemmas.Vectors.{Form, form, of_plane, determinantP}
use Rattle.closed_surface.specs.Ways.{Direction}
use Rattle.closed_surface.specs.Around.{triple_product_of}

abbrev of_direction : Direction → List ℤ
of_direction d = d.x ∷ d.y ∷ d.z ∷ []

-- with the direction's numbers at place i
abbrev turn_aboutP : ℕ → Form → Form → Poly
turn_aboutP i m n = determinantP m.a m.b m.c n.a n.b n.c (var i) (var (i + 1)) (var (i + 2))

zero_minus : (x : ℤ) → pos 0 -ℤ x ≡ neg_ℤ x
zero_minus x = omega (arith, sums)

pub turn_exchanged : (d : Direction) (m n : Coefficients) → triple_product_of d n m ≡ neg_ℤ (triple_product_of d m n)
turn_exchanged d m n =
    ring (of_plane m (of_plane n (of_direction d))) (turn_aboutP 8 (form 4) (form 0)) (minus (num (pos 0)) (turn_aboutP 8 (form 0) (form 4))) refl
    ∙ zero_minus (triple_product_of d m n)

pub turn_itself : (d : Direction) (n : Coefficients) → triple_product_of d n n ≡ pos 0
turn_itself d n = ring (of_plane n (of_direction d)) (turn_aboutP 4 (form 0) (form 0)) (num (pos 0)) refl

-- four planes
pub four_turns : (d : Direction) (a r w b : Coefficients) →
    triple_product_of d a r *ℤ triple_product_of d w b -ℤ triple_product_of d a w *ℤ triple_product_of d r b +ℤ triple_product_of d a b *ℤ triple_product_of d r w ≡ pos 0
four_turns d a r w b =
    let A = form 0 in let R = form 4 in let W = form 8 in let B = form 12 in
    ring (of_plane a (of_plane r (of_plane w (of_plane b (of_direction d)))))
    (plus (minus (times (turn_aboutP 16 A R) (turn_aboutP 16 W B)) (times (turn_aboutP 16 A W) (turn_aboutP 16 R B))) (times (turn_aboutP 16 A B) (turn_aboutP 16 R W)))
    (num (pos 0)) refl

-- the opposite plane
pub opposite_turn : (d : Direction) (m n : Coefficients) → triple_product_of d (opposite_of m) n ≡ neg_ℤ (triple_product_of d m n)
opposite_turn d m n =
    omega (arith, sums, mul_neg_left m.a (minor n.b n.c d.y d.z), mul_neg_left m.b (minor n.c n.a d.z d.x), mul_neg_left m.c (minor n.a n.b d.x d.y))

exchange_back : (x y z w : ℤ) → x ≡ neg_ℤ y → y ≡ neg_ℤ z → z ≡ neg_ℤ w → x ≡ neg_ℤ w
exchange_back x y z w h k l = omega (arith, sums)

-- the opposite half
pub turn_opposite : (d : Direction) (m n : Coefficients) → triple_product_of d m (opposite_of n) ≡ neg_ℤ (triple_product_of d m n)
turn_opposite d m n = exchange_back (triple_product_of d m (opposite_of n)) (triple_product_of d (opposite_of n) m) (triple_product_of d n m) (triple_product_of d m n)
    (turn_exchanged d (opposite_of n) m) (opposite_turn d n m) (turn_exchanged d m n)
