-- Planes through three points that are not on one line have their values in one proportion.
use Rattle.std.proofs.Common.{◌≡◌, ◌+◌, ◌<◌, [], ◌∷◌, refl, sym, ap, ◌∙◌, arith, ℤ, pos, negsuc, zero, suc, ◌+ℤ◌, ◌-ℤ◌, ◌*ℤ◌, ◌<ℤ◌, unsigned_abs}
use Rattle.plane_predicate.specs.Space.{Coefficients, Coordinates, value, determinant, plane_of_points, AreCollinear}
use Rattle.plane_predicate.proofs.lemmas.IntegerRing.{sums, zero_mul, mul_comm_ℤ}
use Rattle.plane_predicate.proofs.lemmas.Polynomials.{Poly, var, num, plus, times, minus, ring}
use Rattle.plane_predicate.proofs.lemmas.Vectors.{Place, form, place, of_plane, of_point, valueP, determinantP}
use Rattle.primitives.proofs.lemmas.Moves.{cancelled, whole, throughP, wholeP}

-- the determinant of four points
abbrev volume : Coordinates → Coordinates → Coordinates → Coordinates → ℤ
volume p q r s =
    s.x *ℤ determinant p.y p.z p.w q.y q.z q.w r.y r.z r.w
    -ℤ s.y *ℤ determinant p.x p.z p.w q.x q.z q.w r.x r.z r.w
    +ℤ s.z *ℤ determinant p.x p.y p.w q.x q.y q.w r.x r.y r.w
    -ℤ s.w *ℤ determinant p.x p.y p.z q.x q.y q.z r.x r.y r.z

abbrev volumeP : Place → Place → Place → Place → Poly
volumeP p q r s =
    minus (plus (minus (times s.x (determinantP p.y p.z p.w q.y q.z q.w r.y r.z r.w)) (times s.y (determinantP p.x p.z p.w q.x q.z q.w r.x r.z r.w))) (times s.z (determinantP p.x p.y p.w q.x q.y q.w r.x r.y r.w))) (times s.w (determinantP p.x p.y p.z q.x q.y q.z r.x r.y r.z))

-- five points of space are dependent
five_points : (m : Coefficients) (a b c d e g h i j : ℤ) (p q : Coordinates) →
    let A = whole a b c in let B = whole d e g in let C = whole h i j in let t = plane_of_points A B C in
    value m p *ℤ value t q -ℤ value m q *ℤ value t p ≡ value m A *ℤ volume B C p q -ℤ value m B *ℤ volume A C p q +ℤ value m C *ℤ volume A B p q
five_points m a b c d e g h i j p q =
    let M = form 0 in let P = place 4 in let Q = place 8 in let A = wholeP 12 in let B = wholeP 15 in let C = wholeP 18 in
    let T = throughP A B C in
    ring (of_plane m (of_point p (of_point q (a ∷ b ∷ c ∷ d ∷ e ∷ g ∷ h ∷ i ∷ j ∷ []))))
    (minus (times (valueP M P) (valueP T Q)) (times (valueP M Q) (valueP T P)))
    (plus (minus (times (valueP M A) (volumeP B C P Q)) (times (valueP M B) (volumeP A C P Q))) (times (valueP M C) (volumeP A B P Q)))
    refl

no_terms : (x y z u v w : ℤ) → u ≡ pos 0 → v ≡ pos 0 → w ≡ pos 0 → u *ℤ x -ℤ v *ℤ y +ℤ w *ℤ z ≡ pos 0
no_terms x y z u v w eu ev ew = rw (eu, ev, ew) (ring (x ∷ y ∷ z ∷ []) (plus (minus (times (num (pos 0)) (var 0)) (times (num (pos 0)) (var 1))) (times (num (pos 0)) (var 2))) (num (pos 0)) refl)

no_difference : (x y : ℤ) → x -ℤ y ≡ pos 0 → x ≡ y
no_difference x y e = omega (arith, sums, e)

-- a plane that goes through the three points
pub record GoesThrough (m : Coefficients) (a b c : Coordinates) : Type 0 where
  pub first : value m a ≡ pos 0
  pub second : value m b ≡ pos 0
  pub third : value m c ≡ pos 0

pub in_proportion : (m : Coefficients) (a b c d e g h i j : ℤ) → let A = whole a b c in let B = whole d e g in let C = whole h i j in GoesThrough m A B C → (p q : Coordinates) → value m p *ℤ value (plane_of_points A B C) q ≡ value m q *ℤ value (plane_of_points A B C) p
in_proportion m a b c d e g h i j t p q = no_difference _ _ (five_points m a b c d e g h i j p q ∙ no_terms _ _ _ _ _ _ t.first t.second t.third)

-- the values of a plane at the ends of the axes
at_x : (a b c d : ℤ) → a *ℤ pos 1 +ℤ b *ℤ pos 0 +ℤ c *ℤ pos 0 -ℤ d *ℤ pos 0 ≡ a
at_x a b c d = ring (a ∷ b ∷ c ∷ d ∷ []) (minus (plus (plus (times (var 0) (num (pos 1))) (times (var 1) (num (pos 0)))) (times (var 2) (num (pos 0)))) (times (var 3) (num (pos 0)))) (var 0) refl

at_y : (a b c d : ℤ) → a *ℤ pos 0 +ℤ b *ℤ pos 1 +ℤ c *ℤ pos 0 -ℤ d *ℤ pos 0 ≡ b
at_y a b c d = ring (a ∷ b ∷ c ∷ d ∷ []) (minus (plus (plus (times (var 0) (num (pos 0))) (times (var 1) (num (pos 1)))) (times (var 2) (num (pos 0)))) (times (var 3) (num (pos 0)))) (var 1) refl

at_z : (a b c d : ℤ) → a *ℤ pos 0 +ℤ b *ℤ pos 0 +ℤ c *ℤ pos 1 -ℤ d *ℤ pos 0 ≡ c
at_z a b c d = ring (a ∷ b ∷ c ∷ d ∷ []) (minus (plus (plus (times (var 0) (num (pos 0))) (times (var 1) (num (pos 0)))) (times (var 2) (num (pos 1)))) (times (var 3) (num (pos 0)))) (var 2) refl

-- a plane that is 0 everywhere has no direction
pub nowhere : (m : Coefficients) → ((p : Coordinates) → value m p ≡ pos 0) → (m.a ≡ pos 0) × (m.b ≡ pos 0) × (m.c ≡ pos 0)
nowhere m h = (
  sym (at_x m.a m.b m.c m.d) ∙ h (record { x = pos 1; y = pos 0; z = pos 0; w = pos 0 }),
  sym (at_y m.a m.b m.c m.d) ∙ h (record { x = pos 0; y = pos 1; z = pos 0; w = pos 0 }),
  sym (at_z m.a m.b m.c m.d) ∙ h (record { x = pos 0; y = pos 0; z = pos 1; w = pos 0 }),
)

pub not_zero_below : (x : ℤ) → x <ℤ pos 0 → x ≡ pos 0 → ⊥
not_zero_below x h e = omega (arith, sums, h, e)

-- a point that a plane through the three points doesn't hold is on no plane through them
pub off_the_plane : (m : Coefficients) (a b c d e g h i j : ℤ) → let A = whole a b c in let B = whole d e g in let C = whole h i j in GoesThrough m A B C → (AreCollinear A B C → ⊥) → (q : Coordinates) → (value m q ≡ pos 0 → ⊥) → value (plane_of_points A B C) q ≡ pos 0 → ⊥
off_the_plane m a b c d e g h i j t n q off zero_at =
    let T = plane_of_points (whole a b c) (whole d e g) (whole h i j) in
    let all : (p : Coordinates) → value T p ≡ pos 0 = λ p. cancelled (value m q) (value T p) off (sym (in_proportion m a b c d e g h i j t p q) ∙ ap (λ (z : ℤ). value m p *ℤ z) zero_at ∙ mul_comm_ℤ (value m p) (pos 0) ∙ zero_mul (value m p)) in
    let none = nowhere T all in
    n (record { a = none.0; b = none.1; c = none.2 })

-- x v s = u y s, where x s = u t and y s = v t
crossed : (x y u v s t : ℤ) → (s ≡ pos 0 → ⊥) → x *ℤ s ≡ u *ℤ t → y *ℤ s ≡ v *ℤ t → x *ℤ v ≡ y *ℤ u
crossed x y u v s t n e f =
    let first = ring (x ∷ v ∷ s ∷ []) (times (var 2) (times (var 0) (var 1))) (times (times (var 0) (var 2)) (var 1)) refl in
    let second = ring (u ∷ v ∷ t ∷ []) (times (times (var 0) (var 2)) (var 1)) (times (times (var 1) (var 2)) (var 0)) refl in
    let third = ring (y ∷ u ∷ s ∷ []) (times (times (var 0) (var 2)) (var 1)) (times (var 2) (times (var 0) (var 1))) refl in
    let both : s *ℤ (x *ℤ v) ≡ s *ℤ (y *ℤ u) = first ∙ ap (λ (z : ℤ). z *ℤ v) e ∙ second ∙ ap (λ (z : ℤ). z *ℤ u) (sym f) ∙ third in
    let apart : s *ℤ (x *ℤ v -ℤ y *ℤ u) ≡ pos 0 = ring (s ∷ (x *ℤ v) ∷ (y *ℤ u) ∷ []) (times (var 0) (minus (var 1) (var 2))) (minus (times (var 0) (var 1)) (times (var 0) (var 2))) refl ∙ omega (arith, sums, both) in
    no_difference (x *ℤ v) (y *ℤ u) (cancelled s (x *ℤ v -ℤ y *ℤ u) n apart)

-- the values of two planes through the three points, one of which misses the point q
pub two_planes : (m n : Coefficients) (a b c d e g h i j : ℤ) → let A = whole a b c in let B = whole d e g in let C = whole h i j in GoesThrough m A B C → GoesThrough n A B C → (AreCollinear A B C → ⊥) → (q : Coordinates) → (value m q ≡ pos 0 → ⊥) → (p : Coordinates) → value m p *ℤ value n q ≡ value n p *ℤ value m q
two_planes m n a b c d e g h i j tm tn apart q off p =
    let T = plane_of_points (whole a b c) (whole d e g) (whole h i j) in
    crossed (value m p) (value n p) (value m q) (value n q) (value T q) (value T p) (off_the_plane m a b c d e g h i j tm apart q off) (in_proportion m a b c d e g h i j tm p q) (in_proportion n a b c d e g h i j tn p q)

pub some_direction : (a b c : ℤ) → (a ≡ pos 0 → b ≡ pos 0 → c ≡ pos 0 → ⊥) → 0 < unsigned_abs a + unsigned_abs b + unsigned_abs c
some_direction (pos (suc n)) b c h = omega arith
some_direction (negsuc n) b c h = omega arith
some_direction (pos zero) (pos (suc n)) c h = omega arith
some_direction (pos zero) (negsuc n) c h = omega arith
some_direction (pos zero) (pos zero) (pos (suc n)) h = omega arith
some_direction (pos zero) (pos zero) (negsuc n) h = omega arith
some_direction (pos zero) (pos zero) (pos zero) h = absurd (h refl refl refl)
