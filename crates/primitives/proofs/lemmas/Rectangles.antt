-- A rectangle of sides above 0 is a convex polygon.
use Rattle.std.proofs.Common.{◌≡◌, zero, suc, ◌≤◌, Bool, List, [], ◌∷◌, get_or, length, refl, arith, ℤ, pos, ◌-ℤ◌, ◌*ℤ◌, ◌<ℤ◌, ◌≤ℤ◌, inl}
use Rattle.std.proofs.lemmas.List.Elements.{All-from_recursion}
use Rattle.plane_predicate.specs.declared.unit.Unit.{Unit as LengthUnit}
use Rattle.plane_predicate.proofs.lemmas.IntegerRing.{sums}
use Rattle.plane_predicate.proofs.lemmas.Polynomials.{Poly, var, minus, times, ring}
use Rattle.plane_predicate.proofs.lemmas.Signs.{least_least, pos_pos}
use Rattle.plane_predicate.proofs.lemmas.Vectors.{minorP}
use Rattle.primitives.specs.Sizes.{AreSizes}
use Rattle.primitives.specs.Polygons.{orientation, rectangle_of, square_of, GoesLeft, IsConvexPolygon, IsFlatShape, IsSafePoint}
use Rattle.primitives.proofs.lemmas.EndFaces.{AreEnds, ends_of_side}

abbrev turnP : Poly → Poly → Poly → Poly → Poly → Poly → Poly
turnP p q s t u v = minorP (minus s p) (minus t q) (minus u p) (minus v q)

-- ---- the turns at the four ways
low_way : (a b c x y : ℤ) → orientation (a ∷ c ∷ []) (b ∷ c ∷ []) (x ∷ y ∷ []) ≡ (b -ℤ a) *ℤ (y -ℤ c)
low_way a b c x y = ring (a ∷ b ∷ c ∷ x ∷ y ∷ []) (turnP (var 0) (var 2) (var 1) (var 2) (var 3) (var 4)) (times (minus (var 1) (var 0)) (minus (var 4) (var 2))) refl

right_way : (b c d x y : ℤ) → orientation (b ∷ c ∷ []) (b ∷ d ∷ []) (x ∷ y ∷ []) ≡ (d -ℤ c) *ℤ (b -ℤ x)
right_way b c d x y = ring (b ∷ c ∷ d ∷ x ∷ y ∷ []) (turnP (var 0) (var 1) (var 0) (var 2) (var 3) (var 4)) (times (minus (var 2) (var 1)) (minus (var 0) (var 3))) refl

high_way : (a b d x y : ℤ) → orientation (b ∷ d ∷ []) (a ∷ d ∷ []) (x ∷ y ∷ []) ≡ (b -ℤ a) *ℤ (d -ℤ y)
high_way a b d x y = ring (a ∷ b ∷ d ∷ x ∷ y ∷ []) (turnP (var 1) (var 2) (var 0) (var 2) (var 3) (var 4)) (times (minus (var 1) (var 0)) (minus (var 2) (var 4))) refl

left_way : (a c d x y : ℤ) → orientation (a ∷ d ∷ []) (a ∷ c ∷ []) (x ∷ y ∷ []) ≡ (d -ℤ c) *ℤ (x -ℤ a)
left_way a c d x y = ring (a ∷ c ∷ d ∷ x ∷ y ∷ []) (turnP (var 0) (var 2) (var 0) (var 1) (var 3) (var 4)) (times (minus (var 2) (var 1)) (minus (var 3) (var 0))) refl

least_turn : (t a b c d : ℤ) → t ≡ (b -ℤ a) *ℤ (d -ℤ c) → a ≤ℤ b → c ≤ℤ d → pos 0 ≤ℤ t
least_turn t a b c d e h g =
    let first : pos 0 ≤ℤ (b -ℤ a) = omega (arith, sums, h) in
    let second : pos 0 ≤ℤ (d -ℤ c) = omega (arith, sums, g) in
    omega (arith, sums, e, least_least (b -ℤ a) (d -ℤ c) first second)

some_turn : (t a b c d : ℤ) → t ≡ (b -ℤ a) *ℤ (d -ℤ c) → a <ℤ b → c <ℤ d → t ≡ pos 0 → ⊥
some_turn t a b c d e h g none =
    let first : pos 0 <ℤ (b -ℤ a) = omega (arith, sums, h) in
    let second : pos 0 <ℤ (d -ℤ c) = omega (arith, sums, g) in
    omega (arith, sums, e, none, pos_pos (b -ℤ a) (d -ℤ c) first second)

most_itself : (a : ℤ) → a ≤ℤ a
most_itself a = omega (arith, sums)

most_of_less : (a b : ℤ) → a <ℤ b → a ≤ℤ b
most_of_less a b h = omega (arith, sums, h)

goes_round : (a b c d : ℤ) → a <ℤ b → c <ℤ d → GoesLeft (rectangle_of a b c d)
goes_round a b c d hx hy zero lt =
    let x = most_of_less a b hx in let y = most_of_less c d hy in
    All-from_recursion (λ (r : List ℤ). pos 0 ≤ℤ orientation (a ∷ c ∷ []) (b ∷ c ∷ []) r) (rectangle_of a b c d)
    (least_turn _ a b c c (low_way a b c a c) x (most_itself c), (least_turn _ a b c c (low_way a b c b c) x (most_itself c), (least_turn _ a b c d (low_way a b c b d) x y, (least_turn _ a b c d (low_way a b c a d) x y, tt))))
goes_round a b c d hx hy (suc zero) lt =
    let x = most_of_less a b hx in let y = most_of_less c d hy in
    All-from_recursion (λ (r : List ℤ). pos 0 ≤ℤ orientation (b ∷ c ∷ []) (b ∷ d ∷ []) r) (rectangle_of a b c d)
    (least_turn _ c d a b (right_way b c d a c) y x, (least_turn _ c d b b (right_way b c d b c) y (most_itself b), (least_turn _ c d b b (right_way b c d b d) y (most_itself b), (least_turn _ c d a b (right_way b c d a d) y x, tt))))
goes_round a b c d hx hy (suc (suc zero)) lt =
    let x = most_of_less a b hx in let y = most_of_less c d hy in
    All-from_recursion (λ (r : List ℤ). pos 0 ≤ℤ orientation (b ∷ d ∷ []) (a ∷ d ∷ []) r) (rectangle_of a b c d)
    (least_turn _ a b c d (high_way a b d a c) x y, (least_turn _ a b c d (high_way a b d b c) x y, (least_turn _ a b d d (high_way a b d b d) x (most_itself d), (least_turn _ a b d d (high_way a b d a d) x (most_itself d), tt))))
goes_round a b c d hx hy (suc (suc (suc zero))) lt =
    let x = most_of_less a b hx in let y = most_of_less c d hy in
    All-from_recursion (λ (r : List ℤ). pos 0 ≤ℤ orientation (a ∷ d ∷ []) (a ∷ c ∷ []) r) (rectangle_of a b c d)
    (least_turn _ c d a a (left_way a c d a c) y (most_itself a), (least_turn _ c d a b (left_way a c d b c) y x, (least_turn _ c d a b (left_way a c d b d) y x, (least_turn _ c d a a (left_way a c d a d) y (most_itself a), tt))))
goes_round a b c d hx hy (suc (suc (suc (suc n)))) lt = absurd (omega arith)

rectangle_convex : (a b c d : ℤ) → a <ℤ b → c <ℤ d → IsConvexPolygon (rectangle_of a b c d)
rectangle_convex a b c d hx hy = record {
  goes = inl (goes_round a b c d hx hy);
  corner = record { first = 0; second = 1; third = 2; first_in = omega arith; second_in = omega arith; third_in = omega arith; apart = some_turn _ a b c d (low_way a b c b d) hx hy };
}

rectangle_is_flat : (a b c d : ℤ) → AreEnds a b → AreEnds c d → IsFlatShape (rectangle_of a b c d)
rectangle_is_flat a b c d x y = record {
  most = omega arith;
  convex = rectangle_convex a b c d x.apart y.apart;
  safe = All-from_recursion IsSafePoint (rectangle_of a b c d)
      (record { x_safe = x.low_safe; y_safe = y.low_safe }, (record { x_safe = x.high_safe; y_safe = y.low_safe }, (record { x_safe = x.high_safe; y_safe = y.high_safe }, (record { x_safe = x.low_safe; y_safe = y.high_safe }, tt))));
}

pub same_rectangle : (a b c d e f g h : ℤ) → a ≡ e → b ≡ f → c ≡ g → d ≡ h → rectangle_of a b c d ≡ rectangle_of e f g h
same_rectangle a b c d e f g h ha hb hc hd = λ i. rectangle_of (ha i) (hb i) (hc i) (hd i)

pub square_is_flat : (unit : LengthUnit) (center : Bool) (size : List ℤ) → 2 ≤ length size → AreSizes unit center size → IsFlatShape (square_of unit center size)
square_is_flat unit center size two h =
    rectangle_is_flat _ _ _ _
    (ends_of_side unit center (get_or size 0 (pos 0)) (h.long 0 (pos 0) (omega (arith, two))) (h.safe 0 (pos 0) (omega (arith, two))))
    (ends_of_side unit center (get_or size 1 (pos 0)) (h.long 1 (pos 0) (omega (arith, two))) (h.safe 1 (pos 0) (omega (arith, two))))
