-- Planes through the corners of a face.
use Rattle.std.proofs.Common.{◌≡◌, ℕ, ◌+◌, ◌<◌, List, [], get_or, sym, ap, ◌∙◌, subst, All, arith, ℤ, pos, negsuc, zero, suc, ◌*ℤ◌, unsigned_abs}
use Rattle.plane_predicate.specs.Space.{Coefficients, Coordinates, value, plane_of_points}
use Rattle.plane_predicate.proofs.lemmas.IntegerRing.{sums, mul_comm_ℤ, zero_mul}
use Rattle.primitives.specs.Shapes.{mesh_point, value_at_point, HasTriangle}
use Rattle.primitives.proofs.lemmas.Moves.{cancelled}
use Rattle.primitives.proofs.lemmas.OnePlane.{in_proportion, nowhere, some_direction}
use Rattle.primitives.specs.Checks.{IsFlatFace}
use Rattle.primitives.specs.CornerPlanes.{IsCornerPlane}

-- a plane through all corners of a face
pub record IsOnFace (points : List (List ℤ)) (face : List ℕ) (m : Coefficients) : Type 0 where
  pub directed : 0 < unsigned_abs m.a + unsigned_abs m.b + unsigned_abs m.c
  pub on : All (λ i. value_at_point points m i ≡ pos 0) face

pub no_size : (a b c : ℤ) → 0 < unsigned_abs a + unsigned_abs b + unsigned_abs c → a ≡ pos 0 → b ≡ pos 0 → c ≡ pos 0 → ⊥
no_size a b c h ea eb ec = omega (arith, h, ap unsigned_abs ea, ap unsigned_abs eb, ap unsigned_abs ec)

-- the plane that three corners span
abbrev pub spanned : (points : List (List ℤ)) (face : List ℕ) (i j k : ℕ) → Coefficients
spanned points face i j k = plane_of_points (mesh_point points (get_or face i 0)) (mesh_point points (get_or face j 0)) (mesh_point points (get_or face k 0))

-- the values of a plane through the corners of a face and of the one that three corners span are in proportion
pub proportion : (points : List (List ℤ)) (face : List ℕ) (m n : Coefficients) → All (λ (i : ℕ). value_at_point points m i ≡ pos 0) face → IsCornerPlane points face n → (p q : Coordinates) → value m p *ℤ value n q ≡ value m q *ℤ value n p
proportion points face m n on s p q =
    let a : List ℤ = get_or points (get_or face s.first 0) [] in let b : List ℤ = get_or points (get_or face s.second 0) [] in let d : List ℤ = get_or points (get_or face s.third 0) [] in
    subst (λ (k : Coefficients). value m p *ℤ value k q ≡ value m q *ℤ value k p) (sym s.is)
    (in_proportion m (get_or a 0 (pos 0)) (get_or a 1 (pos 0)) (get_or a 2 (pos 0)) (get_or b 0 (pos 0)) (get_or b 1 (pos 0)) (get_or b 2 (pos 0)) (get_or d 0 (pos 0)) (get_or d 1 (pos 0)) (get_or d 2 (pos 0))
    (record { first = on s.first 0 s.first_in; second = on s.second 0 s.second_in; third = on s.third 0 s.third_in }) p q)

pub no_product : (x y z w : ℤ) → x *ℤ y ≡ z *ℤ w → x ≡ pos 0 → (w ≡ pos 0 → ⊥) → z ≡ pos 0
no_product x y z w e h n = cancelled w z n (mul_comm_ℤ w z ∙ sym e ∙ ap (λ (k : ℤ). k *ℤ y) h ∙ zero_mul y)

pub is_zero_or_not : (x : ℤ) → ((x ≡ pos 0 → ⊥) → ⊥) → x ≡ pos 0
is_zero_or_not (pos zero) h = λ i. pos zero
is_zero_or_not (pos (suc n)) h = absurd (h (λ e. omega (arith, sums, e)))
is_zero_or_not (negsuc n) h = absurd (h (λ e. omega (arith, sums, e)))

-- where a plane through the corners of a face is 0, so is the one that three corners span
pub spanned_holds : (points : List (List ℤ)) (face : List ℕ) (m n : Coefficients) → 0 < unsigned_abs m.a + unsigned_abs m.b + unsigned_abs m.c → All (λ (i : ℕ). value_at_point points m i ≡ pos 0) face → IsCornerPlane points face n → (p : Coordinates) → value m p ≡ pos 0 → value n p ≡ pos 0
spanned_holds points face m n directed on s p e =
    is_zero_or_not (value n p) (λ off.
    let all : (q : Coordinates) → value m q ≡ pos 0 = λ q. no_product (value m p) (value n q) (value m q) (value n p) (proportion points face m n on s p q) e off in
    let none = nowhere m all in
    no_size m.a m.b m.c directed none.0 none.1 none.2)

-- the plane that three corners span has a direction
pub spanned_directed : (points : List (List ℤ)) (face : List ℕ) (n : Coefficients) → IsCornerPlane points face n → 0 < unsigned_abs n.a + unsigned_abs n.b + unsigned_abs n.c
spanned_directed points face n s =
    subst (λ (k : Coefficients). 0 < unsigned_abs k.a + unsigned_abs k.b + unsigned_abs k.c) (sym s.is) (some_direction _ _ _ (λ ea eb ec. s.apart (record { a = ea; b = eb; c = ec })))

pub triangle_of : (points : List (List ℤ)) (face : List ℕ) (n : Coefficients) → IsCornerPlane points face n → HasTriangle points face
triangle_of points face n s = record { first = s.first; second = s.second; third = s.third; first_in = s.first_in; second_in = s.second_in; third_in = s.third_in; apart = s.apart }

pub flat_by : (points : List (List ℤ)) (face : List ℕ) (n : Coefficients) → IsCornerPlane points face n → All (λ (i : ℕ). value_at_point points n i ≡ pos 0) face → IsFlatFace points face
flat_by points face n s on = record { triangle = triangle_of points face n s; plane = n; directed = spanned_directed points face n s; on = on }

pub flat_on : (points : List (List ℤ)) (face : List ℕ) (n : Coefficients) → IsCornerPlane points face n → IsFlatFace points face → All (λ (i : ℕ). value_at_point points n i ≡ pos 0) face
flat_on points face n s h = λ k d lt. spanned_holds points face h.plane n h.directed h.on s (mesh_point points (get_or face k d)) (h.on k d lt)
