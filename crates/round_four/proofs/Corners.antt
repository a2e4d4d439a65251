-- The corners of the ends of a cylinder, and how far they reach in four directions.
use Rattle.std.proofs.Common.{◌≡◌, ◌⊎◌, inl, inr, List, [], ◌∷◌, ◌++◌, map, All, subst, sym, refl, arith, ℤ, pos, negsuc, neg_ℤ, ◌+ℤ◌, ◌*ℤ◌, ◌<ℤ◌, ◌≤ℤ◌}
use Rattle.std.proofs.lemmas.Int.{ints}
use Rattle.std.proofs.lemmas.List.Elements.{All-append, All-from_recursion}
use Rattle.std.proofs.Math.IntN.{*ℤ-zero}
use Rattle.plane_predicate.specs.Space.{Coordinates, point_at}
use Rattle.plane_predicate.proofs.lemmas.IntegerRing.{sums, one_mul}
use Rattle.primitives.proofs.lemmas.Moves.{whole}
use Rattle.primitives.specs.Polygons.{x_of, y_of}
use Rattle.primitives.specs.Prisms.{at_height}
use Rattle.round_four.specs.Circles.{circle_points}

-- the one point of an end whose radius is 0
abbrev pub apex_at : ℤ → List (List ℤ)
apex_at z = (pos 0 ∷ pos 0 ∷ z ∷ []) ∷ []

abbrev pub IsSign : ℤ → Type 0
IsSign s = (s ≡ pos 1) ⊎ (s ≡ negsuc 0)

pub plus_sign : IsSign (pos 1)
plus_sign = inl refl

pub minus_sign : IsSign (negsuc 0)
minus_sign = inr refl

-- how far a point of the plane lies in the direction (s, t)
abbrev pub reach : ℤ → ℤ → ℤ → ℤ → ℤ
reach s t x y = s *ℤ x +ℤ t *ℤ y

minus_one : (x : ℤ) → negsuc 0 *ℤ x ≡ neg_ℤ x
minus_one x = omega (arith, ints)

-- a point of the plane that reaches at most r in each of the four directions
abbrev pub IsWithin : ℤ → ℤ → ℤ → Type 0
IsWithin r x y = (s t : ℤ) → IsSign s → IsSign t → reach s t x y ≤ℤ r

-- such a point at the height z
pub record IsEndCorner (r z : ℤ) (p : Coordinates) : Type 0 where
  pub x : ℤ
  pub y : ℤ
  pub is : p ≡ whole x y z
  pub within : IsWithin r x y

turned : (r x s : ℤ) → IsSign s → x ≤ℤ r → neg_ℤ x ≤ℤ r → (s *ℤ x) ≤ℤ r
turned r x s (inl e) h k = subst (λ (n : ℤ). (n *ℤ x) ≤ℤ r) (sym e) (omega (arith, sums, one_mul x, h))
turned r x s (inr e) h k = subst (λ (n : ℤ). (n *ℤ x) ≤ℤ r) (sym e) (omega (arith, sums, minus_one x, k))

along_x : (r x : ℤ) → x ≤ℤ r → neg_ℤ x ≤ℤ r → IsWithin r x (pos 0)
along_x r x h k s t es et = omega (arith, sums, turned r x s es h k, *ℤ-zero t)

along_y : (r y : ℤ) → y ≤ℤ r → neg_ℤ y ≤ℤ r → IsWithin r (pos 0) y
along_y r y h k s t es et = omega (arith, sums, turned r y t et h k, *ℤ-zero s)

right_within : (r : ℤ) → pos 0 <ℤ r → IsWithin r r (pos 0)
right_within r h = along_x r r (omega (arith, sums)) (omega (arith, sums, h))

back_within : (r : ℤ) → pos 0 <ℤ r → IsWithin r (pos 0) r
back_within r h = along_y r r (omega (arith, sums)) (omega (arith, sums, h))

left_within : (r : ℤ) → pos 0 <ℤ r → IsWithin r (neg_ℤ r) (pos 0)
left_within r h = along_x r (neg_ℤ r) (omega (arith, sums, h)) (omega (arith, sums))

front_within : (r : ℤ) → pos 0 <ℤ r → IsWithin r (pos 0) (neg_ℤ r)
front_within r h = along_y r (neg_ℤ r) (omega (arith, sums, h)) (omega (arith, sums))

-- the corners of a circle, in the plane and at a height, and an apex
pub circle_within : (r : ℤ) → pos 0 <ℤ r → All (λ (p : List ℤ). IsWithin r (x_of p) (y_of p)) (circle_points r)
circle_within r h = All-from_recursion (λ (p : List ℤ). IsWithin r (x_of p) (y_of p)) (circle_points r) (right_within r h, (back_within r h, (left_within r h, (front_within r h, tt))))

pub circle_corners : (r z : ℤ) → pos 0 <ℤ r → All (λ (p : List ℤ). IsEndCorner r z (point_at p)) (map (at_height z) (circle_points r))
circle_corners r z h =
    All-from_recursion (λ (p : List ℤ). IsEndCorner r z (point_at p)) (map (at_height z) (circle_points r)) (
      record { x = r; y = pos 0; is = refl; within = right_within r h },
      (
        record { x = pos 0; y = r; is = refl; within = back_within r h },
        (
          record { x = neg_ℤ r; y = pos 0; is = refl; within = left_within r h },
          (
            record { x = pos 0; y = neg_ℤ r; is = refl; within = front_within r h },
            tt,
          ),
        ),
      ),
    )

pub apex_corners : (z : ℤ) → All (λ (p : List ℤ). IsEndCorner (pos 0) z (point_at p)) (apex_at z)
apex_corners z = All-from_recursion (λ (p : List ℤ). IsEndCorner (pos 0) z (point_at p)) (apex_at z) (record { x = pos 0; y = pos 0; is = refl; within = along_x (pos 0) (pos 0) (omega (arith, sums)) (omega (arith, sums)) }, tt)

-- a corner of the low or of the high end
abbrev pub IsCorner : ℤ → ℤ → ℤ → ℤ → Coordinates → Type 0
IsCorner a b l h p = IsEndCorner a l p ⊎ IsEndCorner b h p

pub both_corners : (a b l h : ℤ) (low high : List (List ℤ)) → All (λ (p : List ℤ). IsEndCorner a l (point_at p)) low → All (λ (p : List ℤ). IsEndCorner b h (point_at p)) high → All (λ (p : List ℤ). IsCorner a b l h (point_at p)) (low ++ high)
both_corners a b l h low high hl hh =
    All-append (λ (p : List ℤ). IsCorner a b l h (point_at p)) low high (λ k d lt. inl (hl k d lt)) (λ k d lt. inr (hh k d lt))

-- ---- how far the corners reach
pub right_on : (t r : ℤ) → reach (pos 1) t r (pos 0) ≡ r
right_on t r = omega (arith, sums, one_mul r, *ℤ-zero t)

pub left_on : (t r : ℤ) → reach (negsuc 0) t (neg_ℤ r) (pos 0) ≡ r
left_on t r = omega (arith, sums, minus_one (neg_ℤ r), *ℤ-zero t)

pub back_on : (s r : ℤ) → reach s (pos 1) (pos 0) r ≡ r
back_on s r = omega (arith, sums, one_mul r, *ℤ-zero s)

pub front_on : (s r : ℤ) → reach s (negsuc 0) (pos 0) (neg_ℤ r) ≡ r
front_on s r = omega (arith, sums, minus_one (neg_ℤ r), *ℤ-zero s)

pub right_far : (t r : ℤ) → reach (negsuc 0) t r (pos 0) ≡ neg_ℤ r
right_far t r = omega (arith, sums, minus_one r, *ℤ-zero t)

pub left_far : (t r : ℤ) → reach (pos 1) t (neg_ℤ r) (pos 0) ≡ neg_ℤ r
left_far t r = omega (arith, sums, one_mul (neg_ℤ r), *ℤ-zero t)

pub apex_on : (s t : ℤ) → reach s t (pos 0) (pos 0) ≡ pos 0
apex_on s t = omega (arith, sums, *ℤ-zero s, *ℤ-zero t)
