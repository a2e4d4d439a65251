-- Planes through a line, and the sectors into which they cut the space round it.
use Rattle.std.specs.Prelude.{◌≢◌, Bool, true, false, not, if◌then◌else◌, List, [], ◌∷◌, map, ℤ, pos, ◌+ℤ◌, ◌-ℤ◌, int_lt}
use Rattle.plane_predicate.specs.Space.{Coefficients, opposite_of, is_same, determinant}
use Rattle.closed_surface.specs.Ways.{Direction}

-- the value of m's direction at n x d: below 0 where the half of n left of the way of d, seen from ahead of n, is behind m, and
-- 0 where m and n are parallel
abbrev pub triple_product_of : Direction → Coefficients → Coefficients → ℤ
triple_product_of d m n = determinant m.a m.b m.c n.a n.b n.c d.x d.y d.z

-- n is parallel to none of the planes, all of which go through a line of this direction
abbrev pub IsParallelToNone : Direction → Coefficients → List Coefficients → Type 0
IsParallelToNone d n [] = Unit {0}
IsParallelToNone d n (m ∷ planes) = (triple_product_of d n m ≢ pos 0) × IsParallelToNone d n planes

-- no two of the planes, all of which go through a line of this direction, are parallel
abbrev pub HaveNoParallels : Direction → List Coefficients → Type 0
HaveNoParallels d [] = Unit {0}
HaveNoParallels d (n ∷ planes) = IsParallelToNone d n planes × HaveNoParallels d planes

-- whether the half of n that lies left of the way, seen from ahead of `half`, is behind each of the planes. `half` is n or its
-- opposite, and the side of n itself is given
abbrev pub sides_at : Direction → List Coefficients → Coefficients → Coefficients → Bool → List Bool
sides_at d planes n half behind = map (λ m. if is_same m n then behind else int_lt (triple_product_of d m half) (pos 0)) planes

-- what the value falls by at a half of n, from the one side of n to the other
abbrev pub fall_at : Direction → List Coefficients → (List Bool → ℤ) → Coefficients → Coefficients → Bool → ℤ
fall_at d planes value n half behind = value (sides_at d planes n half behind) -ℤ value (sides_at d planes n half (not behind))

-- the same at both halves of n. A way round the line that turns left, seen against d, passes the left half from behind n to
-- ahead of it, and the other half back
abbrev pub fall : Direction → List Coefficients → (List Bool → ℤ) → Coefficients → ℤ
fall d planes value n = fall_at d planes value n n true +ℤ fall_at d planes value n (opposite_of n) false
