-- Worked rows, computed by the definitions.
use Rattle.std.proofs.Common.{◌≡◌, refl, pos, negsuc, ℤ}
use Rattle.plane_predicate.specs.Space.{Coefficients}
use Rattle.plane_polygon.specs.Boxes.{box_outline}
use Rattle.bsp_tree.specs.Trees.{inside, outside, node, size, complement, half_space}
use Rattle.bsp_tree.specs.Partitions.{divide}

abbrev plane : ℤ → ℤ → ℤ → ℤ → Coefficients
plane a b c d = record { a = a; b = b; c = c; d = d }

abbrev x_at : ℤ → Coefficients
x_at d = plane (pos 1) (pos 0) (pos 0) d

abbrev y_at : ℤ → Coefficients
y_at d = plane (pos 0) (pos 1) (pos 0) d

-- a half space has one node with four edges
half_size : size (half_space (x_at (pos 1))) ≡ 5
half_size = refl

half_exchanged : complement (half_space (x_at (pos 1))) ≡ node (box_outline (x_at (pos 1))) outside inside
half_exchanged = refl

-- across each other: the two halves of the half space have four edges each
crossed_low : size (divide (half_space (x_at (pos 1))) (box_outline (y_at (pos 1)))).0 ≡ 5
crossed_low = refl

crossed_high : size (divide (half_space (x_at (pos 1))) (box_outline (y_at (pos 1)))).1 ≡ 5
crossed_high = refl

-- x below 1, parted by x at 2: all of it is behind, and what is ahead is outside
beside_low : divide (half_space (x_at (pos 1))) (box_outline (x_at (pos 2))) ≡ (
  half_space (x_at (pos 1)),
  outside,
)
beside_low = refl

-- x below 2, parted by x at 1: what is behind is inside
beside_high : divide (half_space (x_at (pos 2))) (box_outline (x_at (pos 1))) ≡
    (inside, half_space (x_at (pos 2)))
beside_high = refl

-- parted by the opposite of x at 2
turned_low : divide (half_space (x_at (pos 1))) (box_outline (plane (negsuc 0) (pos 0) (pos 0) (negsuc 1))) ≡
    (outside, half_space (x_at (pos 1)))
turned_low = refl

-- by its own plane, and by the opposite of it
same_plane : divide (half_space (x_at (pos 1))) (box_outline (x_at (pos 1))) ≡ (inside, outside)
same_plane = refl

opposite_plane : divide (half_space (x_at (pos 1))) (box_outline (plane (negsuc 0) (pos 0) (pos 0)
    (negsuc 0))) ≡ (outside, inside)
opposite_plane = refl
