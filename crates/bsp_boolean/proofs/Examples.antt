-- Worked rows, computed by the definitions.
use Rattle.std.proofs.Common.{◌≡◌, refl, [], ◌∷◌, ℤ, pos, negsuc, neg_ℤ, true, false}
use Rattle.plane_predicate.specs.Space.{Coefficients, Coordinates}
use Rattle.csg_tree.specs.declared.op.Op.TheVariants.{Union, Difference}
use Rattle.csg_tree.specs.HalfSpaceTrees.{Tree, leaf, tree_join}
use Rattle.bsp_tree.specs.Trees.{outside, size, walk}
use Rattle.bsp_boolean.specs.Solids.{solid_of}

abbrev plane : ℤ → ℤ → ℤ → ℤ → Coefficients
plane a b c d = record { a = a; b = b; c = c; d = d }

-- a box: its low and high planes along x, y and z
abbrev cuboid : (x y z u v w : ℤ) → Tree
cuboid x y z u v w = leaf (
    plane (negsuc 0) (pos 0) (pos 0) (neg_ℤ x) ∷ plane (pos 1) (pos 0) (pos 0) u
    ∷ plane (pos 0) (negsuc 0) (pos 0) (neg_ℤ y) ∷ plane (pos 0) (pos 1) (pos 0) v
    ∷ plane (pos 0) (pos 0) (negsuc 0) (neg_ℤ z) ∷ plane (pos 0) (pos 0) (pos 1) w ∷ [])

abbrev cube : Tree
cube = cuboid (pos 0) (pos 0) (pos 0) (pos 1) (pos 1) (pos 1)

-- the cube from 0 to 2 without the one from 1 to 3
abbrev notch : Tree
notch = tree_join Difference (cuboid (pos 0) (pos 0) (pos 0) (pos 2) (pos 2) (pos 2))
    (cuboid (pos 1) (pos 1) (pos 1) (pos 3) (pos 3) (pos 3))

abbrev point : ℤ → Coordinates
point at = record { x = at; y = at; z = at; w = pos 2 }

cube_size : size (solid_of cube) ≡ 30
cube_size = refl

with_itself : size (solid_of (tree_join Union cube cube)) ≡ 30
with_itself = refl

without_itself : solid_of (tree_join Difference cube cube) ≡ outside
without_itself = refl

notch_size : size (solid_of notch) ≡ 45
notch_size = refl

beside_size : size (solid_of (tree_join Union cube (cuboid (pos 1) (pos 0) (pos 0) (pos 2) (pos 1) (pos 1))))
    ≡ 55
beside_size = refl

within_notch : walk (solid_of notch) (point (pos 1)) ≡ true
within_notch = refl

cut_away : walk (solid_of notch) (point (pos 3)) ≡ false
cut_away = refl
