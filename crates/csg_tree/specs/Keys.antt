-- The bytes by which a tree is named.
use Rattle.std.specs.Prelude.{ℕ, List, [], ◌∷◌, ◌++◌, length, ℤ}
use Rattle.std.specs.List.{flat_map}
use Rattle.std.specs.Int.{w64, cast_unsigned, to_be_bytes}
use Rattle.plane_predicate.specs.Space.{Coefficients}
use Rattle.csg_tree.specs.declared.op.Op.{Op}
use Rattle.csg_tree.specs.declared.op.Op.TheVariants.{Union, Intersection, Difference}
use Rattle.csg_tree.specs.HalfSpaceTrees.{Tree, nothing, leaf, tree_join}

-- a whole number in eight bytes, as two's complement with the high byte first
unfoldable pub number_bytes : ℤ → List ℕ
number_bytes n = to_be_bytes w64 (cast_unsigned w64 n)

-- the bytes of a plane: its four numbers
abbrev pub plane_bytes : Coefficients → List ℕ
plane_bytes m = number_bytes m.a ++ number_bytes m.b ++ number_bytes m.c ++ number_bytes m.d

-- the byte of an operation
abbrev pub op_byte : Op → ℕ
op_byte Union = 2
op_byte Intersection = 3
op_byte Difference = 4

-- the bytes of a tree: 0 for Nothing; 1, the number of planes in eight bytes and the planes for a leaf; and for
-- a join its operation, and then the bytes of its two trees
abbrev pub tree_bytes : Tree → List ℕ
tree_bytes nothing = 0 ∷ []
tree_bytes (leaf planes) = 1 ∷ to_be_bytes w64 (length planes) ++ flat_map plane_bytes planes
tree_bytes (tree_join op left right) = op_byte op ∷ tree_bytes left ++ tree_bytes right
