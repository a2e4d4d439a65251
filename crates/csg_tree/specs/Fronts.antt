-- Hashes that were fed with the front of a join's bytes.
use Rattle.std.specs.Prelude.{◌≡◌, ℕ, ◌-◌, List, [], ◌∷◌, ◌++◌, get_or, Option, Some, None}
use Rattle.sha2.specs.Hashers.{Holds256}
use Rattle.sha2.specs.declared.Sha256.{Sha256}
use Rattle.csg_tree.specs.declared.op.Op.{Op}
use Rattle.csg_tree.specs.declared.op.Op.TheVariants.{Difference}
use Rattle.csg_tree.specs.HalfSpaceTrees.{Tree, nothing, leaf, tree_join}
use Rattle.csg_tree.specs.Keys.{tree_bytes, op_byte}
use Rattle.csg_tree.specs.Numberings.{tree_numbered, IsNumberIn}
use Rattle.csg_tree.specs.Earlier.{IsNumberOf}

-- what of a join's second tree belongs to the join's front: in a difference, whose second tree is often the union of many
-- things that are taken from one, that one's operation and first tree where it is a join
abbrev pub front_of_second : Op → Tree → List ℕ
front_of_second Difference (tree_join by first second) = op_byte by ∷ tree_bytes first
front_of_second op right = []

-- and what is left of the second tree
abbrev pub rest_of_second : Op → Tree → List ℕ
rest_of_second Difference (tree_join by first second) = tree_bytes second
rest_of_second op right = tree_bytes right

-- the operation and the number of the first tree that are the second tree's part of the front, where it has one
abbrev pub IsFrontOfSecond : List Tree → Op → Tree → Option (Op × Option ℕ) → Type 0
IsFrontOfSecond trees op right None = front_of_second op right ≡ []
IsFrontOfSecond trees op right (Some part) =
    (first : Tree) × ((front_of_second op right ≡ op_byte part.0 ∷ tree_bytes first) × IsNumberOf trees first part.1)

-- the hash holds the front of a join: its operation, its first tree, and what of its second one belongs to the front
abbrev pub HoldsFront : Tree → Sha256 → Type 0
HoldsFront nothing hasher = ⊥
HoldsFront (leaf planes) hasher = ⊥
HoldsFront (tree_join op left right) hasher = Holds256 hasher (op_byte op ∷ tree_bytes left ++ front_of_second op right)

-- it does so where there is one
abbrev pub HoldsFrontIfThere : Tree → Option Sha256 → Type 0
HoldsFrontIfThere tree None = Unit {0}
HoldsFrontIfThere tree (Some hasher) = HoldsFront tree hasher

-- so do the hashes that there are, by the numbers of their trees
abbrev pub HoldFronts : List Tree → List (Option Sha256) → Type 0
HoldFronts trees fronts = (n : ℕ) → IsNumberIn fronts n → HoldsFrontIfThere (tree_numbered trees n) (get_or fronts (n - 1) None)
