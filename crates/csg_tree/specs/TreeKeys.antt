-- What a key of a tree keeps.
use Rattle.std.specs.Prelude.{◌≡◌, ℕ, List}
use Rattle.sha2.specs.Sha256.{sha256}
use Rattle.csg_tree.specs.HalfSpaceTrees.{Tree}
use Rattle.csg_tree.specs.Keys.{tree_bytes}
use Rattle.csg_tree.specs.Numberings.{tree_numbered, IsNumberIn}

-- the name of a tree: the SHA-256 of its bytes
abbrev pub name_of : Tree → List ℕ
name_of tree = sha256 (tree_bytes tree)

-- a number of a store, with the name of its tree
pub record IsNamedTree (trees : List Tree) (number : ℕ) (name : List ℕ) : Type 0 where
  pub within : IsNumberIn trees number
  pub name_is : name ≡ name_of (tree_numbered trees number)
