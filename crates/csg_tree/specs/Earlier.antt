-- The nodes of a store among those of an earlier one.
use Rattle.std.specs.Prelude.{◌≡◌, ℕ, ◌-◌, ◌≤◌, List, length, get_or, Option, Some, None}
use Rattle.std.specs.BTreeMap.{BTreeMap, get}
use Rattle.csg_tree.specs.declared.node.CsgNode.{CsgNode}
use Rattle.csg_tree.specs.declared.interner.NodeKey.{NodeKey}
use Rattle.csg_tree.specs.HalfSpaceTrees.{Tree}
use Rattle.csg_tree.specs.Numberings.{tree_numbered, AreNumberedTrees, HasNumber, IsNumberIn}
use Rattle.csg_tree.specs.Nodes.{node_of, tree_of_node, IsOver}
use Rattle.csg_tree.specs.Interned.{key_cmp, node_of_key}

-- the first n of some trees are found by the keys of their nodes
pub record AreFoundByKey (trees : List Tree) (count : ℕ) (found : BTreeMap NodeKey ℕ) : Type 0 where
  pub numbered : AreNumberedTrees trees
  pub has : (key : NodeKey) (n : ℕ) → get key_cmp found key ≡ Some n → HasNumber trees (tree_of_node trees (node_of_key key)) n
  pub all : (key : NodeKey) (n : ℕ) → IsOver trees (node_of_key key) → HasNumber trees (tree_of_node trees (node_of_key key)) n →
      n ≤ count → get key_cmp found key ≡ Some n

-- the number that a tree has among some trees, or none where it is not one of them
abbrev pub IsNumberOf : List Tree → Tree → Option ℕ → Type 0
IsNumberOf trees tree (Some n) = HasNumber trees tree n
IsNumberOf trees tree None = (n : ℕ) → HasNumber trees tree n → ⊥

-- the node over some trees that is this tree, or none where the tree is not one of them
abbrev pub IsNodeAmong : List Tree → Tree → Option CsgNode → Type 0
IsNodeAmong trees tree (Some node) = IsOver trees (node_of node) × (tree_of_node trees (node_of node) ≡ tree)
IsNodeAmong trees tree None = (n : ℕ) → HasNumber trees tree n → ⊥

-- the numbers of the first trees among earlier ones
abbrev pub AreNumbersIn : List Tree → List Tree → List (Option ℕ) → Type 0
AreNumbersIn earlier trees numbers =
    (n : ℕ) → IsNumberIn numbers n → IsNumberOf earlier (tree_numbered trees n) (get_or numbers (n - 1) None)

-- the same of all trees
pub record AreAllNumbersIn (earlier trees : List Tree) (numbers : List (Option ℕ)) : Type 0 where
  pub many : length numbers ≡ length trees
  pub same : AreNumbersIn earlier trees numbers
