-- What is known of the trees of a store.
use Rattle.std.specs.Prelude.{◌≡◌, ℕ, ◌-◌, ◌≤◌, List, length, map, sum_by, get_or, Option, Some, None}
use Rattle.std.specs.Arc.{arc_value}
use Rattle.std.specs.declared.sync.Arc.{Arc}
use Rattle.csg_tree.specs.HalfSpaceTrees.{Tree}
use Rattle.csg_tree.specs.Numberings.{tree_numbered, IsNumberIn}
use Rattle.bsp_tree.specs.Trees.{BspTree, size}
use Rattle.bsp_tree.specs.Shapes.{SolidParts, tree_of}
use Rattle.bsp_boolean.specs.Solids.{solid_of}
use Rattle.bsp_boolean.specs.TreeSolids.{most_solid_size, solid_size}

-- what the solids that a store knows come to in size at most
abbrev pub most_known : ℕ
most_known = 32768

module _ {Z : Type 0} where
  -- the solids that are shared
  abbrev pub shared_solids : List (Arc SolidParts Z) → List BspTree
  shared_solids solids = map (λ s. tree_of (arc_value s)) solids

  -- a solid that is known is that of the tree, and within the limit of one
  abbrev pub IsKnown : Tree → Option (Arc SolidParts Z) → Type 0
  IsKnown tree None = Unit {0}
  IsKnown tree (Some solid) = (tree_of (arc_value solid) ≡ solid_of tree) × (solid_size tree ≤ most_solid_size)

  -- the first trees with their solids, where they are known
  abbrev pub AreKnown : List Tree → List (Option (Arc SolidParts Z)) → Type 0
  AreKnown trees solids = (n : ℕ) → IsNumberIn solids n → IsKnown (tree_numbered trees n) (get_or solids (n - 1) None)

  -- the size of a solid, where it is known
  abbrev pub known_size : Option (Arc SolidParts Z) → ℕ
  known_size None = 0
  known_size (Some solid) = size (tree_of (arc_value solid))

  -- what the solids that are known come to in size
  abbrev pub known_sizes : List (Option (Arc SolidParts Z)) → ℕ
  known_sizes solids = sum_by known_size solids

  -- All trees with their solids, where they are known. These come to at most 32,768 in size.
  pub record AreAllKnown (trees : List Tree) (solids : List (Option (Arc SolidParts Z))) : Type 0 where
    pub many : length solids ≡ length trees
    pub known : AreKnown trees solids
    pub few : known_sizes solids ≤ most_known
