-- The solid of a tree, made node by node, and the first node that passes a limit of size.
use Rattle.std.specs.Prelude.{◌≡◌, ℕ, ◌-◌, ◌≤◌, ◌<◌, List, map, take, length, get_or, sum_by, All}
use Rattle.plane_predicate.specs.Space.{ComesInReach}
use Rattle.csg_tree.specs.declared.node.CsgNode.{CsgNode}
use Rattle.csg_tree.specs.declared.node.CsgNode.TheVariants.{Leaf, Join}
use Rattle.csg_tree.specs.HalfSpaceTrees.{Tree, nothing, leaf, tree_join}
use Rattle.csg_tree.specs.Numberings.{tree_numbered, IsNumberIn}
use Rattle.bsp_tree.specs.Shapes.{SolidParts}
use Rattle.bsp_tree.specs.Trees.{BspTree, outside, size}
use Rattle.bsp_tree.specs.Shapes.{tree_of}
use Rattle.bsp_boolean.specs.Merges.{merge_of}
use Rattle.bsp_boolean.specs.LeafSolids.{solid_of_leaf}
use Rattle.bsp_boolean.specs.Solids.{solid_of}
use Rattle.bsp_boolean.specs.declared.tree_solids.TreeStop.{TreeStop}
use Rattle.bsp_boolean.specs.declared.tree_solids.TreeStop.TheVariants.{TooBig, SumTooBig, NoMemory}
use Rattle.bsp_boolean.specs.declared.tree_solids.FirstSolids.{FirstSolids}

-- the most that the size of one node's solid may be
abbrev pub most_solid_size : ℕ
most_solid_size = 50000

-- the most that the sizes of all nodes' solids may be together
abbrev pub most_total_size : ℕ
most_total_size = 500000

-- the size of a tree's solid
abbrev pub solid_size : Tree → ℕ
solid_size tree = size (solid_of tree)

-- what the solids of some trees are in size together
abbrev pub total_size : List Tree → ℕ
total_size trees = sum_by solid_size trees

-- the solids of some trees are within both limits
pub record AreWithinSizeLimits (trees : List Tree) : Type 0 where
  pub each : All (λ tree. solid_size tree ≤ most_solid_size) trees
  pub together : total_size trees ≤ most_total_size

-- 1 where the tree is a join, else 0
abbrev pub one_if_join : Tree → ℕ
one_if_join nothing = 0
one_if_join (leaf planes) = 0
one_if_join (tree_join op left right) = 1

-- how many joins there are among trees
abbrev pub join_count : List Tree → ℕ
join_count trees = sum_by one_if_join trees

-- Why the nodes of a tree, in order of number, give no solid: at the first node at which a limit is passed, its own
-- solid is too big, or it isn't and the sum up to it is.
abbrev pub IsTreeStop : List Tree → TreeStop → Type 0
IsTreeStop trees (TooBig number) = IsNumberIn trees number × AreWithinSizeLimits (take (number - 1) trees)
    × (most_solid_size < solid_size (tree_numbered trees number))
IsTreeStop trees (SumTooBig number) = IsNumberIn trees number × AreWithinSizeLimits (take (number - 1) trees)
    × (solid_size (tree_numbered trees number) ≤ most_solid_size) × (most_total_size < total_size (take number trees))
IsTreeStop trees NoMemory = Unit {0}

-- the first n nodes have their solids, which are within the limits
pub record HasFirstSolids (trees : List Tree) (n : ℕ) (growth : FirstSolids) : Type 0 where
  pub solids : map tree_of growth.solids.items ≡ map solid_of (take n trees)
  pub sum : growth.sum ≡ total_size (take n trees)
  pub within : AreWithinSizeLimits (take n trees)

-- the solid of a node, over those of the nodes before it
abbrev pub solid_over : List BspTree → CsgNode → BspTree
solid_over solids (Leaf planes) = solid_of_leaf planes.now
solid_over solids (Join op left right) = merge_of op (get_or solids (left - 1) outside) (get_or solids (right - 1) outside)

-- a node over solids: a leaf has planes that come in reach, and the two numbers of a join are those of solids
abbrev pub IsOverSolids : List SolidParts → CsgNode → Type 0
IsOverSolids solids (Leaf planes) = (0 < length planes.now) × All ComesInReach planes.now
IsOverSolids solids (Join op left right) = (1 ≤ left) × (left ≤ length solids) × (1 ≤ right) × (right ≤ length solids)

-- how often a node's solid takes a merge
abbrev pub merges_of : CsgNode → ℕ
merges_of (Leaf planes) = 0
merges_of (Join op left right) = 1
