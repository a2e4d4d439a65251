-- The solids of trees.
use Rattle.csg_tree.specs.HalfSpaceTrees.{Tree, nothing, leaf, tree_join}
use Rattle.bsp_tree.specs.Trees.{BspTree, outside}
use Rattle.bsp_boolean.specs.LeafSolids.{solid_of_leaf}
use Rattle.bsp_boolean.specs.Merges.{merge_of}

-- the solid of a tree
abbrev pub solid_of : Tree → BspTree
solid_of nothing = outside
solid_of (leaf planes) = solid_of_leaf planes
solid_of (tree_join op left right) = merge_of op (solid_of left) (solid_of right)
