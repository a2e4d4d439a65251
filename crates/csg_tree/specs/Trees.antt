-- The plain tree that a tree in memory stands for.
use Rattle.csg_tree.specs.declared.tree.CsgTree.{CsgTree}
use Rattle.csg_tree.specs.declared.tree.CsgTree.TheOpen.{CsgTree-F, Nothing, Leaf, Join}
use Rattle.csg_tree.specs.declared.tree.CsgTree.TheFolds.{fold-CsgTree}
use Rattle.csg_tree.specs.HalfSpaceTrees.{Tree, nothing, leaf, tree_join}

-- one layer, with its parts seen already
abbrev pub plain_tree_step : CsgTree-F Tree → Tree
plain_tree_step Nothing = nothing
plain_tree_step (Leaf planes) = leaf planes
plain_tree_step (Join op left right) = tree_join op left.value right.value

-- the tree as contracts see it
abbrev pub plain_tree_of : CsgTree → Tree
plain_tree_of = fold-CsgTree Tree plain_tree_step
