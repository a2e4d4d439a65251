-- The solid of a tree is that of its last node, where it has nodes.
use Rattle.std.proofs.Common.{◌≡◌, ◌<◌, length, refl, ap, subst, sym, arith}
use Rattle.csg_tree.specs.HalfSpaceTrees.{Tree, nothing, leaf, tree_join}
use Rattle.csg_tree.specs.Numberings.{nodes_of, tree_numbered}
use Rattle.bsp_tree.specs.Trees.{outside}
use Rattle.bsp_boolean.specs.Solids.{solid_of}
use Rattle.bsp_boolean.specs.TreeSolids.{AreWithinSizeLimits}
use Rattle.tree_export.proofs.FirstPassed.{no_trees}
use Rattle.tree_export.proofs.LastNode.{some_node, last_node}

-- only Nothing has none
without_nodes : (tree : Tree) → length (nodes_of tree) ≡ 0 → tree ≡ nothing
without_nodes nothing none = refl
without_nodes (leaf planes) none = absurd (omega (arith, none, some_node (leaf planes) tt))
without_nodes (tree_join op left right) none = absurd (omega (arith, none, some_node (tree_join op left right) tt))

pub no_solid : (tree : Tree) → length (nodes_of tree) ≡ 0 → outside ≡ solid_of tree
no_solid tree none = ap solid_of (sym (without_nodes tree none))

pub nothing_within : (tree : Tree) → length (nodes_of tree) ≡ 0 → AreWithinSizeLimits (nodes_of tree)
nothing_within tree none = subst (λ f. AreWithinSizeLimits (nodes_of f)) (sym (without_nodes tree none)) no_trees

pub last_tree : (tree : Tree) → 0 < length (nodes_of tree) → tree_numbered (nodes_of tree) (length (nodes_of tree)) ≡ tree
last_tree nothing some = absurd (omega (arith, some))
last_tree (leaf planes) some = last_node (leaf planes) tt
last_tree (tree_join op left right) some = last_node (tree_join op left right) tt

pub last_solid : (tree : Tree) → 0 < length (nodes_of tree) → solid_of (tree_numbered (nodes_of tree) (length (nodes_of tree))) ≡ solid_of tree
last_solid tree some = ap solid_of (last_tree tree some)
