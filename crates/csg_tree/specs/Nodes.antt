-- Nodes that are linked by number, and the trees that they are.
use Rattle.std.specs.Prelude.{◌≡◌, ℕ, ◌^◌, ◌<◌, ◌≤◌, List, [], ◌∷◌, ◌++◌, length, map, All}
use Rattle.csg_tree.specs.declared.node.StoredNode.{StoredNode}
use Rattle.csg_tree.specs.declared.node.StoredNode.TheVariants.{Leaf, Join}
use Rattle.csg_tree.specs.declared.node.CsgNode.{CsgNode}
use Rattle.csg_tree.specs.declared.node.CsgNode.TheVariants as told
use Rattle.csg_tree.specs.HalfSpaceTrees.{Tree, leaf, tree_join}
use Rattle.csg_tree.specs.ProperTrees.{IsProper}
use Rattle.csg_tree.specs.Numberings.{tree_numbered, IsNumberIn, HaveOneNumber}

-- a node that is lent is this node
abbrev pub node_of : CsgNode → StoredNode
node_of (told.Leaf planes) = Leaf planes.now
node_of (told.Join op left right) = Join op left right

-- the tree of a node, over the trees of the nodes before it
abbrev pub tree_of_node : List Tree → StoredNode → Tree
tree_of_node trees (Leaf planes) = leaf planes
tree_of_node trees (Join op left right) = tree_join op (tree_numbered trees left) (tree_numbered trees right)

-- the numbers of a node are those of the things that stand for the nodes before it
abbrev pub IsOver : {X : Type 0} → List X → StoredNode → Type 0
IsOver things (Leaf planes) = Unit {0}
IsOver things (Join op left right) = IsNumberIn things left × IsNumberIn things right

-- the trees of nodes in order, behind those of the nodes before them
abbrev pub trees_after : List Tree → List StoredNode → List Tree
trees_after trees [] = trees
trees_after trees (node ∷ nodes) = trees_after (trees ++ tree_of_node trees node ∷ []) nodes

-- the trees of nodes, in the order of their numbers
abbrev pub trees_of_nodes : List StoredNode → List Tree
trees_of_nodes nodes = trees_after [] nodes

-- each node is over those before it
abbrev pub AreOverEarlierAfter : List Tree → List StoredNode → Type 0
AreOverEarlierAfter trees [] = Unit {0}
AreOverEarlierAfter trees (node ∷ nodes) = IsOver trees node × AreOverEarlierAfter (trees ++ tree_of_node trees node ∷ []) nodes

-- each join's sides are nodes before it
abbrev pub AreOverEarlier : List StoredNode → Type 0
AreOverEarlier nodes = AreOverEarlierAfter [] nodes

-- the same of nodes that are lent
abbrev pub trees_of_lent_nodes : List CsgNode → List Tree
trees_of_lent_nodes nodes = trees_of_nodes (map node_of nodes)

-- the same of nodes that are lent
abbrev pub AreLentOverEarlier : List CsgNode → Type 0
AreLentOverEarlier nodes = AreOverEarlier (map node_of nodes)

-- what the node of a number has: its planes, or its operation and the smaller numbers of its two trees
abbrev pub IsNodeOf : List Tree → ℕ → CsgNode → Type 0
IsNodeOf trees number (told.Leaf planes) = tree_numbered trees number ≡ leaf planes.now
IsNodeOf trees number (told.Join op left right) = (1 ≤ left) × (left < number) × (1 ≤ right) × (right < number)
    × (tree_numbered trees number ≡ tree_join op (tree_numbered trees left) (tree_numbered trees right))

-- the nodes of a store: each is over those before it, their trees are proper and have one number each, and the numbers
-- fit 32 bits
pub record IsStore (nodes : List StoredNode) : Type 0 where
  pub linked : AreOverEarlier nodes
  pub proper : All IsProper (trees_of_nodes nodes)
  pub once : HaveOneNumber (trees_of_nodes nodes)
  pub few : length nodes < 2 ^ 32
