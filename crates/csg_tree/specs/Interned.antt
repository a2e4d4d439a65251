-- Distinct nodes, each found by its key.
use Rattle.std.specs.Prelude.{◌≡◌, ℕ, suc, ◌+◌, ◌-◌, ◌<◌, ◌≤◌, nat_eq, Bool, false, ◌&&◌, if◌then◌else◌, List, [], ◌∷◌, ◌++◌, length, get_or, map, Option, Some, None}
use Rattle.std.specs.Ordering.{nat_cmp, int_cmp, ordering_then}
use Rattle.std.specs.declared.cmp.Ordering.{Ordering}
use Rattle.std.specs.declared.cmp.Ordering.TheVariants.{Less, Equal, Greater}
use Rattle.std.specs.Cmp.Lexicographic.{pointwise, slice_cmp}
use Rattle.std.specs.BTreeMap.{BTreeMap, get}
use Rattle.plane_predicate.specs.Space.{Coefficients, is_same}
use Rattle.csg_tree.specs.declared.op.Op.{Op}
use Rattle.csg_tree.specs.declared.op.Op.TheVariants.{Union, Intersection, Difference}
use Rattle.csg_tree.specs.declared.node.CsgNode.{CsgNode}
use Rattle.csg_tree.specs.declared.node.StoredNode.{StoredNode}
use Rattle.csg_tree.specs.declared.node.StoredNode.TheVariants.{Leaf, Join}
use Rattle.csg_tree.specs.declared.interner.PlaneNumbers.{PlaneNumbers}
use Rattle.csg_tree.specs.declared.interner.NodeKey.{NodeKey}
use Rattle.csg_tree.specs.declared.interner.NodeKey.TheVariants as keys
use Rattle.csg_tree.specs.HalfSpaceTrees.{Tree}
use Rattle.csg_tree.specs.Numberings.{distinct_trees, is_same_op, tree_numbered, IsNumberIn, HasNumber, HaveOneNumber}
use Rattle.csg_tree.specs.Nodes.{node_of, trees_of_nodes, AreOverEarlier, trees_of_lent_nodes, AreLentOverEarlier}

-- the order of planes, by their four numbers in order
abbrev pub numbers_cmp : PlaneNumbers → PlaneNumbers → Ordering
numbers_cmp p q =
    ordering_then (int_cmp p.a q.a) (ordering_then (int_cmp p.b q.b) (ordering_then (int_cmp p.c q.c) (int_cmp p.d q.d)))

-- the order of operations
abbrev pub op_cmp : Op → Op → Ordering
op_cmp Union Union = Equal
op_cmp Union _ = Less
op_cmp Intersection Union = Greater
op_cmp Intersection Intersection = Equal
op_cmp Intersection Difference = Less
op_cmp Difference Difference = Equal
op_cmp Difference _ = Greater

-- the order of keys: leaves first, by their planes in order, and then joins by operation, left and right number
abbrev pub key_cmp : NodeKey → NodeKey → Ordering
key_cmp (keys.Leaf planes) (keys.Leaf more) = slice_cmp numbers_cmp planes.items more.items
key_cmp (keys.Leaf planes) (keys.Join op left right) = Less
key_cmp (keys.Join op left right) (keys.Leaf planes) = Greater
key_cmp (keys.Join op left right) (keys.Join by first second) =
    ordering_then (op_cmp op by) (ordering_then (nat_cmp left first) (nat_cmp right second))

-- the plane of four numbers
abbrev pub plane_of_numbers : PlaneNumbers → Coefficients
plane_of_numbers p = record { a = p.a; b = p.b; c = p.c; d = p.d }

-- the node of a key
abbrev pub node_of_key : NodeKey → StoredNode
node_of_key (keys.Leaf planes) = Leaf (map plane_of_numbers planes.items)
node_of_key (keys.Join op left right) = Join op left right

-- the same node
abbrev pub is_same_node : StoredNode → StoredNode → Bool
is_same_node (Leaf planes) (Leaf more) = pointwise is_same planes more
is_same_node (Join op left right) (Join by first second) = is_same_op op by && (nat_eq left first && nat_eq right second)
is_same_node _ _ = false

-- the number of the first of the nodes that is this node, where the first of all has the number n
abbrev pub number_from : ℕ → List StoredNode → StoredNode → Option ℕ
number_from n [] node = None
number_from n (first ∷ nodes) node = if is_same_node first node then Some n else number_from (suc n) nodes node

-- the number that a node has among nodes, from 1, where it is there
abbrev pub number_in : List StoredNode → StoredNode → Option ℕ
number_in nodes node = number_from 1 nodes node

-- distinct nodes that are linked, whose numbers are found by their keys
pub record AreInterned (found : BTreeMap NodeKey ℕ) (nodes : List StoredNode) : Type 0 where
  pub linked : AreOverEarlier nodes
  pub once : HaveOneNumber (trees_of_nodes nodes)
  pub indexed : (key : NodeKey) → get key_cmp found key ≡ number_in nodes (node_of_key key)

-- the trees of some numbers stay
abbrev pub TreesStay : List Tree → List Tree → Type 0
TreesStay before now = (n : ℕ) → IsNumberIn before n → IsNumberIn now n × (tree_numbered now n ≡ tree_numbered before n)

-- a part has the number of its tree
abbrev pub IsPartNumbered : List Tree → List Tree → List ℕ → ℕ → Type 0
IsPartNumbered parts trees numbers m = HasNumber trees (tree_numbered parts m) (get_or numbers (m - 1) 0)

-- so have the two parts of a node
abbrev pub IsNodeReady : List Tree → List Tree → List ℕ → StoredNode → Type 0
IsNodeReady parts trees numbers (Leaf planes) = Unit {0}
IsNodeReady parts trees numbers (Join op left right) = IsPartNumbered parts trees numbers left × IsPartNumbered parts trees numbers right

-- the part of each number of a level has the number of its tree
abbrev pub ArePlaced : List Tree → List Tree → List ℕ → List ℕ → Type 0
ArePlaced parts trees numbers level = (j : ℕ) → j < length level → IsPartNumbered parts trees numbers (get_or level j 0)

-- the parts that are placed stay so
abbrev pub StayPlaced : List Tree → List Tree → List ℕ → List Tree → List ℕ → Type 0
StayPlaced parts trees numbers trees_now numbers_now =
    (m : ℕ) → IsNumberIn parts m → IsPartNumbered parts trees numbers m → IsPartNumbered parts trees_now numbers_now m

-- the number is one of the parts, and this part's own two parts have the numbers of their trees
abbrev pub IsPartReady : List CsgNode → List Tree → List ℕ → ℕ → Type 0
IsPartReady parts trees numbers number = IsNumberIn parts number
    × ((d : CsgNode) → IsNodeReady (trees_of_lent_nodes parts) trees numbers (node_of (get_or parts (number - 1) d)))

-- the part of each number of a level is ready
abbrev pub IsLevelReady : List CsgNode → List Tree → List ℕ → List ℕ → Type 0
IsLevelReady parts trees numbers level = (j : ℕ) → j < length level → IsPartReady parts trees numbers (get_or level j 0)

-- a numbering of parts under way: the parts are linked, there is room for the number of each of them, and the nodes so
-- far are distinct and found by their keys
pub record IsNumbering (parts : List CsgNode) (numbers : List ℕ) (found : BTreeMap NodeKey ℕ) (nodes : List StoredNode) : Type 0 where
  pub linked : AreLentOverEarlier parts
  pub room : length numbers ≡ length parts
  pub interned : AreInterned found nodes

-- nodes grow by some trees: those of the distinct trees of a list become those of the list with these trees behind it,
-- and no more nodes come than there are of these trees
pub record GrowBy (before now : List StoredNode) (more : List Tree) : Type 0 where
  pub distinct : (trees : List Tree) → trees_of_nodes before ≡ distinct_trees trees → trees_of_nodes now ≡ distinct_trees (trees ++ more)
  pub few : length now ≤ length before + length more

-- a node with the numbers of its two trees among the nodes
abbrev pub renumbered_node : List ℕ → StoredNode → StoredNode
renumbered_node numbers (Leaf planes) = Leaf planes
renumbered_node numbers (Join op left right) = Join op (get_or numbers (left - 1) 0) (get_or numbers (right - 1) 0)
