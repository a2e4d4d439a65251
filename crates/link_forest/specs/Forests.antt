-- Binary trees, and forests of them whose nodes stand in one list and are linked by number.
use Rattle.std.specs.Prelude.{◌≡◌, ℕ, ◌+◌, ◌<◌, ◌≤◌, Bool, false, List, [], ◌∷◌, ◌++◌, length, slice_get, slice_index_or, Some, fold}
use Rattle.link_forest.specs.declared.link.NodeId.{NodeId}
use Rattle.link_forest.specs.declared.link.Link.{Link}
use Rattle.link_forest.specs.declared.link.Link.TheVariants.{End, To}
use Rattle.link_forest.specs.declared.forest.Entry.{Entry}

-- a binary tree: an end of one of two kinds, or a fork with a payload and two branches
pub data Branch (A : Type 0) : Type 0 where
  end : Bool → Branch A
  fork : A → Branch A → Branch A → Branch A

-- a forest: its nodes in order of number, and for how many more there is room
pub record StoredForest (A : Type 0) : Type 0 where
  pub nodes : List (Entry A)
  pub spare : ℕ

-- how many nodes a forest has at least, if this is a link of it: none for an end, and those up to its node for another
abbrev pub least_nodes : Link → ℕ
least_nodes (End side) = 0
least_nodes (To id) = id.index + 1

-- the node of this number
abbrev pub node_id : ℕ → NodeId
node_id index = record { index = index }

module _ {A : Type 0} where
  -- the node of a payload and two links
  abbrev pub entry : A → Link → Link → Entry A
  entry payload behind ahead = record { payload = payload; behind = behind; ahead = ahead }

  -- the tree of a link, over the trees of the nodes by number; a number past them is no node, and an end
  abbrev pub tree_in : List (Branch A) → Link → Branch A
  tree_in trees (End side) = end side
  tree_in trees (To id) = slice_index_or trees id.index (end false)

  -- a node is the fork of its payload over the trees of its links
  abbrev pub tree_over : List (Branch A) → Entry A → Branch A
  tree_over trees node = fork node.payload (tree_in trees node.behind) (tree_in trees node.ahead)

  -- the tree of each node: links stand before their node, so it lies over the trees of the nodes before it
  abbrev pub trees_of : List (Entry A) → List (Branch A)
  trees_of nodes = fold (λ trees node. trees ++ tree_over trees node ∷ []) [] nodes

  -- the tree that begins at a link
  unfoldable pub tree_at : List (Entry A) → Link → Branch A
  tree_at nodes link = tree_in (trees_of nodes) link

  -- a link of these nodes: an end, or one of them
  abbrev pub IsLinkOf : List (Entry A) → Link → Type 0
  IsLinkOf nodes link = least_nodes link ≤ length nodes

  -- the links of each node stand before it
  pub record AreLinked (nodes : List (Entry A)) : Type 0 where
    pub behind : (index : ℕ) (node : Entry A) → slice_get nodes index ≡ Some node → least_nodes node.behind ≤ index
    pub ahead : (index : ℕ) (node : Entry A) → slice_get nodes index ≡ Some node → least_nodes node.ahead ≤ index

  -- The second list has the nodes of the first, and maybe more behind them: so each link of the first is one of the
  -- second, with the same tree.
  pub record Extends (old new : List (Entry A)) : Type 0 where
    pub more : List (Entry A)
    pub nodes : new ≡ old ++ more
    pub links : (link : Link) → IsLinkOf old link → IsLinkOf new link
    pub trees : (link : Link) → IsLinkOf old link → tree_at new link ≡ tree_at old link

  -- a node with this payload and these links was added behind the others, under this number
  pub record AddsNode (old new : List (Entry A)) (payload : A) (behind ahead : Link) (id : NodeId) : Type 0 where
    pub number : id.index ≡ length old
    pub nodes : new ≡ old ++ entry payload behind ahead ∷ []
    pub link : IsLinkOf new (To id)
    pub tree : tree_at new (To id) ≡ fork payload (tree_at old behind) (tree_at old ahead)
    pub extends : Extends old new
    pub linked : AreLinked new

  -- the node of this number: its payload, its links, which stand before it, and its tree over theirs
  pub record IsNode (nodes : List (Entry A)) (id : NodeId) (payload : A) (behind ahead : Link) : Type 0 where
    pub node : slice_get nodes id.index ≡ Some (entry payload behind ahead)
    pub behind_before : least_nodes behind ≤ id.index
    pub ahead_before : least_nodes ahead ≤ id.index
    pub tree : tree_at nodes (To id) ≡ fork payload (tree_at nodes behind) (tree_at nodes ahead)

-- a node is reached from the link to it, and from the link to a node with a link from which it is reached
pub data IsReached {A : Type 0} (nodes : List (Entry A)) : Link → NodeId → Type 0 where
  itself : (id : NodeId) → IsReached nodes (To id) id
  by_behind : (from id : NodeId) (node : Entry A) → slice_get nodes from.index ≡ Some node → IsReached nodes node.behind id → IsReached nodes (To from) id
  by_ahead : (from id : NodeId) (node : Entry A) → slice_get nodes from.index ≡ Some node → IsReached nodes node.ahead id → IsReached nodes (To from) id

-- each node from this number on is reached from the link
abbrev pub AreReachedFrom : {A : Type 0} → ℕ → List (Entry A) → Link → Type 0
AreReachedFrom start nodes link = (id : NodeId) → start ≤ id.index → id.index < length nodes → IsReached nodes link id

-- each node is reached from the link
abbrev pub AreReached : {A : Type 0} → List (Entry A) → Link → Type 0
AreReached nodes link = AreReachedFrom 0 nodes link
