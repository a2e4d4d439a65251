-- Parts and their numbers among the nodes.
use Rattle.std.proofs.Common.{◌≡◌, ℕ, ◌-◌, ◌<◌, ◌≤◌, List, length, get_or, set, map, refl, sym, ap, ap₂, subst, ◌∙◌, inl, inr, arith}
use Rattle.std.proofs.lemmas.Bool.Decides.{eqb_tells}
use Rattle.std.proofs.lemmas.List.{length-map, get_or-set_same, get_or-set_other}
use Rattle.std.proofs.Math.ListN.{get_or-map}
use Rattle.csg_tree.specs.declared.node.CsgNode.{CsgNode}
use Rattle.csg_tree.specs.declared.node.StoredNode.{StoredNode}
use Rattle.csg_tree.specs.declared.node.StoredNode.TheVariants.{Leaf, Join}
use Rattle.csg_tree.specs.HalfSpaceTrees.{Tree, tree_join}
use Rattle.csg_tree.specs.Numberings.{tree_numbered, IsNumberIn, HasNumber}
use Rattle.csg_tree.specs.Nodes.{node_of, tree_of_node, IsOver, trees_of_lent_nodes, AreLentOverEarlier}
use Rattle.csg_tree.specs.Interned.{TreesStay, IsPartNumbered, IsNodeReady, renumbered_node}
use Rattle.csg_tree.proofs.Interning.{tree_of_number}

-- the tree of the number of a part
pub lent_number : (parts : List CsgNode) (n : ℕ) (d : CsgNode) → AreLentOverEarlier parts → IsNumberIn parts n →
    IsOver (trees_of_lent_nodes parts) (node_of (get_or parts (n - 1) d))
    × (tree_numbered (trees_of_lent_nodes parts) n ≡ tree_of_node (trees_of_lent_nodes parts) (node_of (get_or parts (n - 1) d)))
lent_number parts n d linked within =
    let count = length-map parts node_of in
    let at = tree_of_number (map node_of parts) n (node_of d) linked (within.0, omega (arith, within.1, count)) in
    let read = get_or-map node_of parts (n - 1) d in
    let ps = trees_of_lent_nodes parts in
    (subst (λ (node : StoredNode). IsOver ps node) read at.0, at.1 ∙ ap (tree_of_node ps) read)

-- a node that is ready, with its numbers among the nodes
pub ready_over : (ps ts : List Tree) (ns : List ℕ) (node : StoredNode) → IsNodeReady ps ts ns node → IsOver ts (renumbered_node ns node)
ready_over ps ts ns (Leaf planes) ready = tt
ready_over ps ts ns (Join op l r) ready = (ready.0.0, ready.1.0)

pub ready_tree : (ps ts : List Tree) (ns : List ℕ) (node : StoredNode) → IsNodeReady ps ts ns node →
    tree_of_node ts (renumbered_node ns node) ≡ tree_of_node ps node
ready_tree ps ts ns (Leaf planes) ready = refl
ready_tree ps ts ns (Join op l r) ready = ap₂ (tree_join op) ready.0.1 ready.1.1

-- a number that is written
pub placed_set : (ps ts : List Tree) (ns : List ℕ) (n k : ℕ) → n - 1 < length ns → HasNumber ts (tree_numbered ps n) k →
    IsPartNumbered ps ts (set ns (n - 1) k) n
placed_set ps ts ns n k within has =
    subst (HasNumber ts (tree_numbered ps n)) (sym (get_or-set_same ns (n - 1) k 0 within)) has

pub stay_set : (ps ts us : List Tree) (ns : List ℕ) (n k m : ℕ) → 1 ≤ n → n - 1 < length ns → TreesStay ts us →
    HasNumber us (tree_numbered ps n) k → IsNumberIn ps m → IsPartNumbered ps ts ns m → IsPartNumbered ps us (set ns (n - 1) k) m
stay_set ps ts us ns n k m above within stay has m_in placed =
    elim (eqb_tells (m - 1) (n - 1)) as (λ _. IsPartNumbered ps us (set ns (n - 1) k) m) [
      | inl d ↦
          let same : n ≡ m = omega (arith, d.1, m_in.0, above) in
          subst (λ (j : ℕ). IsPartNumbered ps us (set ns (n - 1) k) j) same (placed_set ps us ns n k within has)
      | inr d ↦
          let kept = stay (get_or ns (m - 1) 0) placed.0 in
          subst (HasNumber us (tree_numbered ps m)) (sym (get_or-set_other ns (n - 1) (m - 1) k 0 d.1)) (kept.0, kept.1 ∙ placed.1)
    ]
