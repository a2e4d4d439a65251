-- Nodes that are linked by number, one more at a time.
use Rattle.std.proofs.Common.{◌≡◌, ℕ, zero, suc, ◌+◌, ◌-◌, ◌<◌, ◌≤◌, List, [], ◌∷◌, ◌++◌, length, get_or, take, map, refl, sym, ap, ap₂, subst, ◌∙◌, arith, append_assoc}
use Rattle.std.proofs.lemmas.List.{get_or_at, get_or_append_left, map-append, length-map, length_push, take-map, take_more}
use Rattle.std.proofs.Math.ListN.{get_or-map}
use Rattle.csg_tree.specs.declared.op.Op.{Op}
use Rattle.csg_tree.specs.declared.node.StoredNode.{StoredNode}
use Rattle.csg_tree.specs.declared.node.StoredNode.TheVariants.{Join}
use Rattle.csg_tree.specs.declared.node.CsgNode.{CsgNode}
use Rattle.csg_tree.specs.HalfSpaceTrees.{Tree, nothing, leaf, tree_join}
use Rattle.csg_tree.specs.ProperTrees.{IsSomething, subtree_count}
use Rattle.csg_tree.specs.Numberings.{occurrences, tree_numbered, IsNumberIn}
use Rattle.csg_tree.specs.Nodes.{node_of, tree_of_node, IsOver, trees_after, trees_of_nodes, AreOverEarlierAfter, AreOverEarlier, trees_of_lent_nodes, AreLentOverEarlier}

-- one node more
pub behind_more : (ts : List Tree) (nodes : List StoredNode) (node : StoredNode) →
    trees_after ts (nodes ++ node ∷ []) ≡ trees_after ts nodes ++ tree_of_node (trees_after ts nodes) node ∷ []
behind_more ts [] node = refl
behind_more ts (n ∷ nodes) node = behind_more (ts ++ tree_of_node ts n ∷ []) nodes node

pub linked_more : (ts : List Tree) (nodes : List StoredNode) (node : StoredNode) →
    AreOverEarlierAfter ts nodes → IsOver (trees_after ts nodes) node → AreOverEarlierAfter ts (nodes ++ node ∷ [])
linked_more ts [] node linked over = (over, tt)
linked_more ts (n ∷ nodes) node linked over =
    (linked.0, linked_more (ts ++ tree_of_node ts n ∷ []) nodes node linked.1 over)

pub length_behind : (ts : List Tree) (nodes : List StoredNode) →
    length (trees_after ts nodes) ≡ length ts + length nodes
length_behind ts [] = omega arith
length_behind ts (n ∷ nodes) =
    omega (arith, length_behind (ts ++ tree_of_node ts n ∷ []) nodes, length_push ts (tree_of_node ts n))

pub length_trees : (nodes : List StoredNode) → length (trees_of_nodes nodes) ≡ length nodes
length_trees nodes = omega (arith, length_behind [] nodes)

pub length_lent : (nodes : List CsgNode) → length (trees_of_lent_nodes nodes) ≡ length nodes
length_lent nodes = omega (arith, length_trees (map node_of nodes), length-map nodes node_of)

-- the same of nodes that are lent
pub lent_more : (nodes : List CsgNode) (node : CsgNode) →
    trees_of_lent_nodes (nodes ++ node ∷ []) ≡ trees_of_lent_nodes nodes ++ tree_of_node (trees_of_lent_nodes nodes) (node_of node) ∷ []
lent_more nodes node = ap trees_of_nodes (map-append node_of nodes (node ∷ [])) ∙ behind_more [] (map node_of nodes) (node_of node)

pub lent_linked : (nodes : List CsgNode) (node : CsgNode) → AreLentOverEarlier nodes →
    IsOver (trees_of_lent_nodes nodes) (node_of node) → AreLentOverEarlier (nodes ++ node ∷ [])
lent_linked nodes node linked over =
    subst AreOverEarlier (sym (map-append node_of nodes (node ∷ []))) (linked_more [] (map node_of nodes) (node_of node) linked over)

-- the last of the occurrences of a tree is the tree
pub subtrees_some : (f : Tree) → 1 ≤ subtree_count f
subtrees_some nothing = omega arith
subtrees_some (leaf planes) = omega arith
subtrees_some (tree_join op left right) = omega arith

ends : (f : Tree) → IsSomething f → (front : List Tree) × (occurrences f ≡ front ++ f ∷ [])
ends nothing some = absurd some
ends (leaf planes) some = ([], refl)
ends (tree_join op left right) some = (occurrences left ++ occurrences right, refl)

pub last_tree : (ts : List Tree) (f : Tree) → IsSomething f → (n : ℕ) → n ≡ length (ts ++ occurrences f) →
    tree_numbered (ts ++ occurrences f) n ≡ f
last_tree ts f some n e =
    let end = ends f some in
    let whole : ts ++ occurrences f ≡ (ts ++ end.0) ++ f ∷ [] = ap (λ xs. ts ++ xs) end.1 ∙ sym (append_assoc ts end.0 (f ∷ [])) in
    let count : length (ts ++ end.0) ≡ n - 1 = omega (arith, length_push (ts ++ end.0) f, ap length whole) in
    ap (λ (xs : List Tree). get_or xs (n - 1) nothing) whole ∙ get_or_at (ts ++ end.0) f [] nothing (n - 1) count

-- a tree keeps its number when more follow
pub numbered_more : (ts us : List Tree) (n : ℕ) → IsNumberIn ts n → tree_numbered (ts ++ us) n ≡ tree_numbered ts n
numbered_more ts us n within = get_or_append_left ts us nothing (n - 1) (omega (arith, within.0, within.1))

-- a join of the two last trees
pub joined_parts : (ts : List Tree) (op : Op) (l r : Tree) → IsSomething l → IsSomething r → (m n : ℕ) →
    m ≡ length (ts ++ occurrences l) → n ≡ length (ts ++ occurrences l ++ occurrences r) → 1 ≤ m →
    tree_of_node (ts ++ occurrences l ++ occurrences r) (Join op m n) ≡ tree_join op l r
joined_parts ts op l r some_l some_r m n em en above =
    let us = ts ++ occurrences l in
    ap₂ (tree_join op)
    (numbered_more us (occurrences r) m (above, omega arith) ∙ last_tree ts l some_l m em)
    (last_tree us r some_r n en)

pub joined_trees : (ts us vs ws : List Tree) (op : Op) (l r : Tree) → IsSomething l → IsSomething r →
    us ≡ ts ++ occurrences l → vs ≡ us ++ occurrences r → (m n : ℕ) → m ≡ length us → n ≡ length vs → 1 ≤ m →
    ws ≡ vs ++ tree_of_node vs (Join op m n) ∷ [] → ws ≡ ts ++ occurrences (tree_join op l r)
joined_trees ts us vs ws op l r some_l some_r e1 e2 m n em en above e3 =
    let all = ts ++ occurrences l ++ occurrences r in
    let e4 : vs ≡ all = e2 ∙ ap (λ (x : List Tree). x ++ occurrences r) e1 in
    let tree = joined_parts ts op l r some_l some_r m n (em ∙ ap length e1) (en ∙ ap length e4) above in
    e3 ∙ ap (λ (x : List Tree). x ++ tree_of_node x (Join op m n) ∷ []) e4 ∙ ap (λ (t : Tree). all ++ t ∷ []) tree
    ∙ append_assoc (ts ++ occurrences l) (occurrences r) (tree_join op l r ∷ [])
    ∙ append_assoc ts (occurrences l) (occurrences r ++ tree_join op l r ∷ [])
    ∙ ap (λ (x : List Tree). ts ++ x) (sym (append_assoc (occurrences l) (occurrences r) (tree_join op l r ∷ [])))

-- the node of an index is over those before it
linked_at_behind : (ts : List Tree) (nodes : List StoredNode) (i : ℕ) (d : StoredNode) → AreOverEarlierAfter ts nodes →
    i < length nodes → IsOver (trees_after ts (take i nodes)) (get_or nodes i d)
linked_at_behind ts [] i d linked within = absurd (omega arith)
linked_at_behind ts (n ∷ nodes) zero d linked within = linked.0
linked_at_behind ts (n ∷ nodes) (suc i) d linked within =
    linked_at_behind (ts ++ tree_of_node ts n ∷ []) nodes i d linked.1 (omega arith)

pub linked_at : (nodes : List StoredNode) (i : ℕ) (d : StoredNode) → AreOverEarlier nodes → i < length nodes →
    IsOver (trees_of_nodes (take i nodes)) (get_or nodes i d)
linked_at nodes i d linked within = linked_at_behind [] nodes i d linked within

pub lent_at : (nodes : List CsgNode) (i : ℕ) (d : CsgNode) → AreLentOverEarlier nodes → i < length nodes →
    IsOver (trees_of_lent_nodes (take i nodes)) (node_of (get_or nodes i d))
lent_at nodes i d linked within =
    let h = linked_at (map node_of nodes) i (node_of d) linked (omega (arith, length-map nodes node_of)) in
    rw (take-map node_of i nodes, get_or-map node_of nodes i d) at h

-- the trees with the one of the next node
pub next_lent : (nodes : List CsgNode) (i : ℕ) (node : CsgNode) → i < length nodes → node ≡ get_or nodes i node →
    trees_of_lent_nodes (take (i + 1) nodes)
    ≡ trees_of_lent_nodes (take i nodes) ++ tree_of_node (trees_of_lent_nodes (take i nodes)) (node_of node) ∷ []
next_lent nodes i node within e =
    ap trees_of_lent_nodes (take_more nodes i node within ∙ ap (λ (x : CsgNode). take i nodes ++ x ∷ []) (sym e))
    ∙ lent_more (take i nodes) node
