-- The subtrees of a proper tree.
use Rattle.std.proofs.Common.{◌≡◌, ℕ, zero, suc, ◌-◌, ◌^◌, ◌<◌, ◌≤◌, not, List, [], ◌∷◌, ◌++◌, length, get_or, take, sym, ap, ap₂, subst, ◌∙◌, inl, inr, arith, Vec}
use Rattle.std.specs.List.{All, filter}
use Rattle.std.proofs.lemmas.Bool.{cases_lt}
use Rattle.std.proofs.lemmas.List.{get_or_past, length-map, length-take-le}
use Rattle.std.proofs.lemmas.List.Elements.{All-append, All-cons, All-filter, All-weaker}
use Rattle.csg_tree.specs.declared.node.CsgNode.{CsgNode}
use Rattle.csg_tree.specs.declared.node.CsgNode.TheVariants as told
use Rattle.csg_tree.specs.declared.node.StoredNode.{StoredNode}
use Rattle.csg_tree.specs.declared.node.StoredNode.TheVariants.{Leaf, Join}
use Rattle.csg_tree.specs.HalfSpaceTrees.{Tree, nothing, leaf, tree_join}
use Rattle.csg_tree.specs.ProperTrees.{IsProper, HasFullLeaves, HasFullJoins, subtree_count}
use Rattle.csg_tree.specs.Numberings.{height, by_height, distinct_trees, is_same_tree, occurrences, nodes_of, IsNumberIn}
use Rattle.csg_tree.specs.Nodes.{node_of, tree_of_node, trees_of_nodes, AreOverEarlier, trees_of_lent_nodes, IsNodeOf, IsOver}
use Rattle.csg_tree.specs.Levels.{level_at, numbers_of_height}
use Rattle.csg_tree.proofs.Linked.{length_trees, linked_at}
use Rattle.csg_tree.proofs.Interning.{tree_of_number}
use Rattle.csg_tree.proofs.Heights.{has_height, level_has, by_height_same}

none : {X : Type 0} (P : X → Type 0) → All P []
none P = λ k d within. absurd (omega arith)

one : {X : Type 0} (P : X → Type 0) (x : X) → P x → All P (x ∷ [])
one P x h = All-cons P x [] h (none P)

-- each subtree of a proper tree is proper
all_proper : (f : Tree) → HasFullLeaves f → HasFullJoins f → subtree_count f < 2 ^ 32 → All IsProper (occurrences f)
all_proper nothing leaves joins few = none IsProper
all_proper (leaf planes) leaves joins few = one IsProper (leaf planes) (record { leaves = leaves; joins = joins; few = few })
all_proper (tree_join op l r) leaves joins few =
    let left = all_proper l leaves.0 joins.2 (omega arith) in
    let right = all_proper r leaves.1 joins.3 (omega arith) in
    All-append IsProper (occurrences l ++ occurrences r) (tree_join op l r ∷ []) (All-append IsProper (occurrences l) (occurrences r) left right)
    (one IsProper (tree_join op l r) (record { leaves = leaves; joins = joins; few = few }))

-- and none is higher
all_low : (f : Tree) → All (λ t. height t ≤ height f) (occurrences f)
all_low nothing = none (λ t. height t ≤ 0)
all_low (leaf planes) = one (λ t. height t ≤ 0) (leaf planes) (omega arith)
all_low (tree_join op l r) =
    let P = λ (t : Tree). height t ≤ height (tree_join op l r) in
    let left = All-weaker (λ t. height t ≤ height l) P (λ t h. omega (arith, h)) (occurrences l) (all_low l) in
    let right = All-weaker (λ t. height t ≤ height r) P (λ t h. omega (arith, h)) (occurrences r) (all_low r) in
    All-append P (occurrences l ++ occurrences r) (tree_join op l r ∷ []) (All-append P (occurrences l) (occurrences r) left right)
    (one P (tree_join op l r) (omega arith))

all_by_height : (P : Tree → Type 0) (n : ℕ) (ts : List Tree) → All P ts → All P (by_height n ts)
all_by_height P zero ts all = none P
all_by_height P (suc n) ts all = All-append P (by_height n ts) (filter (has_height n) ts) (all_by_height P n ts all) (All-filter (has_height n) P ts all)

all_distinct : (P : Tree → Type 0) (ts : List Tree) → All P ts → All P (distinct_trees ts)
all_distinct P [] all = none P
all_distinct P (t ∷ ts) all =
    All-cons P t (filter (λ u. not (is_same_tree t u)) (distinct_trees ts)) (all 0 t (omega arith))
    (All-filter (λ u. not (is_same_tree t u)) P (distinct_trees ts) (all_distinct P ts (λ k d within. all (suc k) d (omega arith))))

pub nodes_proper : (f : Tree) → IsProper f → All IsProper (nodes_of f)
nodes_proper f proper =
    all_distinct IsProper (by_height (suc (height f)) (occurrences f))
    (all_by_height IsProper (suc (height f)) (occurrences f) (all_proper f proper.leaves proper.joins proper.few))

-- there are as many levels as heights
pub levels_enough : {Z : Type 0} (levels : List (Vec ℕ Z)) (ts : List Tree) →
    ((h : ℕ) → level_at levels h ≡ numbers_of_height h ts) → (i : ℕ) → i < length ts → height (get_or ts i nothing) < length levels
levels_enough {Z} levels ts known i within =
    let h = height (get_or ts i nothing) in
    let place : suc i - 1 ≡ i = omega arith in
    let at = level_has h ts (suc i) (omega arith, omega arith) (ap (λ (k : ℕ). height (get_or ts k nothing)) place) in
    elim (cases_lt h (length levels)) as (λ _. h < length levels) [
      | inl less ↦ less
      | inr more ↦
          let past : level_at levels h ≡ [] = get_or_past _ h [] (omega (arith, length-map levels (λ (level : Vec ℕ Z). level.items))) in
          absurd (omega (arith, at.1, ap length (sym (known h) ∙ past)))
    ]

-- so the nodes by levels are those of the tree
pub nodes_by_levels : {Z : Type 0} (levels : List (Vec ℕ Z)) (f : Tree) →
    ((h : ℕ) → level_at levels h ≡ numbers_of_height h (occurrences f)) →
    distinct_trees (by_height (length levels) (occurrences f)) ≡ nodes_of f
nodes_by_levels levels f known =
    ap distinct_trees (by_height_same (length levels) (suc (height f)) (occurrences f) (levels_enough levels (occurrences f) known)
    (λ i within. let low = all_low f i nothing within in omega (arith, low)))

-- what the contract says about a node
pub node_told : (nodes : List StoredNode) (number : ℕ) (node : CsgNode) → AreOverEarlier nodes → IsNumberIn nodes number →
    node_of node ≡ get_or nodes (number - 1) (node_of node) → IsNodeOf (trees_of_nodes nodes) number node
node_told nodes number (told.Leaf planes) linked within e =
    let at = tree_of_number nodes number (Leaf planes.now) linked within in
    at.1 ∙ ap (tree_of_node (trees_of_nodes nodes)) (sym e)
node_told nodes number (told.Join op l r) linked within e =
    let at = tree_of_number nodes number (Join op l r) linked within in
    let front = take (number - 1) nodes in
    let below = linked_at nodes (number - 1) (Join op l r) linked (omega (arith, within.0, within.1)) in
    let over = subst (λ (node : StoredNode). IsOver (trees_of_nodes front) node) (sym e) below in
    let count : length (trees_of_nodes front) ≡ number - 1 = length_trees front ∙ length-take-le (number - 1) nodes (omega (arith, within.1)) in (
      over.0.0,
      omega (arith, over.0.1, count, within.0),
      over.1.0,
      omega (arith, over.1.1, count, within.0),
      at.1 ∙ ap (tree_of_node (trees_of_nodes nodes)) (sym e),
    )

-- the nodes of the parts of a tree, where the lists were lent
pub nodes_are : {Z : Type 0} (levels used : List (Vec ℕ Z)) (parts given seen : List CsgNode) (nodes : List StoredNode) (f : Tree) →
    trees_of_lent_nodes parts ≡ occurrences f → given ≡ parts →
    ((h : ℕ) → level_at levels h ≡ numbers_of_height h (trees_of_lent_nodes given)) → seen ≡ parts → used ≡ levels →
    trees_of_nodes nodes ≡ distinct_trees (by_height (length used) (trees_of_lent_nodes seen)) → trees_of_nodes nodes ≡ nodes_of f
nodes_are levels used parts given seen nodes f e eg known es eu h =
    h ∙ ap₂ (λ (n : ℕ) (xs : List Tree). distinct_trees (by_height n xs)) (ap length eu) (ap trees_of_lent_nodes es ∙ e)
    ∙ nodes_by_levels levels f (λ k. known k ∙ ap (numbers_of_height k) (ap trees_of_lent_nodes eg ∙ e))
