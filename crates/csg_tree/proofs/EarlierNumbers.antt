-- The numbers of trees among earlier ones, one more at a time.
use Rattle.std.proofs.Common.{◌≡◌, ◌⊎◌, ℕ, ◌+◌, ◌-◌, ◌<◌, ◌≤◌, Bool, true, false, cond, List, [], ◌∷◌, ◌++◌, length, get_or, refl, sym, ap, subst, ◌∙◌, inl, inr, arith, true≢false, Option, Some, None}
use Rattle.std.specs.BTreeMap.{BTreeMap, get, is_at}
use Rattle.std.proofs.lemmas.Bool.{cases_lt}
use Rattle.std.proofs.lemmas.List.{length_push, get_or_push, get_or_append_left}
use Rattle.csg_tree.specs.declared.op.Op.{Op}
use Rattle.csg_tree.specs.declared.interner.NodeKey.{NodeKey}
use Rattle.csg_tree.specs.declared.node.StoredNode.{StoredNode}
use Rattle.csg_tree.specs.declared.node.StoredNode.TheVariants as stored
use Rattle.csg_tree.specs.declared.node.CsgNode.{CsgNode}
use Rattle.csg_tree.specs.declared.node.CsgNode.TheVariants.{Leaf, Join}
use Rattle.csg_tree.specs.HalfSpaceTrees.{Tree, tree_join}
use Rattle.csg_tree.specs.Numberings.{tree_numbered, AreNumberedTrees, HasNumber, HaveOneNumber, IsNumberIn}
use Rattle.csg_tree.specs.Nodes.{node_of, tree_of_node, trees_of_nodes, AreOverEarlier, IsNodeOf, IsOver}
use Rattle.csg_tree.specs.Interned.{key_cmp, node_of_key, is_same_node}
use Rattle.csg_tree.specs.Earlier.{AreFoundByKey, AreNumbersIn, IsNumberOf, IsNodeAmong}
use Rattle.csg_tree.proofs.lemmas.Sameness.{node_true, node_itself, keys_tell}
use Rattle.csg_tree.proofs.Linked.{length_trees}
use Rattle.csg_tree.proofs.Interning.{one_node, tree_of_number}

-- the two trees of a join over some trees have numbers
parts_over : (trees : List Tree) (node : StoredNode) (op : Op) (left right : Tree) → IsOver trees node →
    tree_join op left right ≡ tree_of_node trees node →
    ((l : ℕ) × HasNumber trees left l) × ((r : ℕ) × HasNumber trees right r)
parts_over trees (stored.Leaf planes) op left right over e = cc
parts_over trees (stored.Join by l r) op left right over e =
    let first : tree_numbered trees l ≡ left = cc in
    let second : tree_numbered trees r ≡ right = cc in
    ((l, (over.0, first)), (r, (over.1, second)))

-- the trees of linked nodes
pub numbered : (nodes : List StoredNode) → AreOverEarlier nodes → HaveOneNumber (trees_of_nodes nodes) → AreNumberedTrees (trees_of_nodes nodes)
numbered nodes linked once = record {
  once = once;
  parts = λ n op left right has.
      let at = tree_of_number nodes n (stored.Leaf []) linked (has.0.0, omega (arith, has.0.1, length_trees nodes)) in
      parts_over (trees_of_nodes nodes) (get_or nodes (n - 1) (stored.Leaf [])) op left right at.0 (sym has.1 ∙ at.1);
}

-- the tree of a node that is told has the node's number
pub node_has : (trees : List Tree) (n : ℕ) (node : CsgNode) → IsNumberIn trees n → IsNodeOf trees n node →
    HasNumber trees (tree_of_node trees (node_of node)) n
node_has trees n (Leaf planes) within is = (within, is)
node_has trees n (Join op l r) within is = (within, is.4)

-- the two trees of a node are among the things that stand for those before it
pub node_over : {X : Type 0} (things : List X) (trees : List Tree) (n : ℕ) (node : CsgNode) → n ≤ length things + 1 →
    IsNodeOf trees n node → IsOver things (node_of node)
node_over things trees n (Leaf planes) many is = tt
node_over things trees n (Join op l r) many is =
    ((is.0, omega (arith, is.1, many)), (is.2, omega (arith, is.3, many)))

-- one node more by its key
pub found_more : (trees : List Tree) (found now : BTreeMap NodeKey ℕ) (key : NodeKey) (k : ℕ) → AreFoundByKey trees k found →
    IsOver trees (node_of_key key) → HasNumber trees (tree_of_node trees (node_of_key key)) (k + 1) →
    ((other : NodeKey) → get key_cmp now other ≡ cond (is_at (key_cmp key) other) (Some (k + 1)) (get key_cmp found other)) →
    AreFoundByKey trees (k + 1) now
found_more trees found now key k before over has put = record {
  numbered = before.numbered;
  has = λ other m e. has_by other m e (is_at (key_cmp key) other) refl;
  all = λ other m o h le. all_by other m o h le (is_at (key_cmp key) other) refl;
}
  where
    put_by : (other : NodeKey) (b : Bool) → is_at (key_cmp key) other ≡ b → get key_cmp now other ≡ cond b (Some (k + 1)) (get key_cmp found other)
    put_by other b f = put other ∙ ap (λ (c : Bool). cond c (Some (k + 1)) (get key_cmp found other)) f

    same_by : (other : NodeKey) → is_at (key_cmp key) other ≡ true → node_of_key key ≡ node_of_key other
    same_by other f = node_true (node_of_key key) (node_of_key other) (sym (keys_tell key other) ∙ f)

    has_by : (other : NodeKey) (m : ℕ) → get key_cmp now other ≡ Some m → (b : Bool) → is_at (key_cmp key) other ≡ b →
        HasNumber trees (tree_of_node trees (node_of_key other)) m
    has_by other m e true f =
        let is : Some (k + 1) ≡ Some m = sym (put_by other true f) ∙ e in
        let number : k + 1 ≡ m = cc in
        subst (HasNumber trees (tree_of_node trees (node_of_key other))) number
        (subst (λ (x : StoredNode). HasNumber trees (tree_of_node trees x) (k + 1)) (same_by other f) has)
    has_by other m e false f = before.has other m (sym (put_by other false f) ∙ e)

    all_by : (other : NodeKey) (m : ℕ) → IsOver trees (node_of_key other) → HasNumber trees (tree_of_node trees (node_of_key other)) m → m ≤ k + 1 →
        (b : Bool) → is_at (key_cmp key) other ≡ b → get key_cmp now other ≡ Some m
    all_by other m o h le true f =
        let tree = ap (tree_of_node trees) (same_by other f) in
        let number : k + 1 ≡ m = before.numbered.once (k + 1) m has.0 h.0 (has.1 ∙ tree ∙ sym h.1) in
        put_by other true f ∙ ap Some number
    all_by other m o h le false f = by_place (cases_lt m (k + 1))
      where
        differ : (k + 1 ≤ m) → ⊥
        differ b =
            let number : m ≡ k + 1 = omega (arith, b, le) in
            let tree : tree_of_node trees (node_of_key key) ≡ tree_of_node trees (node_of_key other) = sym has.1 ∙ ap (tree_numbered trees) (sym number) ∙ h.1 in
            let same = one_node trees (node_of_key key) (node_of_key other) before.numbered.once over o tree in
            let yes : is_same_node (node_of_key key) (node_of_key other) ≡ true =
            subst (λ (x : StoredNode). is_same_node (node_of_key key) x ≡ true) same (node_itself (node_of_key key)) in
            true≢false (sym yes ∙ sym (keys_tell key other) ∙ f)

        by_place : (m < k + 1) ⊎ (k + 1 ≤ m) → get key_cmp now other ≡ Some m
        by_place (inl a) = put_by other false f ∙ before.all other m o h (omega (arith, a))
        by_place (inr b) = absurd (differ b)

-- a node by its key among all trees
pub number_found : (trees : List Tree) (tree : Tree) (found : BTreeMap NodeKey ℕ) (key : NodeKey) (node : CsgNode) (number : Option ℕ) →
    AreFoundByKey trees (length trees) found → IsNodeAmong trees tree (Some node) → node_of_key key ≡ node_of node →
    number ≡ get key_cmp found key → IsNumberOf trees tree number
number_found trees tree found key node number all among same e = by_case number e
  where
    over : IsOver trees (node_of_key key)
    over = subst (IsOver trees) (sym same) among.0

    is : tree_of_node trees (node_of_key key) ≡ tree
    is = ap (tree_of_node trees) same ∙ among.1

    by_case : (o : Option ℕ) → o ≡ get key_cmp found key → IsNumberOf trees tree o
    by_case (Some n) h = subst (λ (t : Tree). HasNumber trees t n) is (all.has key n (sym h))
    by_case None h = λ n has.
        let h' : None ≡ Some n = h ∙ all.all key n over (has.0, has.1 ∙ sym is) has.0.1 in cc

-- one number more
pub numbers_more : (earlier trees : List Tree) (numbers now : List (Option ℕ)) (number : Option ℕ) →
    AreNumbersIn earlier trees numbers → now ≡ numbers ++ number ∷ [] →
    IsNumberOf earlier (tree_numbered trees (length numbers + 1)) number → AreNumbersIn earlier trees now
numbers_more earlier trees numbers now number before e last =
    subst (AreNumbersIn earlier trees) (sym e) (λ n within. by_place n within (cases_lt n (length numbers + 1)))
  where
    by_place : (n : ℕ) → IsNumberIn (numbers ++ number ∷ []) n → (n < length numbers + 1) ⊎ (length numbers + 1 ≤ n) →
        IsNumberOf earlier (tree_numbered trees n) (get_or (numbers ++ number ∷ []) (n - 1) None)
    by_place n within (inl a) =
        subst (IsNumberOf earlier (tree_numbered trees n))
        (sym (get_or_append_left numbers (number ∷ []) None (n - 1) (omega (arith, a, within.0))))
        (before n (within.0, omega (arith, a)))
    by_place n within (inr b) =
        let here : n ≡ length numbers + 1 = omega (arith, b, within.1, length_push numbers number) in
        subst (IsNumberOf earlier (tree_numbered trees n))
        (sym (get_or_push numbers number None (n - 1) (omega (arith, here))))
        (subst (λ (m : ℕ). IsNumberOf earlier (tree_numbered trees m) number) (sym here) last)
