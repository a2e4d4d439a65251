-- Distinct nodes and their numbers, one more at a time.
use Rattle.std.proofs.Common.{◌≡◌, ◌⊎◌, ℕ, zero, suc, ◌+◌, ◌-◌, ◌<◌, ◌≤◌, Bool, true, false, cond, List, [], ◌∷◌, ◌++◌, length, get_or, refl, sym, ap, ap₂, subst, ◌∙◌, inl, inr, true≢false, arith, Option, Some, None}
use Rattle.std.specs.BTreeMap.{BTreeMap, get, is_at}
use Rattle.std.proofs.lemmas.Bool.{cases_lt}
use Rattle.std.proofs.lemmas.List.{length_push, get_or_push, get_or_at, append-nil, append_assoc}
use Rattle.csg_tree.specs.declared.node.StoredNode.{StoredNode}
use Rattle.csg_tree.specs.declared.node.StoredNode.TheVariants.{Leaf, Join}
use Rattle.csg_tree.specs.declared.interner.NodeKey.{NodeKey}
use Rattle.csg_tree.specs.HalfSpaceTrees.{Tree, nothing, tree_join}
use Rattle.csg_tree.specs.Numberings.{tree_numbered, IsNumberIn, HaveOneNumber, HasNumber}
use Rattle.csg_tree.specs.Nodes.{tree_of_node, IsOver, trees_after, trees_of_nodes, AreOverEarlierAfter, AreOverEarlier}
use Rattle.csg_tree.specs.Interned.{key_cmp, node_of_key, is_same_node, number_from, number_in, AreInterned, TreesStay}
use Rattle.csg_tree.proofs.lemmas.Sameness.{node_true, node_itself, keys_tell}
use Rattle.csg_tree.proofs.Linked.{behind_more, linked_more, length_trees, numbered_more}

-- a node that is found
pub found_at : (n : ℕ) (nodes : List StoredNode) (node : StoredNode) (k : ℕ) → number_from n nodes node ≡ Some k →
    (i : ℕ) × (k ≡ n + i) × (i < length nodes) × (get_or nodes i node ≡ node)
found_at n [] node k h = cc
found_at n (x ∷ nodes) node k h = by_test (λ r. found_at (suc n) nodes node k r) (is_same_node x node) refl
  where
    by_test : (number_from (suc n) nodes node ≡ Some k → (i : ℕ) × (k ≡ suc n + i) × (i < length nodes) × (get_or nodes i node ≡ node)) →
        (b : Bool) → is_same_node x node ≡ b → (i : ℕ) × (k ≡ n + i) × (i < length (x ∷ nodes)) × (get_or (x ∷ nodes) i node ≡ node)
    by_test more true e =
        let h' : Some n ≡ Some k = sym (ap (λ (b : Bool). cond b (Some n) (number_from (suc n) nodes node)) e) ∙ h in
        let same : n ≡ k = cc in
        (0, omega arith, omega arith, node_true x node e)
    by_test more false e =
        let h' : number_from (suc n) nodes node ≡ Some k = sym (ap (λ (b : Bool). cond b (Some n) (number_from (suc n) nodes node)) e) ∙ h in
        let rest = more h' in
        (suc rest.0, omega (arith, rest.1), omega (arith, rest.2), rest.3)

-- a node that is not found
pub none_at : (n : ℕ) (nodes : List StoredNode) (node d : StoredNode) → number_from n nodes node ≡ None → (i : ℕ) →
    i < length nodes → get_or nodes i d ≡ node → ⊥
none_at n [] node d h i within e = omega arith
none_at n (x ∷ nodes) node d h i within e = by_test (is_same_node x node) refl (λ r j j_in same. none_at (suc n) nodes node d r j j_in same)
  where
    at : (number_from (suc n) nodes node ≡ None → (j : ℕ) → j < length nodes → get_or nodes j d ≡ node → ⊥) → (j : ℕ) → j < length (x ∷ nodes) → get_or (x ∷ nodes) j d ≡ node → is_same_node x node ≡ false → number_from (suc n) nodes node ≡ None → ⊥
    at more zero j_in same f r = true≢false (sym (subst (λ (y : StoredNode). is_same_node x y ≡ true) same (node_itself x)) ∙ f)
    at more (suc j) j_in same f r = more r j (omega arith) same

    by_test : (b : Bool) → is_same_node x node ≡ b →
        (number_from (suc n) nodes node ≡ None → (j : ℕ) → j < length nodes → get_or nodes j d ≡ node → ⊥) → ⊥
    by_test true f more =
        let h' : Some n ≡ None = sym (ap (λ (b : Bool). cond b (Some n) (number_from (suc n) nodes node)) f) ∙ h in cc
    by_test false f more =
        let h' : number_from (suc n) nodes node ≡ None = sym (ap (λ (b : Bool). cond b (Some n) (number_from (suc n) nodes node)) f) ∙ h in
        at more i within e f h'

-- one node more, which is not found before
number_push : (n : ℕ) (nodes : List StoredNode) (node q : StoredNode) → number_from n nodes node ≡ None →
    number_from n (nodes ++ node ∷ []) q ≡ cond (is_same_node node q) (Some (n + length nodes)) (number_from n nodes q)
number_push n [] node q h = by_test (is_same_node node q)
  where
    here : n ≡ n + 0
    here = omega arith

    by_test : (b : Bool) → cond b (Some n) None ≡ cond b (Some (n + 0)) None
    by_test true = ap Some here
    by_test false = refl
number_push n (x ∷ nodes) node q h = by_test (λ r. number_push (suc n) nodes node q r) (is_same_node x node) refl
  where
    more : n + suc (length nodes) ≡ suc n + length nodes
    more = omega arith

    by_both : (b c : Bool) → is_same_node x q ≡ b → is_same_node node q ≡ c → is_same_node x node ≡ false →
        number_from (suc n) (nodes ++ node ∷ []) q ≡ cond c (Some (suc n + length nodes)) (number_from (suc n) nodes q) →
        cond b (Some n) (number_from (suc n) (nodes ++ node ∷ []) q) ≡ cond c (Some (n + suc (length nodes))) (cond b (Some n) (number_from (suc n) nodes q))
    by_both true true eb ec f r =
        let same : x ≡ node = node_true x q eb ∙ sym (node_true node q ec) in
        absurd (true≢false (sym (subst (λ (y : StoredNode). is_same_node x y ≡ true) same (node_itself x)) ∙ f))
    by_both true false eb ec f r = refl
    by_both false true eb ec f r = r ∙ ap Some (sym more)
    by_both false false eb ec f r = r

    by_test : (number_from (suc n) nodes node ≡ None → number_from (suc n) (nodes ++ node ∷ []) q ≡ cond (is_same_node node q) (Some (suc n + length nodes)) (number_from (suc n) nodes q)) →
        (b : Bool) → is_same_node x node ≡ b → number_from n (x ∷ nodes ++ node ∷ []) q ≡ cond (is_same_node node q) (Some (n + suc (length nodes))) (number_from n (x ∷ nodes) q)
    by_test rest true f =
        let h' : Some n ≡ None = sym (ap (λ (b : Bool). cond b (Some n) (number_from (suc n) nodes node)) f) ∙ h in cc
    by_test rest false f =
        let h' : number_from (suc n) nodes node ≡ None = sym (ap (λ (b : Bool). cond b (Some n) (number_from (suc n) nodes node)) f) ∙ h in
        by_both (is_same_node x q) (is_same_node node q) refl refl f (rest h')

-- the tree of a number is that of its node
over_more : (ts us : List Tree) (node : StoredNode) → IsOver ts node →
    IsOver (ts ++ us) node × (tree_of_node (ts ++ us) node ≡ tree_of_node ts node)
over_more ts us (Leaf planes) over = (tt, refl)
over_more ts us (Join op l r) over =
    let longer = length_append_le ts us in (
      ((over.0.0, omega (arith, over.0.1)), (over.1.0, omega (arith, over.1.1))),
      ap₂ (tree_join op) (numbered_more ts us l over.0) (numbered_more ts us r over.1),
    )
  where
    length_append_le : (xs ys : List Tree) → length xs ≤ length (xs ++ ys)
    length_append_le [] ys = omega arith
    length_append_le (x ∷ xs) ys = omega (arith, length_append_le xs ys)

starts_with : (ts : List Tree) (nodes : List StoredNode) → (us : List Tree) × (trees_after ts nodes ≡ ts ++ us)
starts_with ts [] = ([], sym (append-nil ts))
starts_with ts (n ∷ nodes) =
    let rest = starts_with (ts ++ tree_of_node ts n ∷ []) nodes in
    (tree_of_node ts n ∷ rest.0, rest.1 ∙ append_assoc ts (tree_of_node ts n ∷ []) rest.0)

pub tree_at : (ts : List Tree) (nodes : List StoredNode) (i : ℕ) (d : StoredNode) → AreOverEarlierAfter ts nodes → i < length nodes →
    IsOver (trees_after ts nodes) (get_or nodes i d)
    × (get_or (trees_after ts nodes) (length ts + i) nothing ≡ tree_of_node (trees_after ts nodes) (get_or nodes i d))
tree_at ts [] i d linked within = absurd (omega arith)
tree_at ts (n ∷ nodes) zero d linked within =
    let t = tree_of_node ts n in
    let rest = starts_with (ts ++ t ∷ []) nodes in
    let whole : trees_after ts (n ∷ nodes) ≡ ts ++ t ∷ rest.0 = rest.1 ∙ append_assoc ts (t ∷ []) rest.0 in
    let over = over_more ts (t ∷ rest.0) n linked.0 in
    let here : get_or (ts ++ t ∷ rest.0) (length ts + 0) nothing ≡ t = get_or_at ts t rest.0 nothing (length ts + 0) (omega arith) in (
      subst (λ (us : List Tree). IsOver us n) (sym whole) over.0,
      ap (λ (us : List Tree). get_or us (length ts + 0) nothing) whole ∙ here ∙ sym over.1 ∙ ap (λ (us : List Tree). tree_of_node us n) (sym whole),
    )
tree_at ts (n ∷ nodes) (suc i) d linked within =
    let t = tree_of_node ts n in
    let rest = tree_at (ts ++ t ∷ []) nodes i d linked.1 (omega arith) in
    let place : length ts + suc i ≡ length (ts ++ t ∷ []) + i = omega (arith, length_push ts t) in
    (rest.0, ap (λ (k : ℕ). get_or (trees_after (ts ++ t ∷ []) nodes) k nothing) place ∙ rest.1)

-- the tree of a number, from 1
pub tree_of_number : (nodes : List StoredNode) (n : ℕ) (d : StoredNode) → AreOverEarlier nodes → IsNumberIn nodes n →
    IsOver (trees_of_nodes nodes) (get_or nodes (n - 1) d)
    × (tree_numbered (trees_of_nodes nodes) n ≡ tree_of_node (trees_of_nodes nodes) (get_or nodes (n - 1) d))
tree_of_number nodes n d linked within =
    let at = tree_at [] nodes (n - 1) d linked (omega (arith, within.0, within.1)) in
    let place : 0 + (n - 1) ≡ n - 1 = omega arith in
    (at.0, ap (λ (k : ℕ). get_or (trees_of_nodes nodes) k nothing) (sym place) ∙ at.1)

-- where each tree has one number, a tree is that of one node
pub one_node : (ts : List Tree) (a b : StoredNode) → HaveOneNumber ts → IsOver ts a → IsOver ts b → tree_of_node ts a ≡ tree_of_node ts b → a ≡ b
one_node ts (Leaf ps) (Leaf qs) once over_a over_b e = let p : ps ≡ qs = cc in ap Leaf p
one_node ts (Leaf ps) (Join op l r) once over_a over_b e = cc
one_node ts (Join op l r) (Leaf qs) once over_a over_b e = cc
one_node ts (Join op l r) (Join by m n) once over_a over_b e =
    let eo : op ≡ by = cc in
    let fl : tree_numbered ts l ≡ tree_numbered ts m = cc in
    let fr : tree_numbered ts r ≡ tree_numbered ts n = cc in
    let el = once l m over_a.0 over_b.0 fl in
    let er = once r n over_a.1 over_b.1 fr in
    λ i. Join (eo i) (el i) (er i)

-- a node that is found has its tree's number
pub known_number : (found : BTreeMap NodeKey ℕ) (nodes : List StoredNode) (key : NodeKey) (node : StoredNode) (k : ℕ) →
    AreInterned found nodes → node_of_key key ≡ node → get key_cmp found key ≡ Some k →
    HasNumber (trees_of_nodes nodes) (tree_of_node (trees_of_nodes nodes) node) k
known_number found nodes key node k all same h =
    let e : number_in nodes node ≡ Some k = sym (all.indexed key ∙ ap (number_in nodes) same) ∙ h in
    let at = found_at 1 nodes node k e in
    let count = length_trees nodes in
    let within : IsNumberIn nodes k = (omega (arith, at.1), omega (arith, at.1, at.2)) in
    let tree = tree_of_number nodes k node all.linked within in
    let place : k - 1 ≡ at.0 = omega (arith, at.1) in
    let is : get_or nodes (k - 1) node ≡ node = ap (λ (j : ℕ). get_or nodes j node) place ∙ at.3 in
    ((within.0, omega (arith, within.1, count)), tree.1 ∙ ap (tree_of_node (trees_of_nodes nodes)) is)

-- a node that is not found has a tree without a number
pub no_number : (found : BTreeMap NodeKey ℕ) (nodes : List StoredNode) (key : NodeKey) (node : StoredNode) →
    AreInterned found nodes → node_of_key key ≡ node → get key_cmp found key ≡ None → IsOver (trees_of_nodes nodes) node →
    (n : ℕ) → HasNumber (trees_of_nodes nodes) (tree_of_node (trees_of_nodes nodes) node) n → ⊥
no_number found nodes key node all same h over n has =
    let e : number_in nodes node ≡ None = sym (all.indexed key ∙ ap (number_in nodes) same) ∙ h in
    let count = length_trees nodes in
    let within : IsNumberIn nodes n = (has.0.0, omega (arith, has.0.1, count)) in
    let tree = tree_of_number nodes n node all.linked within in
    let is = one_node (trees_of_nodes nodes) (get_or nodes (n - 1) node) node all.once tree.0 over (sym tree.1 ∙ has.1) in
    none_at 1 nodes node node e (n - 1) (omega (arith, within.0, within.1)) is

-- each tree still has one number, with one that had none
once_push : (ts : List Tree) (t : Tree) → HaveOneNumber ts → ((n : ℕ) → HasNumber ts t n → ⊥) → HaveOneNumber (ts ++ t ∷ [])
once_push ts t once none m n m_in n_in e = by_place (cases_lt m (length ts + 1)) (cases_lt n (length ts + 1))
  where
    count : length (ts ++ t ∷ []) ≡ length ts + 1
    count = length_push ts t

    old : (k : ℕ) → IsNumberIn (ts ++ t ∷ []) k → k < length ts + 1 → IsNumberIn ts k × (tree_numbered (ts ++ t ∷ []) k ≡ tree_numbered ts k)
    old k k_in lt = let within : IsNumberIn ts k = (k_in.0, omega arith) in (within, numbered_more ts (t ∷ []) k within)

    last : (k : ℕ) → IsNumberIn (ts ++ t ∷ []) k → length ts + 1 ≤ k → (k ≡ length ts + 1) × (tree_numbered (ts ++ t ∷ []) k ≡ t)
    last k k_in ge = (omega (arith, k_in.1, count), get_or_push ts t nothing (k - 1) (omega (arith, k_in.1, count)))

    by_place : (m < length ts + 1) ⊎ (length ts + 1 ≤ m) → (n < length ts + 1) ⊎ (length ts + 1 ≤ n) → m ≡ n
    by_place (inl a) (inl b) =
        let x = old m m_in a in let y = old n n_in b in once m n x.0 y.0 (sym x.1 ∙ e ∙ y.1)
    by_place (inl a) (inr b) =
        let x = old m m_in a in let y = last n n_in b in absurd (none m (x.0, sym x.1 ∙ e ∙ y.1))
    by_place (inr a) (inl b) =
        let x = last m m_in a in let y = old n n_in b in absurd (none n (y.0, sym y.1 ∙ sym e ∙ x.1))
    by_place (inr a) (inr b) =
        let x = last m m_in a in let y = last n n_in b in x.0 ∙ sym y.0

-- a new node
pub interned_push : (found now : BTreeMap NodeKey ℕ) (nodes : List StoredNode) (key : NodeKey) (node : StoredNode) →
    AreInterned found nodes → node_of_key key ≡ node → get key_cmp found key ≡ None → IsOver (trees_of_nodes nodes) node →
    ((other : NodeKey) → get key_cmp now other ≡ cond (is_at (key_cmp key) other) (Some (length nodes + 1)) (get key_cmp found other)) →
    AreInterned now (nodes ++ node ∷ [])
interned_push found now nodes key node all same h over put =
    let e : number_in nodes node ≡ None = sym (all.indexed key ∙ ap (number_in nodes) same) ∙ h in
    let t = tree_of_node (trees_of_nodes nodes) node in
    let place : length nodes + 1 ≡ 1 + length nodes = omega arith in
    record {
      linked = linked_more [] nodes node all.linked over;
      once = subst HaveOneNumber (sym (behind_more [] nodes node)) (once_push (trees_of_nodes nodes) t all.once (no_number found nodes key node all same h over));
      indexed = λ other.
          put other
          ∙ ap₂ (λ (b : Bool) (o : Option ℕ). cond b (Some (length nodes + 1)) o) (keys_tell key other ∙ ap (λ (x : StoredNode). is_same_node x (node_of_key other)) same) (all.indexed other)
          ∙ ap (λ (k : ℕ). cond (is_same_node node (node_of_key other)) (Some k) (number_in nodes (node_of_key other))) place
          ∙ sym (number_push 1 nodes node (node_of_key other) e);
    }

pub new_number : (nodes : List StoredNode) (node : StoredNode) (k : ℕ) → k ≡ length nodes + 1 →
    HasNumber (trees_of_nodes (nodes ++ node ∷ [])) (tree_of_node (trees_of_nodes nodes) node) k
new_number nodes node k e =
    let ts = trees_of_nodes nodes in
    let t = tree_of_node ts node in
    let more = behind_more [] nodes node in
    let count = length_trees nodes in
    subst (λ (us : List Tree). HasNumber us t k) (sym more)
    ((omega (arith, e), omega (arith, e, count, length_push ts t)), get_or_push ts t nothing (k - 1) (omega (arith, e, count)))

pub they_stay : (nodes : List StoredNode) (node : StoredNode) → TreesStay (trees_of_nodes nodes) (trees_of_nodes (nodes ++ node ∷ []))
they_stay nodes node n within =
    let ts = trees_of_nodes nodes in
    let t = tree_of_node ts node in
    subst (λ (us : List Tree). IsNumberIn us n × (tree_numbered us n ≡ tree_numbered ts n)) (sym (behind_more [] nodes node))
    ((within.0, omega (arith, within.1, length_push ts t)), numbered_more ts (t ∷ []) n within)
