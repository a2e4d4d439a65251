-- Longer lists of nodes: the trees of their links stay.
use Rattle.std.proofs.Common.{◌≡◌, ℕ, suc, ◌<◌, ◌≤◌, inl, inr, Bool, false, List, [], ◌∷◌, ◌++◌, length, take, drop, get_or, Some, slice_get, fold, refl, sym, ap, ◌∙◌, subst, arith, append_assoc, append-nil, length-append}
use Rattle.std.proofs.lemmas.List.{get_or_append_left, get_or_push, take_at, take-append-drop}
use Rattle.std.proofs.lemmas.Option.{slice_get_read}
use Rattle.std.proofs.lemmas.List.Sums.{fold-append}
use Rattle.link_forest.specs.declared.link.NodeId.{NodeId}
use Rattle.link_forest.specs.declared.link.Link.{Link}
use Rattle.link_forest.specs.declared.link.Link.TheVariants.{End, To}
use Rattle.link_forest.specs.declared.forest.Entry.{Entry}
use Rattle.link_forest.specs.Forests.{Branch, end, fork, least_nodes, node_id, IsLinkOf, entry, tree_over, trees_of, tree_at, AreLinked, Extends, AddsNode, IsNode}
use Rattle.link_forest.proofs.lemmas.Numbers.{stays, which, parts}

module _ {A : Type 0} where
  -- the trees of the nodes so far, and that of one more
  abbrev with_node : List (Branch A) → Entry A → List (Branch A)
  with_node trees node = trees ++ tree_over trees node ∷ []

  -- the trees of more nodes stand behind those that are there, one for each node
  record Grown (trees : List (Branch A)) (nodes : List (Entry A)) : Type 0 where
    more : List (Branch A)
    whole : fold with_node trees nodes ≡ trees ++ more
    count : length more ≡ length nodes

  grown : (trees : List (Branch A)) (nodes : List (Entry A)) → Grown trees nodes
  grown trees [] = record { more = []; whole = sym (append-nil trees); count = refl }
  grown trees (node ∷ nodes) =
      let g = grown (with_node trees node) nodes in
      record { more = tree_over trees node ∷ g.more; whole = g.whole ∙ append_assoc trees (tree_over trees node ∷ []) g.more; count = ap suc g.count }

  -- there is a tree for each node
  trees_count : (nodes : List (Entry A)) → length (trees_of nodes) ≡ length nodes
  trees_count nodes = let g = grown [] nodes in ap length g.whole ∙ g.count

  -- the trees of a longer list begin with those of the list
  trees_longer : (nodes more : List (Entry A)) → trees_of (nodes ++ more) ≡ trees_of nodes ++ (grown (trees_of nodes) more).more
  trees_longer nodes more = fold-append with_node [] nodes more ∙ (grown (trees_of nodes) more).whole

  -- the tree of an end
  pub tree_of_end : (nodes : List (Entry A)) (side : Bool) → tree_at nodes (End side) ≡ end side
  unfolding tree_at
  tree_of_end nodes side = refl

  -- links of the shorter list keep their trees
  pub trees_kept : (nodes more : List (Entry A)) (link : Link) → IsLinkOf nodes link → tree_at (nodes ++ more) link ≡ tree_at nodes link
  unfolding tree_at
  trees_kept nodes more (End side) h = refl
  trees_kept nodes more (To id) h =
      let within : id.index < length (trees_of nodes) = omega (arith, trees_count nodes) in
      ap (λ (trees : List (Branch A)). get_or trees id.index (end false)) (trees_longer nodes more) ∙ get_or_append_left (trees_of nodes) (grown (trees_of nodes) more).more (end false) id.index within

  -- and stay links
  pub links_kept : (nodes more : List (Entry A)) (link : Link) → IsLinkOf nodes link → IsLinkOf (nodes ++ more) link
  links_kept nodes more link h = omega (arith, length-append nodes more)

  pub extended : (nodes more : List (Entry A)) → Extends nodes (nodes ++ more)
  extended nodes more = record { more = more; nodes = refl; links = links_kept nodes more; trees = trees_kept nodes more }

  pub extends_by : (old new more : List (Entry A)) → new ≡ old ++ more → Extends old new
  extends_by old new more e = subst (λ (nodes : List (Entry A)). Extends old nodes) (sym e) (extended old more)

  pub extends_itself : (nodes : List (Entry A)) → Extends nodes nodes
  extends_itself nodes = extends_by nodes nodes [] (sym (append-nil nodes))

  pub extends_twice : (first second third : List (Entry A)) → Extends first second → Extends second third → Extends first third
  extends_twice first second third f s =
      extends_by first third (f.more ++ s.more) (s.nodes ∙ ap (λ (nodes : List (Entry A)). nodes ++ s.more) f.nodes ∙ append_assoc first f.more s.more)

  -- a longer list that is cut back
  pub taken_back : (old new : List (Entry A)) → Extends old new → take (length old) new ≡ old
  taken_back old new e = ap (take (length old)) e.nodes ∙ take_at old e.more (length old) refl

  -- a list that was made longer, cut back to the length that it had
  pub cut_is : (n : ℕ) (old new cut : List (Entry A)) → cut ≡ take n new → Extends old new → length old ≡ n → cut ≡ old
  cut_is n old new cut is e count = is ∙ rw (← count) (taken_back old new e)

  pub cut_extends : (n : ℕ) (nodes : List (Entry A)) → Extends (take n nodes) nodes
  cut_extends n nodes = extends_by (take n nodes) nodes (drop n nodes) (sym (take-append-drop n nodes))

  -- the links of the shorter list's nodes stand before them too
  pub linked_before : (old new : List (Entry A)) → Extends old new → AreLinked new → AreLinked old
  linked_before old new e l =
      let there = λ (id : ℕ) (node : Entry A) (h : slice_get old id ≡ Some node). let s : slice_get new id ≡ Some node = rw e.nodes (stays old e.more id node h) in s in
      record { behind = λ id node h. l.behind id node (there id node h); ahead = λ id node h. l.ahead id node (there id node h) }

  pub linked_none : AreLinked {A = A} []
  linked_none = record { behind = λ id node h. cc; ahead = λ id node h. cc }

  -- a node over links of the list
  linked_more : (nodes : List (Entry A)) (node : Entry A) → AreLinked nodes → IsLinkOf nodes node.behind → IsLinkOf nodes node.ahead → AreLinked (nodes ++ node ∷ [])
  linked_more nodes node l b a = record {
    behind = λ id other h. elim (which nodes node id other h) [ inl there ↦ l.behind id other there | inr last ↦ rw (last.0, ← last.1) b ];
    ahead = λ id other h. elim (which nodes node id other h) [ inl there ↦ l.ahead id other there | inr last ↦ rw (last.0, ← last.1) a ];
  }

  -- its tree lies over theirs
  tree_more : (nodes : List (Entry A)) (node : Entry A) → tree_at (nodes ++ node ∷ []) (To (node_id (length nodes))) ≡ fork node.payload (tree_at nodes node.behind) (tree_at nodes node.ahead)
  unfolding tree_at
  tree_more nodes node =
      ap (λ (trees : List (Branch A)). get_or trees (length nodes) (end false)) (fold-append with_node [] nodes (node ∷ [])) ∙ get_or_push (trees_of nodes) (tree_over (trees_of nodes) node) (end false) (length nodes) (trees_count nodes)

  pub added : (nodes : List (Entry A)) (payload : A) (behind ahead : Link) → AreLinked nodes → IsLinkOf nodes behind → IsLinkOf nodes ahead → AddsNode nodes (nodes ++ entry payload behind ahead ∷ []) payload behind ahead (node_id (length nodes))
  added nodes payload behind ahead l b a = record {
    number = refl;
    nodes = refl;
    link = omega (arith, length-append nodes (entry payload behind ahead ∷ []));
    tree = tree_more nodes (entry payload behind ahead);
    extends = extended nodes (entry payload behind ahead ∷ []);
    linked = linked_more nodes (entry payload behind ahead) l b a;
  }

  -- the tree of a node in the midst of others
  tree_amid : (before after : List (Entry A)) (node : Entry A) → IsLinkOf before node.behind → IsLinkOf before node.ahead → tree_at (before ++ node ∷ after) (To (node_id (length before))) ≡ fork node.payload (tree_at (before ++ node ∷ after) node.behind) (tree_at (before ++ node ∷ after) node.ahead)
  tree_amid before after node b a =
      let within : IsLinkOf (before ++ node ∷ []) (To (node_id (length before))) = omega (arith, length-append before (node ∷ [])) in
      let whole : tree_at (before ++ node ∷ after) (To (node_id (length before))) ≡ tree_at (before ++ node ∷ []) (To (node_id (length before))) = rw (← append_assoc before (node ∷ []) after) (trees_kept (before ++ node ∷ []) after (To (node_id (length before))) within) in
      let low : tree_at (before ++ node ∷ after) node.behind ≡ tree_at before node.behind = trees_kept before (node ∷ after) node.behind b in
      let high : tree_at (before ++ node ∷ after) node.ahead ≡ tree_at before node.ahead = trees_kept before (node ∷ after) node.ahead a in
      cc (tree_more before node)

  tree_there : (nodes before after : List (Entry A)) (index : ℕ) (node : Entry A) → nodes ≡ before ++ node ∷ after → length before ≡ index → least_nodes node.behind ≤ index → least_nodes node.ahead ≤ index → tree_at nodes (To (node_id index)) ≡ fork node.payload (tree_at nodes node.behind) (tree_at nodes node.ahead)
  tree_there nodes before after index node whole place b a =
      let low : IsLinkOf before node.behind = rw place b in
      let high : IsLinkOf before node.ahead = rw place a in
      rw (whole, ← place) (tree_amid before after node low high)

  pub is_node : (nodes : List (Entry A)) (id : NodeId) (payload : A) (behind ahead : Link) → AreLinked nodes → slice_get nodes id.index ≡ Some (entry payload behind ahead) → IsNode nodes id payload behind ahead
  is_node nodes id payload behind ahead l h =
      let node = entry payload behind ahead in
      let p = parts nodes id.index node h in
      record {
        node = h;
        behind_before = l.behind id.index node h;
        ahead_before = l.ahead id.index node h;
        tree = tree_there nodes p.before p.after id.index node p.whole p.place (l.behind id.index node h) (l.ahead id.index node h);
      }

  -- what is read at a number is its node
  pub node_read : (nodes : List (Entry A)) (id : NodeId) (node : Entry A) → AreLinked nodes → id.index < length nodes → node ≡ get_or nodes id.index node → IsNode nodes id node.payload node.behind node.ahead
  node_read nodes id node l below read = is_node nodes id node.payload node.behind node.ahead l (slice_get_read nodes (length nodes) id.index node refl below read)

  -- a node by its number
  with_number : (old new : List (Entry A)) (payload : A) (behind ahead : Link) (id : NodeId) → id.index ≡ length old → AddsNode old new payload behind ahead (node_id (length old)) → AddsNode old new payload behind ahead id
  with_number old new payload behind ahead id number adds =
      subst (λ (index : ℕ). AddsNode old new payload behind ahead (node_id index)) (sym number) adds

  -- what is pushed is added
  pub node_pushed : (nodes new : List (Entry A)) (payload : A) (behind ahead : Link) (id : NodeId) → AreLinked nodes → IsLinkOf nodes behind → IsLinkOf nodes ahead → new ≡ nodes ++ entry payload behind ahead ∷ [] → id.index ≡ length nodes → AddsNode nodes new payload behind ahead id
  node_pushed nodes new payload behind ahead id l b a pushed number = rw pushed (with_number nodes (nodes ++ entry payload behind ahead ∷ []) payload behind ahead id number (added nodes payload behind ahead l b a))
