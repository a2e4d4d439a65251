-- Nodes that are copied onto another table.
use Rattle.std.proofs.Common.{◌≡◌, ℕ, ◌+◌, ◌/◌, ◌≤◌, inl, inr, Bool, true, false, Some, List, [], ◌∷◌, length, get_or, slice_get, sym, ap, ap₂, subst, ◌∙◌, ◌++◌, arith}
use Rattle.std.proofs.lemmas.Bool.{cases_lt}
use Rattle.std.proofs.lemmas.List.{length_push}
use Rattle.std.proofs.lemmas.Option.{slice_get_within}
use Rattle.plane_predicate.specs.Space.{Coefficients}
use Rattle.link_forest.specs.declared.link.Link.{Link}
use Rattle.link_forest.specs.declared.link.Link.TheVariants.{End, To}
use Rattle.link_forest.specs.declared.link.NodeId.{NodeId}
use Rattle.link_forest.specs.declared.forest.Entry.{Entry}
use Rattle.link_forest.specs.Forests.{entry, least_nodes, AddsNode, IsNode, IsReached, itself, by_behind, by_ahead}
use Rattle.link_forest.proofs.lemmas.Numbers.{stays, behind_all}
use Rattle.plane_table.specs.declared.faces.Face.{Face}
use Rattle.plane_table.specs.Faces.{outline_of}
use Rattle.plane_table.specs.Joins.{AreNumbersOf, AreNumbersOfUsed, AreMarkedUsed}
use Rattle.bsp_tree.specs.Shapes.{tree_of_branch, tree_of, tree_at_link, AreFacesOver, IsWholeSolid, SolidParts}
use Rattle.bsp_tree.specs.Trees.{size}
use Rattle.bsp_tree.specs.Growths.{Sheet, tree_on, HasTree, HasGrownWhole}
use Rattle.bsp_tree.specs.Copies.{AreCopied, AreFoundOver, AreUsed}
use Rattle.bsp_tree.proofs.lemmas.Wholes.{leaf_tree, same_id, node_same}

pub none_copied : (planes : List Coefficients) (nodes : List (Entry Face)) (sheet : Sheet) → sheet.nodes ≡ [] → AreCopied planes nodes 0 sheet
none_copied planes nodes sheet none = record {
  count_is = ap length none;
  links = λ index node below there. absurd (omega arith);
  trees = ends planes nodes sheet;
}
  where
    ends : (planes : List Coefficients) (nodes : List (Entry Face)) (sheet : Sheet) (link : Link) → least_nodes link ≤ 0 → tree_on sheet link ≡ tree_at_link planes nodes link
    ends planes nodes sheet (End side) h = leaf_tree sheet.planes sheet.nodes side ∙ sym (leaf_tree planes nodes side)
    ends planes nodes sheet (To id) h = absurd (omega arith)

-- the tree of the node that was added
added_tree : (planes : List Coefficients) (nodes : List (Entry Face)) (old new : Sheet) (face copy : Face) (behind ahead : Link) (at id : NodeId) →
    AreCopied planes nodes at.index old → IsNode nodes at face behind ahead → AddsNode old.nodes new.nodes copy behind ahead id →
    new.planes ≡ old.planes → outline_of old.planes copy ≡ outline_of planes face → tree_on new (To id) ≡ tree_at_link planes nodes (To at)
added_tree planes nodes old new face copy behind ahead at id h n d p same =
    ap₂ tree_of_branch p d.tree
    ∙ node_same same (h.trees behind n.behind_before) (h.trees ahead n.ahead_before)
    ∙ sym (ap (tree_of_branch planes) n.tree)

-- the node of a number
same_node : (nodes : List (Entry Face)) (at index : ℕ) (face : Face) (behind ahead : Link) (node : Entry Face) → at ≡ index →
    slice_get nodes at ≡ Some (entry face behind ahead) → slice_get nodes index ≡ Some node → entry face behind ahead ≡ node
same_node nodes at index face behind ahead node same first second =
    let both : Some (entry face behind ahead) ≡ Some node = sym first ∙ ap (slice_get nodes) same ∙ second in cc

pub copied_more : (planes : List Coefficients) (nodes : List (Entry Face)) (old new : Sheet) (face copy : Face) (behind ahead : Link) (at id : NodeId) →
    AreCopied planes nodes at.index old → IsNode nodes at face behind ahead → AddsNode old.nodes new.nodes copy behind ahead id →
    new.planes ≡ old.planes → outline_of old.planes copy ≡ outline_of planes face → AreCopied planes nodes (at.index + 1) new
copied_more planes nodes old new face copy behind ahead at id h n d p same = record {
  count_is = rw d.nodes (length_push old.nodes (entry copy behind ahead)) ∙ ap (λ (k : ℕ). k + 1) h.count_is;
  links = λ index node below there. rw d.nodes (elim (cases_lt index at.index) [
    | inl low ↦
        let k = h.links index node low there in
        record { own = k.own; there = stays old.nodes (entry copy behind ahead ∷ []) index k.own k.there; behind = k.behind; ahead = k.ahead }
    | inr high ↦
        let last : length old.nodes ≡ index = omega (arith, h.count_is) in
        let same : entry face behind ahead ≡ node = same_node nodes at.index index face behind ahead node (omega arith) n.node there in
        record {
          own = entry copy behind ahead;
          there = subst (λ (k : ℕ). slice_get (old.nodes ++ entry copy behind ahead ∷ []) k ≡ Some (entry copy behind ahead)) last (behind_all old.nodes [] (entry copy behind ahead));
          behind = ap (λ (e : Entry Face). e.behind) same;
          ahead = ap (λ (e : Entry Face). e.ahead) same;
        }
  ]);
  trees = trees;
}
  where
    trees : (link : Link) → least_nodes link ≤ at.index + 1 → tree_on new link ≡ tree_at_link planes nodes link
    trees (End side) k = leaf_tree new.planes new.nodes side ∙ sym (leaf_tree planes nodes side)
    trees (To other) k = elim (cases_lt other.index at.index) [
      | inl low ↦
          let there : least_nodes (To other) ≤ length old.nodes = omega (arith, h.count_is) in
          ap₂ tree_of_branch p (d.extends.trees (To other) there) ∙ h.trees (To other) (omega arith)
      | inr high ↦
          let last : other ≡ id = same_id other id (omega (arith, d.number, h.count_is)) in
          let first : other ≡ at = same_id other at (omega arith) in
          ap (λ (n : NodeId). tree_on new (To n)) last ∙ added_tree planes nodes old new face copy behind ahead at id h n d p same
          ∙ sym (ap (λ (n : NodeId). tree_at_link planes nodes (To n)) first)
    ]

-- numbers of all planes are numbers of those that faces name
pub all_found : (planes : List Coefficients) (numbers : List ℕ) (from : List Coefficients) (nodes : List (Entry Face)) →
    AreNumbersOf planes numbers from → AreFacesOver from nodes → AreFoundOver planes numbers from nodes
all_found planes numbers from nodes h faces = record {
  count = h.count;
  each = λ index other there.
      let f = faces.each index other there in
      record {
        plane = h.each (other.payload.plane / 2) (omega (arith, f.plane));
        edges = λ k d below. h.each (get_or other.payload.edges k d / 2) (omega (arith, f.edges k d below));
      };
}

pub used_found : (sheet : Sheet) (planes : List Coefficients) (numbers : List ℕ) (used : List Bool) → AreUsed sheet used →
    AreNumbersOfUsed planes numbers sheet.planes used → AreFacesOver sheet.planes sheet.nodes →
    AreFoundOver planes numbers sheet.planes sheet.nodes
used_found sheet planes numbers used u h faces = record {
  count = h.count;
  each = λ index other there.
      let f = faces.each index other there in
      let m = u.marked index other there in
      record {
        plane = h.each (other.payload.plane / 2) (omega (arith, f.plane)) m.plane;
        edges = λ k d below. h.each (get_or other.payload.edges k d / 2) (omega (arith, f.edges k d below)) (m.edges k d below);
      };
}

-- what is marked stays so
pub still_marked : (old new : List Bool) (face : Face) → ((k : ℕ) → get_or old k false ≡ true → get_or new k false ≡ true) →
    AreMarkedUsed old face → AreMarkedUsed new face
still_marked old new face others h = record {
  plane = others (face.plane / 2) h.plane;
  edges = λ k d below. others (get_or face.edges k d / 2) (h.edges k d below);
}

-- the node of a number is marked where its face is
pub marked_at : (nodes : List (Entry Face)) (used : List Bool) (id : NodeId) (face : Face) (behind ahead : Link) (at : ℕ) (other : Entry Face) →
    at ≡ id.index → IsNode nodes id face behind ahead → slice_get nodes at ≡ Some other → AreMarkedUsed used face → AreMarkedUsed used other.payload
marked_at nodes used id face behind ahead at other same n there m =
    let both : Some (entry face behind ahead) ≡ Some other = sym n.node ∙ ap (slice_get nodes) (sym same) ∙ there in
    let one : entry face behind ahead ≡ other = cc in
    rw (← one) m

-- the tree of a solid whose nodes were all copied
pub copied_stands : (solid : SolidParts) (sheet : Sheet) → IsWholeSolid solid → AreCopied solid.planes solid.nodes (length solid.nodes) sheet →
    HasTree sheet solid.root (tree_of solid)
unfolding tree_of
copied_stands solid sheet h k = record {
  there = omega (arith, h.root, k.count_is);
  same = k.trees solid.root h.root;
}

-- what is reached from a link is reached in the copy
reached_copied : (planes : List Coefficients) (nodes : List (Entry Face)) (sheet : Sheet) (link : Link) (id : NodeId) →
    AreCopied planes nodes (length nodes) sheet → IsReached nodes link id → IsReached sheet.nodes link id
reached_copied planes nodes sheet _ _ h (itself id) = itself id
reached_copied planes nodes sheet _ _ h (by_behind from id node there r) =
    let k = h.links from.index node (slice_get_within nodes from.index node there) there in
    by_behind from id k.own k.there (subst (λ (l : Link). IsReached sheet.nodes l id) (sym k.behind) (reached_copied planes nodes sheet node.behind id h r))
reached_copied planes nodes sheet _ _ h (by_ahead from id node there r) =
    let k = h.links from.index node (slice_get_within nodes from.index node there) there in
    by_ahead from id k.own k.there (subst (λ (l : Link). IsReached sheet.nodes l id) (sym k.ahead) (reached_copied planes nodes sheet node.ahead id h r))

-- the copy of a whole solid is one
pub copied_whole : (sheet copy : Sheet) (root : Link) (kept : ℕ) → HasGrownWhole sheet root kept →
    AreCopied sheet.planes sheet.nodes (length sheet.nodes) copy → HasGrownWhole copy root kept
copied_whole sheet copy root kept h k = record {
  there = omega (arith, h.there, k.count_is);
  reached = λ id from below. reached_copied sheet.planes sheet.nodes copy root id k (h.reached id from (omega (arith, below, k.count_is)));
  size_is = h.size_is ∙ ap size (sym (k.trees root h.there));
}
