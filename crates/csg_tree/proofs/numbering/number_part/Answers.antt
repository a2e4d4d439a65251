use Rattle.std.proofs.Common.{◌≡◌, ◌-◌, ◌<◌, ◌∷◌, ◌++◌, [], ℕ, List, length, get_or, sym, ap, subst, ◌∙◌, arith}
use Rattle.csg_tree.specs.declared.node.CsgNode.{CsgNode}
use Rattle.csg_tree.specs.HalfSpaceTrees.{Tree}
use Rattle.csg_tree.specs.Numberings.{distinct_trees, tree_numbered, HasNumber}
use Rattle.csg_tree.specs.Nodes.{node_of, tree_of_node, trees_of_nodes, trees_of_lent_nodes}
use Rattle.csg_tree.specs.Interned.{renumbered_node, IsNodeReady}
use Rattle.csg_tree.proofs.Linked.{length_lent}
use Rattle.csg_tree.proofs.ByHeight.{over_same}
use Rattle.csg_tree.proofs.Placing.{lent_number, ready_tree, placed_set, stay_set}
use Rattle.csg_tree.proofs.numbering.number_part.Goals as goal

pub linked-node-requires : goal.linked-node-requires
linked-node-requires c =
    let parts = c.args.parts.now in
    let part = c.index-parts-index.result in
    let at = lent_number parts c.args.number part c.requires.numbering.linked c.requires.ready.0 in
    let over = rw (← c.index-parts-index.is) at at.0 in
    let count : length (trees_of_lent_nodes parts) ≡ length c.deref.result.now =
    length_lent parts ∙ sym c.requires.numbering.room ∙ ap length (sym c.deref.ensures.value) in
    over_same (trees_of_lent_nodes parts) c.deref.result.now (node_of part) count over

-- the tree of the node that is numbered
tree_is : (c : goal.After-numbers-1) → tree_of_node (trees_of_nodes c.args.interner.now.nodes.items) (node_of c.linked-node.result)
    ≡ tree_numbered (trees_of_lent_nodes c.args.parts.now) c.args.number
tree_is c =
    let parts = c.args.parts.now in
    let ps = trees_of_lent_nodes parts in
    let ts = trees_of_nodes c.args.interner.now.nodes.items in
    let ns = c.args.numbers.now.items in
    let part = c.index-parts-index.result in
    let at = lent_number parts c.args.number part c.requires.numbering.linked c.requires.ready.0 in
    let read : get_or parts (c.args.number - 1) part ≡ part = sym c.index-parts-index.is in
    let ready : IsNodeReady ps ts ns (node_of part) = subst (λ (x : CsgNode). IsNodeReady ps ts ns (node_of x)) read (c.requires.ready.1 part) in
    ap (tree_of_node ts) (c.linked-node.ensures ∙ ap (λ (xs : List ℕ). renumbered_node xs (node_of part)) c.deref.ensures.value)
    ∙ ready_tree ps ts ns (node_of part) ready
    ∙ ap (λ (x : CsgNode). tree_of_node ps (node_of x)) (sym read) ∙ sym at.1

-- it has the number that is written
has_number : (c : goal.After-numbers-1) →
    HasNumber (trees_of_nodes c.number_of.new.self.nodes.items) (tree_numbered (trees_of_lent_nodes c.args.parts.now) c.args.number) c.in_ok-numbers.field-0
has_number c =
    subst (λ (tree : Tree). HasNumber (trees_of_nodes c.number_of.new.self.nodes.items) tree c.in_ok-numbers.field-0) (tree_is c)
    c.in_ok-numbers.ensures.number

in_room : (c : goal.After-numbers-1) → c.args.number - 1 < length c.args.numbers.now.items
in_room c = omega (arith, c.requires.numbering.room, c.requires.ready.0)

pub returns-clause-placed : goal.returns-clause-placed
returns-clause-placed c =
    placed_set (trees_of_lent_nodes c.args.parts.now) (trees_of_nodes c.number_of.new.self.nodes.items) c.args.numbers.now.items c.args.number
    c.in_ok-numbers.field-0 (in_room c) (has_number c)

pub returns-clause-stay : goal.returns-clause-stay
returns-clause-stay c = λ m within placed.
    stay_set (trees_of_lent_nodes c.args.parts.now) (trees_of_nodes c.args.interner.now.nodes.items) (trees_of_nodes c.number_of.new.self.nodes.items)
    c.args.numbers.now.items c.args.number c.in_ok-numbers.field-0 m c.requires.ready.0.0 (in_room c) c.in_ok-numbers.ensures.stay
    (has_number c) within placed

pub returns-clause-grown : goal.returns-clause-grown
returns-clause-grown c = record {
  distinct = λ trees e.
      c.in_ok-numbers.ensures.grown.distinct trees e ∙ ap (λ (t : Tree). distinct_trees (trees ++ t ∷ [])) (tree_is c);
  few = omega (arith, c.in_ok-numbers.ensures.grown.few);
}
