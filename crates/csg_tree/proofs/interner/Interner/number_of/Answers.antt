use Rattle.std.proofs.Common.{◌≡◌, ◌∷◌, [], List, Some, None, length, sym, ap, subst, ◌∙◌, arith, length-append}
use Rattle.std.specs.BTreeMap.{get}
use Rattle.csg_tree.specs.Numberings.{HasNumber}
use Rattle.csg_tree.specs.declared.node.StoredNode.{StoredNode}
use Rattle.csg_tree.specs.Nodes.{node_of, tree_of_node, trees_of_nodes}
use Rattle.csg_tree.specs.Interned.{key_cmp, AreInterned, TreesStay}
use Rattle.csg_tree.proofs.Linked.{behind_more}
use Rattle.csg_tree.proofs.Interning.{known_number, no_number, interned_push, new_number, they_stay}
use Rattle.csg_tree.proofs.lemmas.Distinct.{distinct_known, distinct_new}
use Rattle.csg_tree.proofs.interner.Interner.number_of.Goals as goal

pub returns-in-Some-clause-number : goal.returns-in-Some-clause-number
returns-in-Some-clause-number c =
    let look : get key_cmp c.args.self.now.found c.in_ok-key.key ≡ Some c.in-Some.number = sym c.look_up.ensures ∙ c.in-Some.is in
    known_number c.args.self.now.found c.args.self.now.nodes.items c.in_ok-key.key (node_of c.args.node) c.in-Some.number
    c.requires.interned c.in_ok-key.ensures look

pub returns-in-Some-clause-grown : goal.returns-in-Some-clause-grown
returns-in-Some-clause-grown c =
    let look : get key_cmp c.args.self.now.found c.in_ok-key.key ≡ Some c.in-Some.number = sym c.look_up.ensures ∙ c.in-Some.is in
    let ts = trees_of_nodes c.args.self.now.nodes.items in
    record {
      distinct = λ trees e.
          distinct_known ts trees (tree_of_node ts (node_of c.args.node)) c.in-Some.number e
          (known_number c.args.self.now.found c.args.self.now.nodes.items c.in_ok-key.key (node_of c.args.node) c.in-Some.number
          c.requires.interned c.in_ok-key.ensures look);
      few = omega arith;
    }

pub returns-in_ok-number-in-None-clause-interned : goal.returns-in_ok-number-in-None-clause-interned
returns-in_ok-number-in-None-clause-interned c =
    let look : get key_cmp c.args.self.now.found c.in_ok-key.key ≡ None = sym c.look_up.ensures ∙ c.in-None.is in
    subst (λ (nodes : List StoredNode). AreInterned c.add.new.self.found nodes) (sym c.in_ok-number-in-None.ensures.nodes)
    (interned_push c.args.self.now.found c.add.new.self.found c.args.self.now.nodes.items c.in_ok-key.key (node_of c.args.node)
    c.requires.interned c.in_ok-key.ensures look c.requires.over c.in_ok-number-in-None.ensures.found)

pub returns-in_ok-number-in-None-clause-number : goal.returns-in_ok-number-in-None-clause-number
returns-in_ok-number-in-None-clause-number c =
    let old = c.args.self.now.nodes.items in
    let node = node_of c.args.node in
    let number = c.in_ok-number-in-None.number in
    subst (λ (nodes : List StoredNode). HasNumber (trees_of_nodes nodes) (tree_of_node (trees_of_nodes old) node) number)
    (sym c.in_ok-number-in-None.ensures.nodes) (new_number old node number c.in_ok-number-in-None.ensures.number)

pub returns-in_ok-number-in-None-clause-stay : goal.returns-in_ok-number-in-None-clause-stay
returns-in_ok-number-in-None-clause-stay c =
    let old = c.args.self.now.nodes.items in
    subst (λ (nodes : List StoredNode). TreesStay (trees_of_nodes old) (trees_of_nodes nodes)) (sym c.in_ok-number-in-None.ensures.nodes)
    (they_stay old (node_of c.args.node))

pub returns-in_ok-number-in-None-clause-grown : goal.returns-in_ok-number-in-None-clause-grown
returns-in_ok-number-in-None-clause-grown c =
    let look : get key_cmp c.args.self.now.found c.in_ok-key.key ≡ None = sym c.look_up.ensures ∙ c.in-None.is in
    let old = c.args.self.now.nodes.items in
    let node = node_of c.args.node in
    record {
      distinct = λ trees e.
          ap trees_of_nodes c.in_ok-number-in-None.ensures.nodes ∙ behind_more [] old node
          ∙ distinct_new (trees_of_nodes old) trees (tree_of_node (trees_of_nodes old) node) e
          (no_number c.args.self.now.found old c.in_ok-key.key node c.requires.interned c.in_ok-key.ensures look c.requires.over);
      few = omega (arith, ap length c.in_ok-number-in-None.ensures.nodes, length-append old (node ∷ []));
    }
