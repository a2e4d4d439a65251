use Rattle.std.proofs.Common.{◌+◌, sym, subst, arith}
use Rattle.csg_tree.specs.declared.node.StoredNode.{StoredNode}
use Rattle.csg_tree.specs.Numberings.{HasNumber}
use Rattle.csg_tree.specs.Nodes.{tree_of_node, IsOver}
use Rattle.csg_tree.proofs.EarlierNumbers.{node_has, node_over, found_more}
use Rattle.csg_tree.proofs.earlier.numbers_by_key.Goals as goal

pub loop-before-preserved : goal.loop-before-preserved
loop-before-preserved c =
    let trees = c.args.store.now in
    let k = c.loop-before.before in
    let told = c.node.result in
    let same = sym c.in_ok-key.ensures in
    found_more trees c.loop-before.found c.put.new.found c.in_ok-key.key k c.loop-before.invariant
    (subst (IsOver trees) same (node_over trees trees (k + 1) told (omega arith) c.node.ensures.node))
    (subst (λ (x : StoredNode). HasNumber trees (tree_of_node trees x) (k + 1)) same
    (node_has trees (k + 1) told (omega arith, omega arith) c.node.ensures.node))
    c.in_ok-put.ensures
