use Rattle.std.proofs.Common.{◌≡◌, ◌-◌, length, get_or, ap, sym, subst, arith, List}
use Rattle.csg_tree.specs.declared.node.StoredNode.{StoredNode}
use Rattle.csg_tree.specs.HalfSpaceTrees.{Tree}
use Rattle.csg_tree.specs.Numberings.{IsNumberIn}
use Rattle.csg_tree.specs.Nodes.{node_of, IsNodeOf}
use Rattle.csg_tree.proofs.Linked.{length_trees}
use Rattle.csg_tree.proofs.Subtrees.{node_told}
use Rattle.csg_tree.proofs.store.CsgStore.node.Goals as goal

pub index-requires : goal.index-requires
index-requires c = omega (arith, length_trees c.self.inside.nodes.items, ap length c.self.view_is, c.requires.0, c.requires.1, c.self.inside.nodes.ok.0)

pub returns-clause-node : goal.returns-clause-node
returns-clause-node c =
    let nodes = c.self.inside.nodes.items in
    let number = c.args.number in
    let told = c.as_node.result in
    let within : IsNumberIn nodes number =
    (c.requires.0, omega (arith, c.requires.1, length_trees nodes, ap length c.self.view_is)) in
    let is : node_of told ≡ get_or nodes (number - 1) (node_of told) =
    subst (λ (x : StoredNode). x ≡ get_or nodes (number - 1) x) (sym c.as_node.ensures) c.index.ensures in
    subst (λ (ts : List Tree). IsNodeOf ts number told) c.self.view_is
    (node_told nodes number told c.self.invariant.linked within is)
