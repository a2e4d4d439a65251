use Rattle.std.proofs.Common.{◌≡◌, length, ap, sym, subst, arith}
use Rattle.std.specs.List.{All}
use Rattle.csg_tree.specs.Trees.{plain_tree_of}
use Rattle.csg_tree.specs.ProperTrees.{IsProper}
use Rattle.csg_tree.specs.Numberings.{by_height, nodes_of}
use Rattle.csg_tree.specs.Nodes.{trees_of_nodes, trees_of_lent_nodes}
use Rattle.csg_tree.proofs.Linked.{length_trees, length_lent}
use Rattle.csg_tree.proofs.Heights.{distinct_less, by_height_less}
use Rattle.csg_tree.proofs.Subtrees.{nodes_are, nodes_proper}
use Rattle.csg_tree.proofs.store.CsgStore.intern.Goals as goal

pub invariant_of-result : goal.invariant_of-result
invariant_of-result c =
    let f = plain_tree_of c.args.tree.now in
    let nodes = c.in_ok-nodes.nodes.items in
    let parts = c.deref-2.result.now in
    let n = length c.deref-3.result.now in
    let all : trees_of_nodes nodes ≡ nodes_of f =
    nodes_are c.in_ok-levels.levels.items c.deref-3.result.now c.in_ok-parts.parts.items c.deref.result.now parts nodes f
    c.in_ok-parts.ensures.trees c.deref.ensures.value c.in_ok-levels.ensures c.deref-2.ensures.value c.deref-3.ensures.value c.in_ok-nodes.ensures.trees in
    record {
      linked = c.in_ok-nodes.ensures.linked;
      once = c.in_ok-nodes.ensures.once;
      proper = subst (All IsProper) (sym all) (nodes_proper f c.requires);
      few = omega (
        arith,
        length_trees nodes,
        ap length c.in_ok-nodes.ensures.trees,
        distinct_less (by_height n (trees_of_lent_nodes parts)),
        by_height_less n (trees_of_lent_nodes parts),
        length_lent parts,
        c.in_ok-parts.ensures.few,
        ap length c.deref-2.ensures.value,
      );
    }

pub returns : goal.returns
returns c =
    nodes_are c.in_ok-levels.levels.items c.deref-3.result.now c.in_ok-parts.parts.items c.deref.result.now c.deref-2.result.now
    c.in_ok-nodes.nodes.items (plain_tree_of c.args.tree.now) c.in_ok-parts.ensures.trees c.deref.ensures.value c.in_ok-levels.ensures
    c.deref-2.ensures.value c.deref-3.ensures.value c.in_ok-nodes.ensures.trees
