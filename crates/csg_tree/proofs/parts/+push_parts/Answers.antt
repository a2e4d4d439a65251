use Rattle.std.proofs.Common.{◌≡◌, ◌≤◌, ◌++◌, ap, sym, subst, ◌∙◌, arith}
use Rattle.std.proofs.lemmas.Result.{on_ok_weaker}
use Rattle.csg_tree.specs.HalfSpaceTrees.{Tree, tree_join}
use Rattle.csg_tree.specs.Trees.{plain_tree_of}
use Rattle.csg_tree.specs.ProperTrees.{HasFullJoins}
use Rattle.csg_tree.specs.Numberings.{occurrences}
use Rattle.csg_tree.specs.Nodes.{trees_of_lent_nodes}
use Rattle.csg_tree.proofs.Forms.{join_form}
use Rattle.csg_tree.proofs.Linked.{subtrees_some, length_lent, joined_trees}
use Rattle.csg_tree.proofs.parts.+push_parts.Goals as goal

pub push_node-requires-in-Join-clause-over : goal.push_node-requires-in-Join-clause-over
push_node-requires-in-Join-clause-over t c =
    let l = c.in_ok-left-in-Join.ensures in
    let r = c.in_ok-right-in-Join.ensures in
    let count = length_lent c.push_parts-in-Join.new.parts.items in
    let some_left = subtrees_some (plain_tree_of c.deref.result.now) in
    let some_right = subtrees_some (plain_tree_of c.deref-in-Join.result.now) in
    ((omega (arith, l.last, l.more), omega (arith, l.last, r.more, count)), (omega (arith, r.last, r.more), omega (arith, r.last, count)))

pub returns-in_ok-right-in-Join-clause-trees : goal.returns-in_ok-right-in-Join-clause-trees
returns-in_ok-right-in-Join-clause-trees t c =
    let l = c.in_ok-left-in-Join.ensures in
    let r = c.in_ok-right-in-Join.ensures in
    let ts = trees_of_lent_nodes c.args.parts.now.items in
    let us = trees_of_lent_nodes c.push_parts.new.parts.items in
    let vs = trees_of_lent_nodes c.push_parts-in-Join.new.parts.items in
    let ws = trees_of_lent_nodes c.push_node-in-Join.new.parts.items in
    let op = c.in-Join.op in
    let left = plain_tree_of c.in-Join.left.value in
    let right = plain_tree_of c.in-Join.right.value in
    let whole : plain_tree_of c.args.tree.now ≡ tree_join op left right = ap plain_tree_of c.in-Join.is ∙ join_form op c.in-Join.left c.in-Join.right in
    let full : HasFullJoins (tree_join op left right) = subst HasFullJoins whole c.requires.joins in
    let above : 1 ≤ c.in_ok-left-in-Join.left = omega (arith, l.last, l.more, subtrees_some (plain_tree_of c.deref.result.now)) in
    let e1 = rw c.deref.ensures at l.trees in
    let e2 = rw c.deref-in-Join.ensures at r.trees in
    on_ok_weaker c.push_node-in-Join.result
    (λ e. joined_trees ts us vs ws op left right full.0 full.1
    e1 e2 c.in_ok-left-in-Join.left c.in_ok-right-in-Join.right
    (l.last ∙ sym (length_lent c.push_parts.new.parts.items)) (r.last ∙ sym (length_lent c.push_parts-in-Join.new.parts.items)) above e
    ∙ ap (λ (tree : Tree). ts ++ occurrences tree) (sym whole))
    c.push_node-in-Join.ensures.trees
