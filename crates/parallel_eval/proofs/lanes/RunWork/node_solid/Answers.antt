use Rattle.std.proofs.Common.{◌≡◌, ◌+◌, ◌-◌, IsOk, refl, ap, sym, subst, ◌∙◌, arith}
use Rattle.csg_tree.specs.HalfSpaceTrees.{Tree}
use Rattle.csg_tree.specs.Numberings.{tree_numbered}
use Rattle.bsp_boolean.specs.Solids.{solid_of}
use Rattle.bsp_boolean.specs.TreeSolids.{one_if_join}
use Rattle.parallel_eval.specs.Joins.{GivesSolid}
use Rattle.parallel_eval.specs.Runs.{joins_to}
use Rattle.parallel_eval.proofs.Books.{none_asked, asked_at}
use Rattle.parallel_eval.proofs.Running.{leaf_of_run, join_of_run, in_reach}
use Rattle.parallel_eval.proofs.lanes.RunWork.node_solid.Goals as goal

pub leaf-requires-clause-some : goal.leaf-requires-clause-some
leaf-requires-clause-some g c =
    let is = leaf_of_run c.args.self.now.store.now c.args.self.now.start c.args.number c.node.result c.in-Leaf.planes c.node.ensures c.in-Leaf.is in
    is.1

pub leaf-requires-clause-reach : goal.leaf-requires-clause-reach
leaf-requires-clause-reach g c =
    let is = leaf_of_run c.args.self.now.store.now c.args.self.now.start c.args.number c.node.result c.in-Leaf.planes c.node.ensures c.in-Leaf.is in
    in_reach c.in-Leaf.planes.now is.2

pub solid-first-requires-clause-number : goal.solid-first-requires-clause-number
solid-first-requires-clause-number g c =
    let is = join_of_run c.args.self.now.store.now c.args.self.now.start c.args.number c.node.result c.in-Join.op c.in-Join.left c.in-Join.right c.node.ensures c.in-Join.is in
    (is.0, is.1)

pub solid-second-requires-clause-number : goal.solid-second-requires-clause-number
solid-second-requires-clause-number g c =
    let is = join_of_run c.args.self.now.store.now c.args.self.now.start c.args.number c.node.result c.in-Join.op c.in-Join.left c.in-Join.right c.node.ensures c.in-Join.is in
    (is.2, is.3)

pub join_solid-requires-clause-join : goal.join_solid-requires-clause-join
join_solid-requires-clause-join g c =
    let trees = c.args.self.now.store.now in
    let is = join_of_run trees c.args.self.now.start c.args.number c.node.result c.in-Join.op c.in-Join.left c.in-Join.right c.node.ensures c.in-Join.is in
    (tree_numbered trees c.in-Join.left, tree_numbered trees c.in-Join.right, c.in_ok-key-in-Join.ensures ∙ is.4, c.solid-first.ensures, c.solid-second.ensures)

pub join_solid-requires-clause-allowed : goal.join_solid-requires-clause-allowed
join_solid-requires-clause-allowed g c =
    let trees = c.args.self.now.store.now in
    let n = c.args.number in
    let is = join_of_run trees c.args.self.now.start n c.node.result c.in-Join.op c.in-Join.left c.in-Join.right c.node.ensures c.in-Join.is in
    let within = c.requires.run.within in
    subst (g.B.AskPolicy.may_ask c.args.share.now.share.caller) (sym c.in_ok-key-in-Join.ensures)
    (c.requires.allowed.each (tree_numbered trees n) (ap one_if_join is.4, (n, ((omega arith, omega (arith, within)), refl))))

pub returns-in-Leaf-clause-solid : goal.returns-in-Leaf-clause-solid
returns-in-Leaf-clause-solid g c =
    let is = leaf_of_run c.args.self.now.store.now c.args.self.now.start c.args.number c.node.result c.in-Leaf.planes c.node.ensures c.in-Leaf.is in
    subst (λ (t : Tree). GivesSolid (solid_of t) c.leaf.result) (sym is.0) c.leaf.ensures

pub returns-in-Leaf-clause-asked : goal.returns-in-Leaf-clause-asked
returns-in-Leaf-clause-asked g c =
    let trees = c.args.self.now.store.now in
    let n = c.args.number in
    let is = leaf_of_run trees c.args.self.now.start n c.node.result c.in-Leaf.planes c.node.ensures c.in-Leaf.is in
    let joins : joins_to trees n ≡ joins_to trees (n - 1) + 0 =
    c.one_tree_more.ensures.joins trees n (omega arith, omega arith) ∙ ap (λ (t : Tree). joins_to trees (n - 1) + one_if_join t) is.0 in
    none_asked (IsOk c.leaf.result) (joins_to trees (n - 1)) (joins_to trees n) (g.D.Builder.builds c.args.builder.now) c.args.share.now.share
    (omega (arith, joins)) (λ ok. omega (arith, joins))

pub returns-in_ok-key-in-Join-clause-asked : goal.returns-in_ok-key-in-Join-clause-asked
returns-in_ok-key-in-Join-clause-asked g c =
    let trees = c.args.self.now.store.now in
    let n = c.args.number in
    let is = join_of_run trees c.args.self.now.start n c.node.result c.in-Join.op c.in-Join.left c.in-Join.right c.node.ensures c.in-Join.is in
    let joins : joins_to trees n ≡ joins_to trees (n - 1) + 1 =
    c.one_tree_more.ensures.joins trees n (omega arith, omega arith) ∙ ap (λ (t : Tree). joins_to trees (n - 1) + one_if_join t) is.4 in
    asked_at (IsOk c.join_solid.result) (joins_to trees (n - 1)) (joins_to trees n) (g.D.Builder.builds c.args.builder.now) (g.D.Builder.builds c.join_solid.new.builder)
    c.args.share.now.share c.join_solid.new.share.share joins c.join_solid.ensures.asked
