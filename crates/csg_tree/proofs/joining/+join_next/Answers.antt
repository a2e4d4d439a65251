use Rattle.std.proofs.Common.{◌≤◌, ◌-◌, ◌/◌, List, map, take, ap, ap₂, sym, ◌∙◌, arith}
use Rattle.std.proofs.lemmas.Result.{IfOk-weaker}
use Rattle.std.specs.Vec.Iter.{into_iter_items}
use Rattle.csg_tree.specs.declared.tree.CsgTree.{CsgTree}
use Rattle.csg_tree.specs.Trees.{plain_tree_of}
use Rattle.csg_tree.specs.Joins.{balanced_of, join_of}
use Rattle.csg_tree.proofs.Halves.{next_halves}
use Rattle.csg_tree.proofs.joining.+join_next.Goals as goal

pub returns-clause-joined : goal.returns-clause-joined
returns-clause-joined t c =
    let n = c.args.count in
    let op = c.args.op in
    let trees = into_iter_items c.args.trees.now in
    let two : 2 ≤ n = omega arith in
    let halves = next_halves plain_tree_of op n trees two c.requires in
    let next = ap (λ (ys : List CsgTree). balanced_of op (map plain_tree_of (take (n - n / 2) ys)))
    c.in_ok-first.ensures.rest in
    IfOk-weaker c.join.result _ _
    (λ tree e. e ∙ ap₂ (join_of op) c.in_ok-first.ensures.joined (c.in_ok-rest.ensures.joined ∙ next)
    ∙ sym halves)
    c.join.ensures
