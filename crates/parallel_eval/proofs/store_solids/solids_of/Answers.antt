use Rattle.std.proofs.Common.{◌≡◌, ◌≤◌, List, length, take, ap, sym, subst, ◌∙◌, arith}
use Rattle.std.proofs.lemmas.List.{take_all}
use Rattle.csg_tree.specs.HalfSpaceTrees.{Tree}
use Rattle.bsp_boolean.specs.TreeSolids.{join_count}
use Rattle.parallel_eval.specs.Joins.{MayAskJoins}
use Rattle.parallel_eval.proofs.store_solids.solids_of.Goals as goal

pub run-requires-clause-ready : goal.run-requires-clause-ready
run-requires-clause-ready g c κs within = (
  c.loop-done.invariant.ready,
  subst (λ k. MayAskJoins (g.B.AskPolicy.may_ask k) c.args.store.now) (sym c.loop-done.invariant.asked.caller) c.requires.ready.1,
)

pub returns-in_err-done-clause-few : goal.returns-in_err-done-clause-few
returns-in_err-done-clause-few g c =
    let trees = c.args.store.now in
    let whole : take (length trees) trees ≡ trees = take_all (length trees) trees (omega arith) in
    let few : join_count trees ≤ length trees =
    subst (λ (ts : List Tree). join_count ts ≤ length trees) whole (c.one_tree_more.ensures.few trees (length trees)) in
    let many : c.len.result ≡ length trees = c.len.ensures.is ∙ ap length c.store-nodes.ensures in
    let fits = c.len.type_inv in
    omega arith
