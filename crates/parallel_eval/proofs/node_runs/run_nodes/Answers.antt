use Rattle.std.proofs.Common.{◌≡◌, ◌+◌, ◌++◌, ◌∷◌, [], length, subst, sym, ap, arith, rules, length-append}
use Rattle.parallel_eval.specs.Runs.{AreRunNodes, IsBelow, IsRunNode}
use Rattle.parallel_eval.proofs.Running.{run_more}
use Rattle.parallel_eval.proofs.node_runs.run_nodes.Goals as goal

pub loop-before-preserved : goal.loop-before-preserved
loop-before-preserved c =
    let items : c.push.new.self.items ≡ c.loop-before.nodes.items ++ c.node-node.result ∷ [] = search rules in
    let below : IsBelow c.args.start c.node-node.result = search rules in
    let node : IsRunNode c.args.store.now c.args.start (c.loop-before.before + 1) c.node-node.result =
    record { told = c.node-node.ensures.node; proper = c.node-node.ensures.proper; below = below } in
    let many = ap length items in
    let behind = c.loop-before.invariant.1 in (
      subst (AreRunNodes c.args.store.now c.args.start c.args.start) (sym items)
          (run_more c.args.store.now c.args.start c.args.start (c.loop-before.before + 1) c.loop-before.nodes.items c.node-node.result
          c.loop-before.invariant.0 (omega (arith, behind)) node),
      omega (arith, many, behind, length-append c.loop-before.nodes.items (c.node-node.result ∷ [])),
    )
