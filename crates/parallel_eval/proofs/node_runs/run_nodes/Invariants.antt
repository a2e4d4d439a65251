use Rattle.std.proofs.Common.{◌≡◌, ◌+◌, length}
use Rattle.parallel_eval.specs.Runs.{AreRunNodes}
use Rattle.parallel_eval.proofs.node_runs.run_nodes.Given as goal

abbrev pub invariant-loop-before : goal.invariant-loop-before
invariant-loop-before l =
    AreRunNodes l.fn.store l.fn.start l.fn.start l.nodes.items × (l.fn.start + length l.nodes.items ≡ l.before)
