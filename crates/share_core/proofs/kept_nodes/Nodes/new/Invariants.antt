use Rattle.std.proofs.Common.{◌≡◌, None, replicate}
use Rattle.share_core.specs.declared.kept_nodes.NodeState.TheVariants as state
use Rattle.share_core.proofs.kept_nodes.Nodes.new.Given as goal

abbrev pub invariant-loop-index : goal.invariant-loop-index
invariant-loop-index g l = (l.states.items ≡ replicate l._index state.Unasked) × (l.have.items ≡ replicate l._index None)
