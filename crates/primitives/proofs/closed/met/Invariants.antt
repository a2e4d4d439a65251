use Rattle.primitives.specs.contracts.ways.DirectedEdgeOrd.TheImpl.{cmp-value}
use Rattle.primitives.proofs.Sets.{HasFirst}
use Rattle.primitives.proofs.closed.met.Given as goal

abbrev pub invariant-loop-way : goal.invariant-loop-way
invariant-loop-way l = HasFirst cmp-value.it l.met l.ways l.way-index
