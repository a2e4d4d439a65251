use Rattle.std.proofs.Common.{IsTrue, All, take}
use Rattle.std.specs.BTreeSet.{contains}
use Rattle.primitives.specs.contracts.ways.DirectedEdgeOrd.TheImpl.{cmp-value}
use Rattle.primitives.specs.declared.ways.DirectedEdge.{DirectedEdge}
use Rattle.primitives.specs.DirectedEdges.{reversed_edge}
use Rattle.primitives.proofs.closed.are_met_back.Given as goal

abbrev pub invariant-loop-way : goal.invariant-loop-way
invariant-loop-way l = All (λ (w : DirectedEdge). IsTrue (contains cmp-value.it l.met (reversed_edge w))) (take l.way-index l.ways)
