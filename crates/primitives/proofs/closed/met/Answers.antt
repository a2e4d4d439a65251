use Rattle.std.proofs.Common.{get_or, refl}
use Rattle.primitives.specs.contracts.ways.DirectedEdgeOrd.TheImpl.{cmp-value}
use Rattle.primitives.specs.DirectedEdges.{missing_edge}
use Rattle.primitives.proofs.Sets.{has_next, met_again, was_false, was_true, ways_apart}
use Rattle.primitives.proofs.closed.met.Goals as goal

pub loop-way-preserved : goal.loop-way-preserved
loop-way-preserved c =
    let i = c.loop-way.way-index in
    has_next cmp-value.it c.loop-way.met c.insert.new.self c.args.ways.now i (get_or c.args.ways.now i missing_edge) ways_apart refl c.loop-way.invariant
    (was_false _ c.in_ok-insert.field-0 c.in_ok-insert.ensures.added c.if-not-branch.false) c.in_ok-insert.ensures.updates.0

pub returns-then-not-branch-clause-same : goal.returns-then-not-branch-clause-same
returns-then-not-branch-clause-same c =
    λ _. met_again cmp-value.it c.loop-way.met c.args.ways.now c.loop-way.way-index c.loop-way-test.true c.loop-way.invariant
    (was_true _ c.in_ok-insert.field-0 c.in_ok-insert.ensures.added c.if-not-branch.true)
