use Rattle.std.proofs.Common.{IsTrue, arith, sym, subst, ◌∙◌, true≢false}
use Rattle.std.specs.BTreeSet.{contains}
use Rattle.primitives.specs.contracts.ways.DirectedEdgeOrd.TheImpl.{cmp-value}
use Rattle.primitives.specs.declared.ways.DirectedEdge.{DirectedEdge}
use Rattle.primitives.specs.DirectedEdges.{missing_edge, reversed_edge}
use Rattle.primitives.proofs.lemmas.Lists.{all_done, all_next}
use Rattle.primitives.proofs.closed.are_met_back.Goals as goal

pub loop-way-preserved : goal.loop-way-preserved
loop-way-preserved c =
    all_next (λ (w : DirectedEdge). IsTrue (contains cmp-value.it c.args.met.now (reversed_edge w))) c.args.ways.now c.loop-way.way-index missing_edge (omega arith) c.loop-way.invariant
    (subst (λ (v : DirectedEdge). IsTrue (contains cmp-value.it c.args.met.now v)) c.back.ensures (sym c.if-not-contains.ensures))

pub returns-clause-all : goal.returns-clause-all
returns-clause-all c =
    all_done (λ (w : DirectedEdge). IsTrue (contains cmp-value.it c.args.met.now (reversed_edge w))) c.args.ways.now c.loop-way.way-index (omega arith) c.loop-way.invariant

pub returns-then-not-contains-clause-past : goal.returns-then-not-contains-clause-past
returns-then-not-contains-clause-past c =
    λ h. true≢false (sym (subst (λ (v : DirectedEdge). IsTrue (contains cmp-value.it c.args.met.now v)) (sym c.back.ensures) (h c.loop-way.way-index missing_edge c.loop-way-test.true)) ∙ sym c.if-not-contains.ensures)
