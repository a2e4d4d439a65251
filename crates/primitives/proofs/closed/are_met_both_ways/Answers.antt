use Rattle.std.proofs.Common.{IsTrue, ◌↔◌, BTreeSet, Option, IfSome, IsNone, All, refl, subst}
use Rattle.std.specs.BTreeSet.{contains}
use Rattle.primitives.specs.contracts.ways.DirectedEdgeOrd.TheImpl.{cmp-value}
use Rattle.primitives.specs.declared.ways.DirectedEdge.{DirectedEdge}
use Rattle.primitives.specs.DirectedEdges.{reversed_edge, AreDifferent, AreMetBothWays, IsMet}
use Rattle.primitives.proofs.Searches.{on_true, on_false}
use Rattle.primitives.proofs.Sets.{all_met_back, are_different, met_both_ways}
use Rattle.primitives.proofs.closed.are_met_both_ways.Goals as goal

pub returns-in-None-clause-past : goal.returns-in-None-clause-past
returns-in-None-clause-past c =
    let same = subst (λ (o : Option (BTreeSet DirectedEdge)). IsNone o → AreDifferent c.args.ways.now → ⊥) c.in-None.is c.in_ok-met.ensures.same in
    λ h. same refl (are_different c.args.ways.now h)

pub returns-in-Some-clause-all : goal.returns-in-Some-clause-all
returns-in-Some-clause-all c =
    let ways = c.args.ways.now in
    let found = subst (λ (o : Option (BTreeSet DirectedEdge)). IfSome o (λ s. (w : DirectedEdge) → IsTrue (contains cmp-value.it s w) ↔ IsMet ways w)) c.in-Some.is c.in_ok-met.ensures.set in
    let different = subst (λ (o : Option (BTreeSet DirectedEdge)). IfSome o (λ s. AreDifferent ways)) c.in-Some.is c.in_ok-met.ensures.different in
    on_true _ (met_both_ways cmp-value.it c.in-Some.met ways found different) c.are_met_back.ensures.all

pub returns-in-Some-clause-past : goal.returns-in-Some-clause-past
returns-in-Some-clause-past c =
    let ways = c.args.ways.now in
    let found = subst (λ (o : Option (BTreeSet DirectedEdge)). IfSome o (λ s. (w : DirectedEdge) → IsTrue (contains cmp-value.it s w) ↔ IsMet ways w)) c.in-Some.is c.in_ok-met.ensures.set in
    let MetBack : Type 0 = All (λ (w : DirectedEdge). IsTrue (contains cmp-value.it c.in-Some.met (reversed_edge w))) ways in
    on_false {P = MetBack → ⊥} {Q = AreMetBothWays ways → ⊥} _ (λ no h. no (all_met_back cmp-value.it c.in-Some.met ways found h)) c.are_met_back.ensures.past
