use Rattle.std.proofs.Common.{rules, ◌≡◌, List, IfOk, subst}
use Rattle.std.specs.Bool.{OnFalse}
use Rattle.primitives.specs.declared.ways.DirectedEdge.{DirectedEdge}
use Rattle.primitives.specs.DirectedEdges.{all_edges, AreMetBothWays}
use Rattle.primitives.proofs.closed.are_closed.Goals as goal

pub returns-clause-past : goal.returns-clause-past
returns-clause-past c =
    let e : c.deref.result.now ≡ all_edges c.args.points.now c.args.faces.now = search rules in
    subst (λ (ways : List DirectedEdge). IfOk c.are_met_both_ways.result (λ b. OnFalse b (AreMetBothWays ways → ⊥))) e c.are_met_both_ways.ensures.past
