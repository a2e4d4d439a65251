use Rattle.std.proofs.Common.{arith}
use Rattle.bsp_tree.proofs.moved_nodes.MovedNodes.node.Goals as goal

pub renumber-requires-clause-plane : goal.renumber-requires-clause-plane
renumber-requires-clause-plane c =
    let f = c.self.invariant.faces.each _ _ c.at-behind.ensures.node in omega (arith, f.plane, c.self.invariant.found.count)

pub renumber-requires-clause-edges : goal.renumber-requires-clause-edges
renumber-requires-clause-edges c = λ k d below.
    let f = c.self.invariant.faces.each _ _ c.at-behind.ensures.node in omega (arith, f.edges k d below, c.self.invariant.found.count)

pub returns : goal.returns
returns c =
    let f = c.self.invariant.faces.each _ _ c.at-behind.ensures.node in
    let found = c.self.invariant.found.each _ _ c.at-behind.ensures.node in
    rw (← c.self.view_is)
    (record { own = c.at-behind.result.0.now; node = c.at-behind.ensures; outline = c.in_ok-renumber.ensures.outline _ _ found; over = c.in_ok-renumber.ensures.face _ _ found f })
