use Rattle.bsp_boolean.proofs.TreeSolids.{few_joins}
use Rattle.std.proofs.Common.{arith}
use Rattle.bsp_boolean.proofs.tree_solids.tree_solid.Goals as goal

pub grow-requires-clause-counts : goal.grow-requires-clause-counts
grow-requires-clause-counts g c =
    let few = few_joins c.args.store.now c.loop-index.index in
    let counts = c.loop-index.invariant.1 in
    let at_first = c.requires.counts in
    let so_many = c.len-index-end.ensures.is in
    let fits = c.len-index-end.type_inv in
    omega arith
