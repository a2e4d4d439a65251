use Rattle.std.proofs.Common.{arith}
use Rattle.bsp_tree.proofs.lemmas.Wholes.{one_more}
use Rattle.bsp_tree.proofs.solid.forest_copy.Goals as goal

pub loop-index-preserved : goal.loop-index-preserved
loop-index-preserved c = record {
  nodes = rw (c.add_reserved.ensures.adds.nodes, c.loop-index.invariant.nodes, c.in_ok-copy.ensures) (one_more _ _ _ c.at-behind.ensures.node);
  spare = omega (arith, c.add_reserved.ensures.spare, c.loop-index.invariant.spare);
}
