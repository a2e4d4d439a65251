use Rattle.std.proofs.Common.{arith, ap, length}
use Rattle.std.proofs.lemmas.List.{length_push}
use Rattle.bsp_tree.proofs.PassedRanges.{firsts_more}
use Rattle.bsp_tree.proofs.ranges.firsts_of.Goals as goal

pub loop-index-preserved : goal.loop-index-preserved
loop-index-preserved c =
    let known = c.loop-index.invariant.known in
    let found = c.in-Some.ensures c.args.forest.now.nodes c.at-behind.result.0.now (rw c.deref.ensures.value known) c.at-behind.ensures in
    record {
      count = omega (arith, ap length c.push_reserved.ensures.items, length_push c.loop-index.firsts.items c.in-Some.first, c.loop-index.invariant.count);
      room = omega (arith, c.push_reserved.ensures.capacity, c.loop-index.invariant.room);
      known = rw c.push_reserved.ensures.items (firsts_more _ _ _ known (rw c.loop-index.invariant.count found));
    }
