use Rattle.std.proofs.Common.{◌<◌, length, ap, arith}
use Rattle.parallel_eval.proofs.Steps.{lanes_first, lanes_end}
use Rattle.parallel_eval.proofs.growth.Growth.+take_lanes.Goals as goal

pub take_lane-requires-clause-within : goal.take_lane-requires-clause-within
take_lane-requires-clause-within g t c =
    let trees = c.args.self.now.store.now in
    let some : 0 < length c.args.lanes.now = omega (arith, c.in-len1-up.len_at_least) in
    let first = lanes_first trees c.args.before c.args.last c.args.lanes.now c.lane-item.result some c.lane-item.is c.requires.lanes in
    let behind = lanes_end trees c.lane-item.result.last c.args.last _ first.2 in
    let within = c.requires.within in
    let here = first.0 in
    let order = c.lane-item.result.order in
    let same = c.deref.ensures.value in
    (omega (arith, here, order, ap length same), omega (arith, behind, within))
