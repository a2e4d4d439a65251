use Rattle.std.proofs.Common.{◌≡◌}
use Rattle.parallel_eval.specs.Runs.{AreOfCaller, with_lanes}
use Rattle.parallel_eval.proofs.store_solids.take_back.Given as goal

abbrev pub invariant-loop-lane : goal.invariant-loop-lane
invariant-loop-lane g l =
    (with_lanes l.share.share l.lanes.items ≡ with_lanes l.fn.share.share l.fn.lanes.items)
    × AreOfCaller l.share.share.caller l.lanes.items

abbrev pub decreases-loop-lane : goal.decreases-loop-lane
decreases-loop-lane g l = goal.left-loop-lane g l
