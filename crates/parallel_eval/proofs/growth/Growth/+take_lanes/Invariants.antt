use Rattle.std.proofs.Common.{length}
use Rattle.parallel_eval.proofs.growth.Growth.+take_lanes.Given as goal

abbrev pub decreases-take_lanes : goal.decreases-take_lanes
decreases-take_lanes g l = length l.lanes.now
