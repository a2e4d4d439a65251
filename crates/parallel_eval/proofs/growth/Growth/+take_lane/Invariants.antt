use Rattle.std.proofs.Common.{length}
use Rattle.parallel_eval.proofs.growth.Growth.+take_lane.Given as goal

abbrev pub decreases-take_lane : goal.decreases-take_lane
decreases-take_lane l = length l.outcomes.now
