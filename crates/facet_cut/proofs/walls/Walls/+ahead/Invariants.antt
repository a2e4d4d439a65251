use Rattle.std.proofs.Common.{◌+◌, ◌*◌}
use Rattle.link_forest.specs.Forests.{least_nodes}
use Rattle.facet_cut.proofs.walls.Walls.+ahead.Given as goal

abbrev pub decreases-push_ahead : goal.decreases-push_ahead
decreases-push_ahead l = 2 * least_nodes l.ahead

abbrev pub decreases-push_half : goal.decreases-push_half
decreases-push_half l = 2 * least_nodes l.ahead + 1
