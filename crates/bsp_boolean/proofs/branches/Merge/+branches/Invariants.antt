use Rattle.std.proofs.Common.{◌+◌, ◌*◌}
use Rattle.link_forest.specs.Forests.{least_nodes}
use Rattle.bsp_boolean.proofs.branches.Merge.+branches.Given as goal

abbrev pub decreases-branch : goal.decreases-branch
decreases-branch l = 2 * least_nodes l.left

abbrev pub decreases-node : goal.decreases-node
decreases-node l = 2 * l.left.index + 1
