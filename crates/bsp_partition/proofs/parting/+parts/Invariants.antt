use Rattle.std.proofs.Common.{◌+◌, ◌*◌, max}
use Rattle.link_forest.specs.Forests.{least_nodes}
use Rattle.bsp_partition.proofs.parting.+parts.Given as goal

abbrev pub decreases-add_parts : goal.decreases-add_parts
decreases-add_parts l = 5 * least_nodes l.at

abbrev pub decreases-node_parts : goal.decreases-node_parts
decreases-node_parts l = 5 * l.id.index + 4

abbrev pub decreases-other_parts : goal.decreases-other_parts
decreases-other_parts l = 5 * max (least_nodes l.node.behind) (least_nodes l.node.ahead) + 3

abbrev pub decreases-side_parts : goal.decreases-side_parts
decreases-side_parts l = 5 * max (least_nodes l.node.now.behind) (least_nodes l.node.now.ahead) + 2

abbrev pub decreases-half_parts : goal.decreases-half_parts
decreases-half_parts l = 5 * least_nodes l.at + 1

abbrev pub decreases-behind_parts : goal.decreases-behind_parts
decreases-behind_parts l = 5 * least_nodes l.node.behind + 1

abbrev pub decreases-ahead_parts : goal.decreases-ahead_parts
decreases-ahead_parts l = 5 * least_nodes l.node.ahead + 1
