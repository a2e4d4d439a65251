use Rattle.link_forest.specs.Forests.{least_nodes}
use Rattle.bsp_tree.proofs.walking.+holds_at.Given as goal

abbrev pub decreases-holds_at : goal.decreases-holds_at
decreases-holds_at l = least_nodes l.at
