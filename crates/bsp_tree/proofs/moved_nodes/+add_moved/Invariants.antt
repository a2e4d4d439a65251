use Rattle.link_forest.specs.Forests.{least_nodes}
use Rattle.bsp_tree.proofs.moved_nodes.+add_moved.Given as goal

abbrev pub decreases-add_moved : goal.decreases-add_moved
decreases-add_moved l = least_nodes l.at
