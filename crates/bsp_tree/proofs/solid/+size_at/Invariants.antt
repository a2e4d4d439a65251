use Rattle.link_forest.specs.Forests.{least_nodes}
use Rattle.bsp_tree.proofs.solid.+size_at.Given as goal

abbrev pub decreases-size_at : goal.decreases-size_at
decreases-size_at l = least_nodes l.at
