use Rattle.link_forest.specs.Forests.{least_nodes}
use Rattle.bsp_tree.proofs.copying.+add_branch.Given as goal

abbrev pub decreases-add_branch : goal.decreases-add_branch
decreases-add_branch l = least_nodes l.at
