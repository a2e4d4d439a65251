use Rattle.link_forest.specs.Forests.{least_nodes}
use Rattle.facet_cut.proofs.walls.Walls.+push_between.Given as goal

abbrev pub decreases-push_between : goal.decreases-push_between
decreases-push_between l = least_nodes l.behind
