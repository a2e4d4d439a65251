use Rattle.link_forest.specs.Forests.{least_nodes}
use Rattle.facet_cut.proofs.walls.Walls.+push_facets.Given as goal

abbrev pub decreases-push_facets : goal.decreases-push_facets
decreases-push_facets l = least_nodes l.at
