use Rattle.bsp_tree.specs.Shapes.{tree_of}
use Rattle.facet_cut.proofs.WholeLists.{list_polygons, list_bound}
use Rattle.facet_cut.proofs.cutting.facets.Goals as goal

pub returns-clause-polygons : goal.returns-clause-polygons
returns-clause-polygons c = list_polygons (tree_of c.args.solid.now) c.facet_list.result c.facet_list.ensures.list

pub returns-clause-bound : goal.returns-clause-bound
returns-clause-bound c = list_bound (tree_of c.args.solid.now) c.facet_list.result c.facet_list.ensures.list
