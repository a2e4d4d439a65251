use Rattle.bsp_tree.specs.Cells.{world_box}
use Rattle.closed_surface.proofs.lemmas.Closing.{facets_closed}
use Rattle.closed_surface.proofs.facet_laws.facets_are_closed.Goals as goal

pub returns : goal.returns
returns c = λ t h. facets_closed t h (c.facets_bound_their_solid.ensures world_box t h) (c.facets_are_polygons.ensures.facets world_box t h)
