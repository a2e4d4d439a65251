use Rattle.facet_cut.proofs.lemmas.FacetPolygons.{all_facets, world_corners}
use Rattle.facet_cut.proofs.laws.facets_are_polygons.Goals as goal

pub returns-clause-facets : goal.returns-clause-facets
returns-clause-facets c = λ cell t h. all_facets t cell h

pub returns-clause-corners : goal.returns-clause-corners
returns-clause-corners c = λ t h. world_corners t h
