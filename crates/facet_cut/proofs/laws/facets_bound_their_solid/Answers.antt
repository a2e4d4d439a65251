use Rattle.facet_cut.proofs.lemmas.Boundaries.{facets_bound}
use Rattle.facet_cut.proofs.laws.facets_bound_their_solid.Goals as goal

pub returns : goal.returns
returns c = λ cell t h. facets_bound cell t h
