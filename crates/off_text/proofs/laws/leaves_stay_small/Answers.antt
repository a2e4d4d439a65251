use Rattle.off_text.proofs.lemmas.Bounds.Sizes as bound
use Rattle.off_text.proofs.laws.leaves_stay_small.Goals as goal

pub returns-clause-size : goal.returns-clause-size
returns-clause-size c = bound.leaf_size

pub returns-clause-facets : goal.returns-clause-facets
returns-clause-facets c = bound.leaf_facets

pub returns-clause-corners : goal.returns-clause-corners
returns-clause-corners c = bound.leaf_corners
