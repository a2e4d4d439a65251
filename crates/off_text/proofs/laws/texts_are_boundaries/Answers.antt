use Rattle.off_text.proofs.FacesOfFacets.{boundary}
use Rattle.off_text.proofs.laws.texts_are_boundaries.Goals as goal

pub returns : goal.returns
returns c = boundary
