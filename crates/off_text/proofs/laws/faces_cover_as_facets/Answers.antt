use Rattle.off_text.proofs.Covered.{as_facets}
use Rattle.off_text.proofs.laws.faces_cover_as_facets.Goals as goal

pub returns : goal.returns
returns c = λ unit vertices polygons faces drawn planes n plane p b w. as_facets unit vertices n plane p polygons faces planes drawn b w
