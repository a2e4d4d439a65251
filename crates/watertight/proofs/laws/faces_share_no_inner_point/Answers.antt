use Rattle.watertight.proofs.lemmas.Overlaps.{no_overlaps}
use Rattle.watertight.proofs.laws.faces_share_no_inner_point.Goals as goal

pub returns : goal.returns
returns c = λ unit bytes f proper text. no_overlaps unit bytes f proper.leaves text
