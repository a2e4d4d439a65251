use Rattle.ray_crossings.proofs.Telling.{told}
use Rattle.ray_crossings.proofs.Moving.{told_clear}
use Rattle.ray_crossings.proofs.laws.crossings_tell_inside.Goals as goal

pub returns-clause-planes : goal.returns-clause-planes
returns-clause-planes c = λ unit bytes f proper text. told unit bytes f proper.leaves text

pub returns-clause-edges : goal.returns-clause-edges
returns-clause-edges c = λ unit bytes f proper text a b oa ob clear. told_clear unit bytes f proper.leaves text a b oa ob clear
