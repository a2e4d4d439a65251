use Rattle.watertight.proofs.lemmas.Boxed.{closed_everywhere}
use Rattle.watertight.proofs.laws.closed_at_every_point.Goals as goal

pub returns : goal.returns
returns c = closed_everywhere
