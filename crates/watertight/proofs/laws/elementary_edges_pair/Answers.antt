use Rattle.watertight.proofs.Halves.{parts_pair}
use Rattle.watertight.proofs.laws.elementary_edges_pair.Goals as goal

pub returns : goal.returns
returns c = parts_pair
