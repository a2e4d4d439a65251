use Rattle.csg_tree.proofs.KeptReach.{joins_keep}
use Rattle.csg_tree.proofs.laws.joins_keep_within_reach.Goals as goal

pub returns : goal.returns
returns c = joins_keep
