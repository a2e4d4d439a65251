use Rattle.csg_tree.proofs.Halves.{by_halves, any_holds}
use Rattle.csg_tree.proofs.laws.balanced_by_halves.Goals as goal

pub returns : goal.returns
returns c = record { halves = by_halves; union = any_holds }
