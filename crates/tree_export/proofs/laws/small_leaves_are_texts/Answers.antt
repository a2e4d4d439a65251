use Rattle.tree_export.proofs.SmallLeaves.{small_leaf}
use Rattle.tree_export.proofs.laws.small_leaves_are_texts.Goals as goal

pub returns : goal.returns
returns c = small_leaf
