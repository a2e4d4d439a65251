use Rattle.tree_export.proofs.OneExport.{nothing_only}
use Rattle.tree_export.proofs.laws.nothing_has_the_empty_text.Goals as goal

pub returns : goal.returns
returns c = nothing_only
