use Rattle.tree_export.proofs.OneExport.{texts}
use Rattle.tree_export.proofs.laws.texts_pass_no_limit.Goals as goal

pub returns : goal.returns
returns c = texts
