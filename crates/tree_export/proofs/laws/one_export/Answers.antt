use Rattle.tree_export.proofs.OneExport as law
use Rattle.tree_export.proofs.laws.one_export.Goals as goal

pub returns : goal.returns
returns c = law.one_export
