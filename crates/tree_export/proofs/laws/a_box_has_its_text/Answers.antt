use Rattle.tree_export.proofs.WorkedBox.{box_is_exported}
use Rattle.tree_export.proofs.laws.a_box_has_its_text.Goals as goal

pub returns : goal.returns
returns c = box_is_exported
