use Rattle.bsp_boolean.proofs.Merged.{merge_is}
use Rattle.bsp_boolean.proofs.laws.merges_are_operations.Goals as goal

pub returns : goal.returns
returns c = merge_is
