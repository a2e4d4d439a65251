use Rattle.scad_builtin.proofs.ArgumentLists.{counted}
use Rattle.scad_builtin.proofs.list.item_count.Goals as goal

pub returns : goal.returns
returns c = counted c.items.result.now _ c.items.ensures
