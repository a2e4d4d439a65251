use Rattle.std.proofs.Common.{◌≡◌, length}
use Rattle.scad_definitions.proofs.list.NameList.truncate.Given as goal

abbrev pub invariant-back : goal.invariant-back
invariant-back g l = l.self.items.items ≡ l.initial.self.items.items

abbrev pub decreases-back : goal.decreases-back
decreases-back g l = length l.self.hidden.items
