use Rattle.std.proofs.Common.{◌≡◌, take}
use Rattle.scad_meaning.specs.Loops.{items_numbered}
use Rattle.scad_instance_rules.proofs.chosen.by_numbers.Given as goal

abbrev pub invariant-loop-number : goal.invariant-loop-number
invariant-loop-number g l = l.found.items ≡ items_numbered l.children (take l.number-index l.numbers)
