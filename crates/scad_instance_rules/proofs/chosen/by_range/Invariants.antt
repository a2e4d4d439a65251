use Rattle.std.proofs.Common.{◌≡◌}
use Rattle.scad_meaning.specs.Loops.{numbers_by, items_numbered}
use Rattle.scad_instance_rules.proofs.chosen.by_range.Given as goal

abbrev pub invariant-loop-k : goal.invariant-loop-k
invariant-loop-k g l = l.found.items ≡ items_numbered l.children (numbers_by l.k l.from l.by)
