use Rattle.std.proofs.Common.{◌≡◌}
use Rattle.scad_value.specs.Values.{vals_from}
use Rattle.scad_value.specs.View.{vals_in}
use Rattle.scad_builtin.specs.Builtins.{joined_items}
use Rattle.scad_builtin.proofs.list.joined.Given as goal

abbrev pub invariant-loop-value : goal.invariant-loop-value
invariant-loop-value l = vals_in l.items.items ≡ joined_items (vals_from (vals_in l.yielded))
