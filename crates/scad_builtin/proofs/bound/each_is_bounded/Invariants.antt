use Rattle.std.proofs.Common.{◌≡◌, drop}
use Rattle.scad_value.specs.View.{vals_in}
use Rattle.scad_builtin.specs.Builtins.{are_bounded}
use Rattle.scad_builtin.proofs.bound.each_is_bounded.Given as goal

abbrev pub invariant-loop-value : goal.invariant-loop-value
invariant-loop-value l = are_bounded (vals_in l.values) ≡ are_bounded (vals_in (drop l.value-index l.values))
