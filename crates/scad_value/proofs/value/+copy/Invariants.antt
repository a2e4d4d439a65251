use Rattle.std.proofs.Common.{◌≡◌, ◌++◌, drop}
use Rattle.scad_value.specs.View.{vals_of, vals_in}
use Rattle.scad_value.proofs.value.+copy.Given as goal

abbrev pub invariant-Values::copy-loop-value : goal.invariant-Values::copy-loop-value
invariant-Values::copy-loop-value l =
    vals_in l.items.items ++ vals_in (drop l.value-index l.self.items.items) ≡ vals_of l.self
