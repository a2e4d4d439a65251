use Rattle.std.proofs.Common.{◌≡◌, drop}
use Rattle.scad_value.specs.Values.{have_small_numbers, vals_from}
use Rattle.scad_value.specs.View.{vals_of, vals_in}
use Rattle.scad_value.proofs.value.+small.Given as goal

abbrev pub invariant-Values::have_small_numbers-loop-value : goal.invariant-Values::have_small_numbers-loop-value
invariant-Values::have_small_numbers-loop-value l = have_small_numbers (vals_from (vals_of l.self))
    ≡ have_small_numbers (vals_from (vals_in (drop l.value-index l.self.items.items)))
