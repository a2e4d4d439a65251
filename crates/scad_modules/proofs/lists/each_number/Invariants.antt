use Rattle.std.proofs.Common.{◌≡◌, drop}
use Rattle.scad_value.specs.Values.{vals_from}
use Rattle.scad_value.specs.View.{vals_in}
use Rattle.scad_modules.specs.Reading.{number_in_value, each_in}
use Rattle.scad_modules.proofs.Fronts.{in_front}
use Rattle.scad_modules.proofs.lists.each_number.Given as goal

abbrev pub invariant-loop-value : goal.invariant-loop-value
invariant-loop-value l =
    in_front l.numbers.items (each_in number_in_value (vals_from (vals_in (drop l.value-index l.values))))
    ≡ each_in number_in_value (vals_from (vals_in l.values))
