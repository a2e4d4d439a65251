use Rattle.std.proofs.Common.{◌≡◌, drop}
use Rattle.scad_value.specs.Values.{vals_from}
use Rattle.scad_value.specs.Operators.{each_of_elements, values_in_front}
use Rattle.scad_value.specs.Rows.{part_row}
use Rattle.scad_value.specs.View.{vals_of, vals_in}
use Rattle.scad_value.proofs.arithmetic.+parts.Given as goal

abbrev pub invariant-each_of-loop-value : goal.invariant-each_of-loop-value
invariant-each_of-loop-value l = each_of_elements (part_row l.row) (vals_from (vals_of l.of))
    ≡ values_in_front (vals_in l.items.items) (each_of_elements (part_row l.row) (vals_from (vals_in
    (drop l.value-index l.of.items.items))))
