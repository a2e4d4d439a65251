use Rattle.std.proofs.Common.{◌≡◌, drop}
use Rattle.scad_value.specs.Values.{vals_from}
use Rattle.scad_value.specs.Operators.{pairs_by_elements, values_in_front}
use Rattle.scad_value.specs.Rows.{pair_row}
use Rattle.scad_value.specs.View.{vals_of, vals_in}
use Rattle.scad_value.proofs.arithmetic.+pairs.Given as goal

abbrev pub invariant-each_pair-loop-i : goal.invariant-each_pair-loop-i
invariant-each_pair-loop-i l =
    pairs_by_elements (pair_row l.row) (vals_from (vals_of l.left)) (vals_from (vals_of l.right))
    ≡ values_in_front (vals_in l.items.items) (pairs_by_elements (pair_row l.row) (vals_from (vals_in
    (drop l.i l.left.items.items))) (vals_from (vals_in (drop l.i l.right.items.items))))
