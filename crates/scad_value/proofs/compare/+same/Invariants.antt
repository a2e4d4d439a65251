use Rattle.std.proofs.Common.{◌≡◌, drop}
use Rattle.scad_value.specs.Values.{all_same, vals_from}
use Rattle.scad_value.specs.View.{vals_of, vals_in}
use Rattle.scad_value.proofs.compare.+same.Given as goal

abbrev pub invariant-all_same-loop-i : goal.invariant-all_same-loop-i
invariant-all_same-loop-i l = all_same (vals_from (vals_of l.left)) (vals_from (vals_of l.right))
    ≡ all_same (vals_from (vals_in (drop l.i l.left.items.items))) (vals_from (vals_in
    (drop l.i l.right.items.items)))
