use Rattle.std.proofs.Common.{◌≡◌, ◌*◌, ◌^◌, ◌≤◌, drop}
use Rattle.std.specs.Prelude.{IsTrue, unsigned_abs}
use Rattle.scad_value.specs.Values.{vals_from, have_small_numbers}
use Rattle.scad_value.specs.Operators.{dot_of, plus_answer}
use Rattle.scad_value.specs.View.{vals_of, vals_in}
use Rattle.scad_value.proofs.arithmetic.dot.Given as goal

abbrev pub invariant-loop-i : goal.invariant-loop-i
invariant-loop-i l = record {
  told : dot_of (vals_from (vals_of l.left)) (vals_from (vals_of l.right))
      ≡ plus_answer l.sum (dot_of (vals_from (vals_in (drop l.i l.left.items.items))) (vals_from (vals_in
      (drop l.i l.right.items.items))));
  left : IsTrue (have_small_numbers (vals_from (vals_in (drop l.i l.left.items.items))));
  right : IsTrue (have_small_numbers (vals_from (vals_in (drop l.i l.right.items.items))));
  size : unsigned_abs l.sum ≤ l.i * 2 ^ 106;
}
