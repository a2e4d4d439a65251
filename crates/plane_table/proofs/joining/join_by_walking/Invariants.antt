use Rattle.std.proofs.Common.{◌+◌, ◌-◌, length}
use Rattle.plane_table.specs.Joins.{AreFirstNumbersOf}
use Rattle.plane_table.proofs.joining.join_by_walking.Given as goal

abbrev pub invariant-loop-of_right : goal.invariant-loop-of_right
invariant-loop-of_right l = record {
  left : AreFirstNumbersOf l.planes.items l.of_left.items l.left;
  right : AreFirstNumbersOf l.planes.items l.of_right.items l.right;
}

abbrev pub decreases-loop-of_right : goal.decreases-loop-of_right
decreases-loop-of_right l = (length l.left - length l.of_left.items) + (length l.right - length l.of_right.items)
