use Rattle.plane_table.specs.Tables.{AreFirstOriented}
use Rattle.plane_table.proofs.directions.by_number.Given as goal

abbrev pub invariant-loop-i : goal.invariant-loop-i
invariant-loop-i l = AreFirstOriented l.planes l.found.items l.i
