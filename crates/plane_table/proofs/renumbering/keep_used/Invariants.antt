use Rattle.plane_table.proofs.Joins.{AreKept}
use Rattle.plane_table.proofs.renumbering.keep_used.Given as goal

abbrev pub invariant-loop-i : goal.invariant-loop-i
invariant-loop-i l = AreKept l.planes l.used l.kept.items l.numbers.items l.i
