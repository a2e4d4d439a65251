use Rattle.off_text.proofs.Least.{IsLeastOf}
use Rattle.off_text.proofs.vertex.least_corner.Given as goal

abbrev pub invariant-loop-i : goal.invariant-loop-i
invariant-loop-i l = IsLeastOf l.corners l.i l.least
