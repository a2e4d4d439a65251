use Rattle.scad_design.proofs.joining.+join_next.Given as goal

abbrev pub decreases-join_next : goal.decreases-join_next
decreases-join_next l = l.count
