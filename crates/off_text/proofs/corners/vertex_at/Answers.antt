use Rattle.std.proofs.Common.{subst}
use Rattle.plane_predicate.specs.Space.{Coordinates, IsPointTimes}
use Rattle.off_text.proofs.Printed.{times_again}
use Rattle.off_text.proofs.corners.vertex_at.Goals as goal

pub returns-clause-times : goal.returns-clause-times
returns-clause-times c =
    times_again c.args.unit _ c.lowest_terms.result c.of.result
    (subst (λ (p : Coordinates). IsPointTimes p c.lowest_terms.result) c.meeting_of.ensures c.lowest_terms.ensures.same)
    c.of.ensures.times

pub returns-clause-reduced : goal.returns-clause-reduced
returns-clause-reduced c = c.of.ensures.reduced c.lowest_terms.ensures.reduced
