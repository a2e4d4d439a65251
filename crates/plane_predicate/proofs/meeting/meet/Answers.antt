use Rattle.std.proofs.Common.{◌≡◌, pos, subst, sym}
use Rattle.plane_predicate.specs.Space.{Coordinates, value}
use Rattle.plane_predicate.proofs.Meetings.{meeting_on}
use Rattle.plane_predicate.proofs.meeting.meet.Goals as goal

pub returns-else-at-eq0-clause-on : goal.returns-else-at-eq0-clause-on
returns-else-at-eq0-clause-on c =
    let p = c.args.p.now in let q = c.args.q.now in let r = c.args.r.now in
    let e = rw c.cramer_of-at.ensures at c.point_of.ensures in
    subst (λ (v : Coordinates). (value p v ≡ pos 0) × (value q v ≡ pos 0) × (value r v ≡ pos 0)) (sym e) (meeting_on p q r)
