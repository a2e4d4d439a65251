use Rattle.plane_predicate.specs.Space.{meeting_by_cramers_rule}
use Rattle.plane_predicate.proofs.lemmas.Identities.{cramer_on_first, cramer_on_second, cramer_on_third}
use Rattle.plane_polygon.proofs.lemmas.ParallelPlanes.{all_on_at}
use Rattle.plane_polygon.proofs.sides.parallel_to_one.Goals as goal

pub returns-in-Some : goal.returns-in-Some
returns-in-Some c =
    c.in-Some.ensures (meeting_by_cramers_rule c.args.p.now c.args.q.now c.args.r.now) c.requires (cramer_on_first c.args.p.now c.args.q.now c.args.r.now)

pub returns-in-Some-parallel_side : goal.returns-in-Some-parallel_side
returns-in-Some-parallel_side c =
    c.in-Some-parallel_side.ensures (meeting_by_cramers_rule c.args.p.now c.args.q.now c.args.r.now) c.requires (cramer_on_second c.args.p.now c.args.q.now c.args.r.now)

pub returns : goal.returns
returns c =
    all_on_at c.args.r.now c.args.m.now c.parallel_side-3.result (meeting_by_cramers_rule c.args.p.now c.args.q.now c.args.r.now) c.requires (cramer_on_third c.args.p.now c.args.q.now c.args.r.now) c.parallel_side-3.ensures
