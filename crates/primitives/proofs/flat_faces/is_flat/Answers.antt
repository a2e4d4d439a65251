use Rattle.primitives.proofs.lemmas.ThroughCorners.{flat_by, flat_on}
use Rattle.primitives.proofs.Searches.{on_true, on_false}
use Rattle.primitives.proofs.flat_faces.is_flat.Goals as goal

pub returns-in-Some-clause-all : goal.returns-in-Some-clause-all
returns-in-Some-clause-all c = on_true c.holds_all.result (flat_by c.args.points.now c.args.face.now _ c.in-Some.ensures.some) c.holds_all.ensures.all

pub returns-in-Some-clause-past : goal.returns-in-Some-clause-past
returns-in-Some-clause-past c =
    on_false c.holds_all.result (λ off h. off (flat_on c.args.points.now c.args.face.now _ c.in-Some.ensures.some h)) c.holds_all.ensures.past
