use Rattle.std.proofs.Common.{◌∙◌}
use Rattle.plane_polygon.proofs.lemmas.ParallelPlanes.{same_direction, same_points}
use Rattle.plane_polygon.proofs.parallels.side_alike.Goals as goal

pub returns-clause-own : goal.returns-clause-own
returns-clause-own c v h e =
    c.side_past.ensures ∙ same_direction c.args.p.now c.args.m.now c.requires.a c.requires.b c.requires.c v h e

pub returns-clause-opposite : goal.returns-clause-opposite
returns-clause-opposite c v h e =
    c.side_past.ensures ∙ same_direction c.args.p.now c.args.m.now c.requires.a c.requires.b c.requires.c v h (same_points c.args.p.now v e)
