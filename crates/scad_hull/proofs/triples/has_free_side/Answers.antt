use Rattle.scad_hull.proofs.lemmas.Loops.{all_below, side_is}
use Rattle.scad_hull.proofs.triples.has_free_side.Goals as goal

pub face_has_ahead-requires-clause-there : goal.face_has_ahead-requires-clause-there
face_has_ahead-requires-clause-there c = all_below c.args.points.now c.args.all.now c.requires

pub returns : goal.returns
returns c = side_is c.args.points.now c.args.all.now c.args.plane.now c.requires c.face_has_ahead.result c.face_has_ahead.ensures.some c.face_has_ahead.ensures.none
