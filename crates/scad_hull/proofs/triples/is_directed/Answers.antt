use Rattle.scad_hull.proofs.lemmas.Loops.{direction_is}
use Rattle.scad_hull.proofs.triples.is_directed.Goals as goal

pub returns : goal.returns
returns c = direction_is c.args.plane.now c.has_direction.result c.has_direction.ensures.some c.has_direction.ensures.none
