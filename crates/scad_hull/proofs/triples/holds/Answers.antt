use Rattle.plane_predicate.specs.Space.{point_at, value}
use Rattle.scad_hull.proofs.lemmas.Loops.{on_is}
use Rattle.scad_hull.proofs.triples.holds.Goals as goal

pub returns : goal.returns
returns c = on_is (value c.args.plane.now (point_at c.args.at)) c.goes_through.result c.goes_through.ensures.on c.goes_through.ensures.off
