use Rattle.scad_hull.proofs.lemmas.Loops.{by_third}
use Rattle.scad_hull.proofs.triples.is_on_plane.Goals as goal

pub returns : goal.returns
returns c =
    by_third c.args.points.now c.args.of c.args.triple c.through-plane.result c.holds.result c.holds-2.result c.holds-3.result c.through-plane.ensures c.requires.three.three
    c.holds.ensures c.if-not-holds.false c.holds-2.ensures c.if-not-holds-2.false c.holds-3.ensures
