use Rattle.plane_polygon.specs.Polygons.{Outline, corner}
use Rattle.plane_polygon.proofs.lemmas.CornerSides.{reduced_step}
use Rattle.plane_polygon.proofs.listing.corners_of.Goals as goal

pub loop-i-preserved : goal.loop-i-preserved
loop-i-preserved c =
    let s : Outline = record { plane = c.args.plane.now; edges = c.args.edges.now } in
    rw c.in_ok-push.ensures.items (reduced_step (corner s) c.loop-i.i c.loop-i.found.items c.corner_point.result c.loop-i.invariant c.corner_point.ensures.times c.corner_point.ensures.reduced)
