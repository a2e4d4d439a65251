use Rattle.std.proofs.Common.{◌∙◌, ap}
use Rattle.std.proofs.lemmas.List.{get_or_read}
use Rattle.plane_predicate.specs.Space.{opposite_of}
use Rattle.plane_polygon.specs.Polygons.{missing_plane}
use Rattle.plane_table.proofs.Oriented.{oriented_more}
use Rattle.plane_table.proofs.directions.by_number.Goals as goal

pub loop-i-preserved : goal.loop-i-preserved
loop-i-preserved c =
    let planes = c.args.planes.now in
    let i = c.loop-i.i in
    let one = get_or_read planes i c.index-planes-i.result c.loop-i-test.true c.index-planes-i.is missing_plane in
    let two = get_or_read planes i c.index-planes-i-in-loop-i.result c.loop-i-test.true c.index-planes-i-in-loop-i.is missing_plane in
    rw (c.in_ok-push-2.ensures.items, c.in_ok-push.ensures.items)
    (oriented_more planes c.loop-i.found.items i _ _ c.loop-i.invariant one c.direction_of-direction.ensures (c.opposite.ensures.numbers ∙ ap opposite_of two) c.opposite_number.ensures)
