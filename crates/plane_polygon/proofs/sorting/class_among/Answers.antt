use Rattle.std.proofs.Common.{ap, ◌∙◌}
use Rattle.plane_predicate.specs.Space.{value}
use Rattle.plane_polygon.specs.Polygons.{Outline, corner}
use Rattle.plane_predicate.specs.Sides.{is_side_behind, is_side_ahead}
use Rattle.plane_polygon.specs.Parts.{is_behind, is_ahead}
use Rattle.plane_polygon.proofs.lemmas.CornerSides.{some_step, side_behind, side_ahead}
use Rattle.plane_polygon.proofs.sorting.class_among.Goals as goal

pub loop-i-preserved : goal.loop-i-preserved
loop-i-preserved c =
    let s : Outline = record { plane = c.args.plane.now; edges = c.args.edges.now } in
    let m = c.args.m.now in
    let i = c.loop-i.i in
    record {
      behind = c.either-some_behind.ensures ∙ some_step (is_behind m) (corner s) i c.loop-i.some_behind c.is_behind.result c.loop-i.invariant.behind (c.is_behind.ensures ∙ ap is_side_behind c.corner_side-side.ensures ∙ side_behind (value m (corner s i)));
      ahead = c.either-some_ahead.ensures ∙ some_step (is_ahead m) (corner s) i c.loop-i.some_ahead c.is_ahead.result c.loop-i.invariant.ahead (c.is_ahead.ensures ∙ ap is_side_ahead c.corner_side-side.ensures ∙ side_ahead (value m (corner s i)));
    }
