use Rattle.std.proofs.Common.{map, length, ap, ◌∙◌, arith, sym, subst}
use Rattle.std.proofs.lemmas.List.{take_all}
use Rattle.plane_polygon.specs.Polygons.{IsPolygon}
use Rattle.plane_table.specs.Tables.{plane_named}
use Rattle.plane_table.proofs.Cuts.{same_outline}
use Rattle.plane_table.proofs.faces.polygon_of.Goals as goal

pub of_edges-requires : goal.of_edges-requires
of_edges-requires c =
    let planes = c.args.table.now in
    let face = c.args.face.now in
    let n = ap length c.items-number-items.ensures in
    let e = c.loop-number.invariant ∙ ap (map (plane_named planes)) (take_all c.loop-number.number-index face.edges (omega arith)) in
    subst IsPolygon (sym (same_outline c.plane-2.result.now (plane_named planes face.plane) c.loop-number.edges.items (map (plane_named planes) face.edges) c.plane-2.ensures e)) c.requires.polygon
