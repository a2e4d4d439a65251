use Rattle.std.proofs.Common.{ap, ◌∙◌, length, sym}
use Rattle.plane_polygon.specs.Polygons.{Outline}
use Rattle.plane_table.specs.Tables.{plane_named}
use Rattle.plane_table.specs.Faces.{outline_of}
use Rattle.plane_table.proofs.Cuts.{sides_count, outline_in, face_in, polygon_in}
use Rattle.plane_table.proofs.cutting.cut.Goals as goal

pub part_edges-requires-clause-same : goal.part_edges-requires-clause-same
part_edges-requires-clause-same c =
    let crossing = c.args.crossing in
    ap length c.as_slice.ensures
    ∙ sides_count c.args.table.now crossing.face.now (plane_named c.args.table.now crossing.number) crossing.sides.now.corners.items (c.requires.sides.corners c.requires.across)
    ∙ ap length (sym c.items.ensures)

pub returns-clause-outline : goal.returns-clause-outline
returns-clause-outline c =
    let crossing = c.args.crossing in
    outline_in c.args.half c.args.table.now crossing.face.now crossing.number crossing.sides.now.corners.items c.in_ok-edges.edges (c.requires.sides.corners c.requires.across)
    (rw (c.items.ensures, c.as_slice.ensures) at c.in_ok-edges.ensures)

pub returns-clause-face : goal.returns-clause-face
returns-clause-face c =
    let crossing = c.args.crossing in
    let planes = c.args.table.now in
    let s : Outline = outline_of planes crossing.face.now in
    let m = plane_named planes crossing.number in
    let across = sym c.requires.sides.class ∙ c.requires.across in
    face_in c.args.half planes crossing.face.now crossing.number crossing.sides.now.corners.items c.in_ok-edges.edges c.requires.face c.requires.number (c.requires.sides.corners c.requires.across)
    (rw (c.items.ensures, c.as_slice.ensures) at c.in_ok-edges.ensures)
    (polygon_in c.args.half s m (c.parts_are_polygons.ensures.behind s m c.requires.face.polygon across) (c.parts_are_polygons.ensures.ahead s m c.requires.face.polygon across))
