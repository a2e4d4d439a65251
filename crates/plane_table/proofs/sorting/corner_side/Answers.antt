use Rattle.std.proofs.Common.{refl, ◌∙◌, subst, Option, IfSome}
use Rattle.plane_predicate.specs.declared.sides.Side.{Side}
use Rattle.plane_polygon.specs.Polygons.{corner}
use Rattle.plane_table.specs.Tables.{plane_named}
use Rattle.plane_table.specs.Faces.{outline_of, IsSideAt}
use Rattle.plane_table.proofs.lemmas.Corners.{side_pair}
use Rattle.plane_table.proofs.sorting.corner_side.Goals as goal
use Rattle.plane_table.proofs.sorting.corner_side.Goals.{in-Some, in-None}

pub returns : goal.returns
returns c =
    let table = c.args.table.now in
    let face = c.args.face.now in
    let m = plane_named table c.args.number in
    let found : IsSideAt table face m c.args.i c.match-known.side = elim c.match-known.branch [
      | in-Some w ↦ w.side-is ∙ subst (λ (known : Option Side). IfSome known (IsSideAt table face m c.args.i)) w.in-Some.is c.requires.known
      | in-None w ↦ w.side-is ∙ w.meeting_side-side.ensures
    ] in
    c.corner_on.ensures ∙ side_pair m (corner (outline_of table face) c.args.i) c.match-known.side _ _ found refl refl
