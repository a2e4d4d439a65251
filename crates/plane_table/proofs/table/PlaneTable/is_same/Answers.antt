use Rattle.std.proofs.Common.{◌∙◌, subst}
use Rattle.plane_predicate.specs.Space.{IsPlane}
use Rattle.plane_table.proofs.lemmas.Planes.{same_number}
use Rattle.plane_table.proofs.table.PlaneTable.is_same.Goals as goal

pub returns : goal.returns
returns c =
    same_number c.args.self.now c.args.m c.args.n
    c.keeps_its_planes_apart.ensures
    (subst IsPlane c.plane.ensures c.planes_keep_their_form.ensures)
    c.requires.m c.requires.n
