use Rattle.std.proofs.Common.{ap, ◌∙◌, subst, eqb}
use Rattle.plane_predicate.specs.Space.{IsPlane}
use Rattle.plane_table.proofs.lemmas.Planes.{other_number}
use Rattle.plane_table.proofs.table.PlaneTable.is_opposite.Goals as goal

pub returns : goal.returns
returns c =
    ap (eqb c.args.m) c.opposite_number.ensures
    ∙ other_number c.args.self.now c.args.m c.args.n
    c.keeps_its_planes_apart.ensures
    (subst IsPlane c.plane.ensures c.planes_keep_their_form.ensures)
    c.requires.m c.requires.n
