use Rattle.std.proofs.Common.{List, All, sym, subst, subst₂, ◌∙◌}
use Rattle.plane_predicate.specs.Space.{Coefficients}
use Rattle.plane_table.specs.declared.faces.Face.{Face}
use Rattle.plane_table.specs.Tables.{HasNoTwoAlike}
use Rattle.plane_table.specs.Faces.{IsFaceOver}
use Rattle.bsp_boolean.proofs.Convex.{built_is_solid}
use Rattle.bsp_boolean.proofs.BoxLeaves.{box_built, box_known, box_planes}
use Rattle.bsp_boolean.proofs.boxes.box_solid.Goals as goal

pub of-requires : goal.of-requires
of-requires c = subst HasNoTwoAlike (sym c.in_ok-box_table.ensures) (box_known c.args.planes.now c.requires.walls).apart

pub chained_solid-requires : goal.chained_solid-requires
chained_solid-requires c =
    subst₂ (λ (ms : List Coefficients) (fs : List Face). All (IsFaceOver ms) fs) (sym (c.in_ok-table.ensures ∙ c.in_ok-box_table.ensures))
    (sym (c.deref.ensures.value ∙ c.in_ok-faces.ensures)) (box_known c.args.planes.now c.requires.walls).faces

pub returns-clause-built : goal.returns-clause-built
returns-clause-built c =
    box_built c.args.planes.now _ _ c.args.most c.chained_solid.result c.requires.walls (c.in_ok-table.ensures ∙ c.in_ok-box_table.ensures)
    (c.deref.ensures.value ∙ c.in_ok-faces.ensures) c.chained_solid.ensures

pub returns-clause-solid : goal.returns-clause-solid
returns-clause-solid c =
    built_is_solid c.args.planes.now c.args.most c.chained_solid.result (box_planes c.args.planes.now c.requires.walls) c.requires.reach (returns-clause-built c)
