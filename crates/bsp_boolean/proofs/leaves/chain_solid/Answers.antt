use Rattle.std.proofs.Common.{List, map, ap₂, ◌∙◌}
use Rattle.plane_predicate.specs.Space.{Coefficients}
use Rattle.plane_table.specs.declared.faces.Face.{Face}
use Rattle.plane_table.specs.Faces.{outline_of}
use Rattle.bsp_boolean.proofs.Convex.{leaf_built, built_is_solid}
use Rattle.bsp_boolean.proofs.leaves.chain_solid.Goals as goal

pub returns-clause-built : goal.returns-clause-built
returns-clause-built c =
    let found = c.in_ok-planes.ensures in
    let same = ap₂ (λ (ms : List Coefficients) (fs : List Face). map (outline_of ms) fs) c.in_ok-table.ensures c.deref.ensures.value in
    leaf_built c.args.planes.now _ c.args.most c.behind_all.result (same ∙ found.outlines) c.behind_all.ensures

pub returns-clause-solid : goal.returns-clause-solid
returns-clause-solid c =
    built_is_solid c.args.planes.now c.args.most c.behind_all.result c.in_ok-planes.ensures.planes c.requires.reach (returns-clause-built c)
