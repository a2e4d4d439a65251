use Rattle.std.proofs.Common.{ℕ, arith, get_or}
use Rattle.plane_predicate.specs.Space.{AreCollinear}
use Rattle.primitives.specs.Shapes.{mesh_point}
use Rattle.primitives.proofs.lemmas.Lists.{all_done, all_next}
use Rattle.primitives.proofs.Triangles.{collinear_by}
use Rattle.primitives.proofs.spanning.third_corner.Goals as goal

pub loop-third-preserved : goal.loop-third-preserved
loop-third-preserved c =
    let points = c.args.points.now in
    let face = c.args.face.now in
    all_next (λ (k : ℕ). AreCollinear (mesh_point points (get_or face 0 0)) (mesh_point points (get_or face c.args.second 0)) (mesh_point points k)) face c.loop-third.third 0 (omega arith) c.loop-third.invariant
    (collinear_by c.plane_through.result _ _ _ c.plane_through.ensures c.if-has_direction.ensures.none)

pub returns-clause-none : goal.returns-clause-none
returns-clause-none c =
    let points = c.args.points.now in
    let face = c.args.face.now in
    λ _. all_done (λ (k : ℕ). AreCollinear (mesh_point points (get_or face 0 0)) (mesh_point points (get_or face c.args.second 0)) (mesh_point points k)) face c.loop-third.third (omega arith) c.loop-third.invariant
