use Rattle.std.proofs.Common.{ℕ, All, arith, get_or, refl}
use Rattle.plane_predicate.specs.Space.{AreCollinear}
use Rattle.primitives.specs.Shapes.{mesh_point}
use Rattle.primitives.proofs.lemmas.Lists.{all_done, all_next}
use Rattle.primitives.proofs.Triangles.{no_lines}
use Rattle.primitives.proofs.spanning.search_triangle.Goals as goal

pub loop-second-preserved : goal.loop-second-preserved
loop-second-preserved c =
    let points = c.args.points.now in
    let face = c.args.face.now in
    all_next (λ (j : ℕ). All (λ (k : ℕ). AreCollinear (mesh_point points (get_or face 0 0)) (mesh_point points j) (mesh_point points k)) face) face c.loop-second.second 0 (omega arith) c.loop-second.invariant (c.in_default.ensures.none refl)

pub returns-clause-none : goal.returns-clause-none
returns-clause-none c =
    let points = c.args.points.now in
    let face = c.args.face.now in
    λ _ t. no_lines points face (get_or face 0 0) t (all_done (λ (j : ℕ). All (λ (k : ℕ). AreCollinear (mesh_point points (get_or face 0 0)) (mesh_point points j) (mesh_point points k)) face) face c.loop-second.second (omega arith) c.loop-second.invariant)
