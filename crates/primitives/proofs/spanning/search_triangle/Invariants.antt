use Rattle.std.proofs.Common.{ℕ, All, get_or, take}
use Rattle.plane_predicate.specs.Space.{AreCollinear}
use Rattle.primitives.specs.Shapes.{mesh_point}
use Rattle.primitives.proofs.spanning.search_triangle.Given as goal

abbrev pub invariant-loop-second : goal.invariant-loop-second
invariant-loop-second l = All (λ (j : ℕ). All (λ (k : ℕ). AreCollinear (mesh_point l.points (get_or l.face 0 0)) (mesh_point l.points j) (mesh_point l.points k)) l.face) (take l.second l.face)
