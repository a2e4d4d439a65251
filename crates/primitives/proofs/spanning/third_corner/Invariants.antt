use Rattle.std.proofs.Common.{ℕ, All, get_or, take}
use Rattle.plane_predicate.specs.Space.{AreCollinear}
use Rattle.primitives.specs.Shapes.{mesh_point}
use Rattle.primitives.proofs.spanning.third_corner.Given as goal

abbrev pub invariant-loop-third : goal.invariant-loop-third
invariant-loop-third l = All (λ (k : ℕ). AreCollinear (mesh_point l.points (get_or l.face 0 0)) (mesh_point l.points (get_or l.face l.second 0)) (mesh_point l.points k)) (take l.third l.face)
