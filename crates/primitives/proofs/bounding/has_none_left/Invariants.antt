use Rattle.std.proofs.Common.{ℕ, pos, ◌≤ℤ◌, All, take}
use Rattle.plane_predicate.specs.Space.{point_at, inner_product, plane_of_points}
use Rattle.primitives.specs.Shapes.{mesh_point}
use Rattle.primitives.proofs.bounding.has_none_left.Given as goal

abbrev pub invariant-loop-i : goal.invariant-loop-i
invariant-loop-i l = All (λ (i : ℕ). inner_product l.plane (plane_of_points (point_at l.way.from) (point_at l.way.to) (mesh_point l.points i)) ≤ℤ pos 0) (take l.i-index l.face)
