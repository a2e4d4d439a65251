use Rattle.std.proofs.Common.{◌≡◌, map, take}
use Rattle.primitives.specs.Checks.{grid_point_of}
use Rattle.primitives.proofs.face_ranges.points_in_grid_steps.Given as goal

abbrev pub invariant-loop-point : goal.invariant-loop-point
invariant-loop-point l = l.steps.items ≡ map (grid_point_of l.unit) (take l.point-index l.points)
