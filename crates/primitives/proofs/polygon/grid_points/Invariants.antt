use Rattle.std.proofs.Common.{◌≡◌, map, take}
use Rattle.primitives.specs.Polygons.{flat_grid_point_of}
use Rattle.primitives.proofs.polygon.grid_points.Given as goal

abbrev pub invariant-loop-point : goal.invariant-loop-point
invariant-loop-point l = l.grid.items ≡ map (flat_grid_point_of l.unit) (take l.point-index l.points)
