use Rattle.std.proofs.Common.{◌≡◌, ◌<◌, List, ℤ, pos, take, map, All}
use Rattle.plane_predicate.specs.Space.{point_at}
use Rattle.int_transform.specs.Maps.{coordinate_list, determinant_of, image, map_of, KeepsSafeCoordinates}
use Rattle.int_transform.proofs.applying.apply.Given as goal

abbrev pub invariant-loop-point : goal.invariant-loop-point
invariant-loop-point l = record {
  images : l.images.items ≡ map (λ (p : List ℤ). coordinate_list (image (map_of l.steps) (point_at p))) (take l.point-index l.points);
  in_range : All (λ (p : List ℤ). KeepsSafeCoordinates l.steps (point_at p)) (take l.point-index l.points);
  regular : 0 < l.point-index → determinant_of (map_of l.steps) ≡ pos 0 → ⊥;
}
