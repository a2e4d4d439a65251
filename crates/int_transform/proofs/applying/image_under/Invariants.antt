use Rattle.std.proofs.Common.{◌≡◌, ℕ, ◌≤◌, pos, take, All}
use Rattle.plane_predicate.specs.Space.{point_at}
use Rattle.int_transform.specs.declared.affine.Affine.{Affine}
use Rattle.int_transform.specs.Maps.{coordinate_list, determinant_of, image, map_of, HasSafeCoordinates}
use Rattle.int_transform.proofs.applying.image_under.Given as goal

abbrev pub invariant-loop-step : goal.invariant-loop-step
invariant-loop-step l = record {
  at : l.at ≡ coordinate_list (image (map_of (take l.step-index l.steps)) (point_at l.fn.point));
  in_range : (k : ℕ) → k ≤ l.step-index → HasSafeCoordinates (image (map_of (take k l.steps)) (point_at l.fn.point));
  regular : All (λ (s : Affine). determinant_of s ≡ pos 0 → ⊥) (take l.step-index l.steps);
}
