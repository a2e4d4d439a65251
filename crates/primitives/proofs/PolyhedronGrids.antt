-- Points in grid steps.
use Rattle.std.proofs.Common.{◌≤◌, ◌<◌, List, [], length, get_or, sym, subst, All, arith, ℤ, ◌*ℤ◌, unsigned_abs}
use Rattle.std.proofs.lemmas.List.{get_or-map, length-map}
use Rattle.plane_predicate.specs.declared.unit.Unit.{Unit as LengthUnit}
use Rattle.plane_predicate.specs.Space.{point_at}
use Rattle.plane_predicate.specs.Units.{grid_steps_per_unit}
use Rattle.plane_predicate.proofs.lemmas.Sizes.{size_product}
use Rattle.primitives.specs.Checks.{grid_point_of, grid_points_of}
use Rattle.primitives.specs.Shapes.{IsPointInRange}
use Rattle.primitives.specs.GridSizes.{IsWithinGridLimits}
use Rattle.primitives.proofs.Steps.{steps_size}

step_size : (unit : LengthUnit) (x : ℤ) → unsigned_abs x ≤ 65535 → unsigned_abs (grid_steps_per_unit unit *ℤ x) ≤ 131070
step_size unit x h = omega (arith, size_product (grid_steps_per_unit unit) x 2 65535 (steps_size unit) h)

on_grid : (unit : LengthUnit) (p : List ℤ) → IsPointInRange (point_at p) → IsWithinGridLimits (point_at (grid_point_of unit p))
on_grid unit p h = record { x_size = step_size unit (point_at p).x h.x_size; y_size = step_size unit (point_at p).y h.y_size; z_size = step_size unit (point_at p).z h.z_size }

pub are_on_grid : (unit : LengthUnit) (points : List (List ℤ)) → All (λ (p : List ℤ). IsPointInRange (point_at p)) points → All (λ (p : List ℤ). IsWithinGridLimits (point_at p)) (grid_points_of unit points)
are_on_grid unit points h k d lt =
    let within : k < length points = omega (arith, lt, length-map points (grid_point_of unit)) in
    subst (λ (p : List ℤ). IsWithinGridLimits (point_at p)) (sym (get_or-map (grid_point_of unit) points k [] d within)) (on_grid unit (get_or points k []) (h k [] within))
