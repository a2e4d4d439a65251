-- Written points in grid steps.
use Rattle.std.proofs.Common.{◌≤◌, List, arith, ℤ, unsigned_abs, All}
use Rattle.std.proofs.lemmas.List.{length-map}
use Rattle.std.proofs.lemmas.List.Elements.{All-map, All-weaker}
use Rattle.plane_predicate.specs.declared.unit.Unit.{Unit as LengthUnit}
use Rattle.plane_predicate.specs.declared.unit.Unit.TheVariants.{Whole, Half}
use Rattle.plane_predicate.specs.Units.{grid_steps_per_unit}
use Rattle.plane_predicate.proofs.lemmas.Sizes.{size_product}
use Rattle.primitives.specs.Polygons.{x_of, y_of, flat_grid_point_of, polygon_of, IsFlatShape, IsFlatPointInRange, IsFlatPointWithinGridLimits, IsWrittenPolygon, IsSafePoint}

steps_most : (unit : LengthUnit) → unsigned_abs (grid_steps_per_unit unit) ≤ 2
steps_most Whole = omega arith
steps_most Half = omega arith

near_point : (unit : LengthUnit) (p : List ℤ) → IsFlatPointInRange p → IsFlatPointWithinGridLimits (flat_grid_point_of unit p)
near_point unit p h = record {
  x_size = size_product (grid_steps_per_unit unit) (x_of p) 2 65535 (steps_most unit) h.x_size;
  y_size = size_product (grid_steps_per_unit unit) (y_of p) 2 65535 (steps_most unit) h.y_size;
}

pub near_grid : (unit : LengthUnit) (points : List (List ℤ)) → All IsFlatPointInRange points → All IsFlatPointWithinGridLimits (polygon_of unit points)
near_grid unit points h = All-map IsFlatPointWithinGridLimits (flat_grid_point_of unit) points (All-weaker IsFlatPointInRange (λ (p : List ℤ). IsFlatPointWithinGridLimits (flat_grid_point_of unit p)) (near_point unit) points h)

safe_point : (p : List ℤ) → IsFlatPointWithinGridLimits p → IsSafePoint p
safe_point p h = record { x_safe = record { size = omega (arith, h.x_size) }; y_safe = record { size = omega (arith, h.y_size) } }

pub polygon_is_flat : (unit : LengthUnit) (points : List (List ℤ)) → IsWrittenPolygon unit points → IsFlatShape (polygon_of unit points)
polygon_is_flat unit points h = record {
  most = omega (arith, h.most, length-map points (flat_grid_point_of unit));
  convex = h.convex;
  safe = All-weaker IsFlatPointWithinGridLimits IsSafePoint safe_point (polygon_of unit points) (near_grid unit points h.range);
}
