-- The grid steps of a unit, and coordinates in them.
use Rattle.std.proofs.Common.{◌≤◌, arith, unsigned_abs}
use Rattle.plane_predicate.specs.declared.unit.Unit.{Unit as LengthUnit}
use Rattle.plane_predicate.specs.declared.unit.Unit.TheVariants.{Whole, Half}
use Rattle.plane_predicate.specs.Units.{grid_steps_per_unit}

pub steps_size : (unit : LengthUnit) → unsigned_abs (grid_steps_per_unit unit) ≤ 2
steps_size Whole = omega arith
steps_size Half = omega arith
