-- The unit of length.
use Rattle.std.specs.Prelude.{ℤ, pos}
use Rattle.plane_predicate.specs.declared.unit.Unit.{Unit}
use Rattle.plane_predicate.specs.declared.unit.Unit.TheVariants.{Whole, Half}

-- the grid steps of one unit
abbrev pub grid_steps_per_unit : Unit → ℤ
grid_steps_per_unit Whole = pos 1
grid_steps_per_unit Half = pos 2
