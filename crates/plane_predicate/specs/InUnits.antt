-- Points in units and in grid steps. Planes, polygons and solids are in grid steps; what is printed is in units.
use Rattle.std.specs.Prelude.{◌*ℤ◌}
use Rattle.plane_predicate.specs.declared.unit.Unit.{Unit as LengthUnit}
use Rattle.plane_predicate.specs.Space.{Coordinates}
use Rattle.plane_predicate.specs.Units.{grid_steps_per_unit}

-- a point that is given in grid steps, in units: its weight is multiplied
abbrev pub in_units : LengthUnit → Coordinates → Coordinates
in_units unit p = record { x = p.x; y = p.y; z = p.z; w = grid_steps_per_unit unit *ℤ p.w }

-- a point that is given in units, in grid steps: its coordinates are multiplied
abbrev pub in_steps : LengthUnit → Coordinates → Coordinates
in_steps unit p =
    record { x = grid_steps_per_unit unit *ℤ p.x; y = grid_steps_per_unit unit *ℤ p.y; z = grid_steps_per_unit unit *ℤ p.z; w = p.w }
