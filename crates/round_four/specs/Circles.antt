-- Circles with four fragments.
use Rattle.std.specs.Prelude.{◌≤◌, ℤ, pos, ◌<ℤ◌, ◌≤ℤ◌, unsigned_abs, neg_ℤ, List, [], ◌∷◌, ⊤}
use Rattle.text_place.specs.declared.fault.FaultKind.{FaultKind}
use Rattle.text_place.specs.declared.fault.FaultKind.TheVariants.{BadSize, OutOfRange}
use Rattle.plane_predicate.specs.declared.unit.Unit.{Unit as LengthUnit}
use Rattle.primitives.specs.declared.stop.ShapeStop.{ShapeStop}
use Rattle.primitives.specs.declared.stop.ShapeStop.TheVariants.{Kind, NoMemory}
use Rattle.primitives.specs.Sizes.{length_in_grid_steps}

-- the corners of a circle with four fragments about the origin, counterclockwise from the x axis on
abbrev pub circle_points : ℤ → List (List ℤ)
circle_points r = (r ∷ pos 0 ∷ []) ∷ (pos 0 ∷ r ∷ []) ∷ (neg_ℤ r ∷ pos 0 ∷ []) ∷ (pos 0 ∷ neg_ℤ r ∷ []) ∷ []

-- the circle with this radius in units (User Manual, circle, with $fn = 4)
abbrev pub circle_of : LengthUnit → ℤ → List (List ℤ)
circle_of unit radius = circle_points (length_in_grid_steps unit radius)

-- a radius with nothing wrong
pub record IsCircleSize (unit : LengthUnit) (radius : ℤ) : Type 0 where
  pub long : pos 1 ≤ℤ radius
  pub range : unsigned_abs (length_in_grid_steps unit radius) ≤ 65535

-- the first fault of the radius of a circle: it is below 1; else it is past 65535 grid steps
abbrev pub IsCircleFault : LengthUnit → ℤ → FaultKind → Type 0
IsCircleFault unit radius BadSize = radius <ℤ pos 1
IsCircleFault unit radius OutOfRange = (pos 1 ≤ℤ radius) × (unsigned_abs (length_in_grid_steps unit radius) ≤ 65535 → ⊥)
IsCircleFault unit radius kind = ⊥

-- the stops of a circle: its first fault, or that memory ran out
abbrev pub IsCircleStop : LengthUnit → ℤ → ShapeStop → Type 0
IsCircleStop unit radius (Kind kind) = IsCircleFault unit radius kind
IsCircleStop unit radius NoMemory = ⊤
