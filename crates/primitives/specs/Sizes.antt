-- Sides and heights, and what can be wrong with them.
use Rattle.std.specs.Prelude.{◌≡◌, ◌/◌, ◌%◌, ◌≤◌, ℤ, pos, ◌+ℤ◌, ◌*ℤ◌, ◌<ℤ◌, ◌≤ℤ◌, unsigned_abs, neg_ℤ, Bool, true, false, List, All, Any, ⊤}
use Rattle.text_place.specs.declared.fault.FaultKind.{FaultKind}
use Rattle.text_place.specs.declared.fault.FaultKind.TheVariants.{BadSize, NotOnGrid, TooLarge}
use Rattle.plane_predicate.specs.declared.unit.Unit.{Unit as LengthUnit}
use Rattle.plane_predicate.specs.Units.{grid_steps_per_unit}
use Rattle.primitives.specs.declared.stop.ShapeStop.{ShapeStop}
use Rattle.primitives.specs.declared.stop.ShapeStop.TheVariants.{Kind, NoMemory}

-- a number that is at most 2^53 - 1 in size
pub record IsSafe (number : ℤ) : Type 0 where
  pub size : unsigned_abs number ≤ 9007199254740991

-- a side or height in grid steps
abbrev pub length_in_grid_steps : LengthUnit → ℤ → ℤ
length_in_grid_steps unit side = grid_steps_per_unit unit *ℤ side

-- a side or height that is at least 1
abbrev pub IsAtLeastOne : ℤ → Type 0
IsAtLeastOne side = pos 1 ≤ℤ side

-- a side or height that has an even number of grid steps
abbrev pub IsEven : LengthUnit → ℤ → Type 0
IsEven unit side = unsigned_abs (length_in_grid_steps unit side) % 2 ≡ 0

-- the ends of a side or height lie on grid points: it may have any length where it isn't centred
abbrev pub AreOnGrid : LengthUnit → Bool → List ℤ → Type 0
AreOnGrid unit false sides = ⊤
AreOnGrid unit true sides = All (IsEven unit) sides

-- sides and heights with nothing wrong
pub record AreSizes (unit : LengthUnit) (center : Bool) (sides : List ℤ) : Type 0 where
  pub long : All IsAtLeastOne sides
  pub on_grid : AreOnGrid unit center sides
  pub safe : All (λ s. IsSafe (length_in_grid_steps unit s)) sides

-- the first fault of sides and heights: one is below 1; else one is centred and has an odd number of grid steps; else one
-- has more than 2^53 - 1 grid steps
abbrev pub IsSizeFault : LengthUnit → Bool → List ℤ → FaultKind → Type 0
IsSizeFault unit center sides BadSize = Any (λ s. s <ℤ pos 1) sides
IsSizeFault unit center sides NotOnGrid = All IsAtLeastOne sides × (center ≡ true) × Any (λ s. unsigned_abs (length_in_grid_steps unit s) % 2 ≡ 1) sides
IsSizeFault unit center sides TooLarge = All IsAtLeastOne sides × AreOnGrid unit center sides × Any (λ s. IsSafe (length_in_grid_steps unit s) → ⊥) sides
IsSizeFault unit center sides kind = ⊥

-- the stops of sides and heights: their first fault, or that memory ran out
abbrev pub IsSizeStop : LengthUnit → Bool → List ℤ → ShapeStop → Type 0
IsSizeStop unit center sides (Kind kind) = IsSizeFault unit center sides kind
IsSizeStop unit center sides NoMemory = ⊤

-- where the given number of grid steps begin: at 0, or where centred at minus one half of them
abbrev pub low_at : Bool → ℤ → ℤ
low_at false steps = pos 0
low_at true steps = neg_ℤ (pos (unsigned_abs steps / 2))

-- where a side or height begins, in grid steps
abbrev pub low_end : LengthUnit → Bool → ℤ → ℤ
low_end unit center side = low_at center (length_in_grid_steps unit side)

-- where it ends
abbrev pub high_end : LengthUnit → Bool → ℤ → ℤ
high_end unit center side = low_end unit center side +ℤ length_in_grid_steps unit side
