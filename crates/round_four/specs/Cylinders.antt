-- Cylinders with four fragments.
use Rattle.std.specs.Prelude.{◌≡◌, ℕ, ◌%◌, ◌≤◌, cond, ℤ, pos, ◌≤ℤ◌, unsigned_abs, Bool, true, false, List, [], ◌∷◌, ◌++◌, map, ⊤}
use Rattle.std.specs.Ordering.{int_eq}
use Rattle.text_place.specs.declared.fault.FaultKind.{FaultKind}
use Rattle.text_place.specs.declared.fault.FaultKind.TheVariants.{BadSize, NotOnGrid, OutOfRange}
use Rattle.plane_predicate.specs.declared.unit.Unit.{Unit as LengthUnit}
use Rattle.primitives.specs.Shapes.{Mesh}
use Rattle.primitives.specs.declared.stop.ShapeStop.{ShapeStop}
use Rattle.primitives.specs.declared.stop.ShapeStop.TheVariants.{Kind, NoMemory}
use Rattle.round_four.specs.Circles.{circle_points}
use Rattle.primitives.specs.Prisms.{at_height}
use Rattle.primitives.specs.Sizes.{length_in_grid_steps, high_end, low_end, IsEven}

-- the corners of one end of a cylinder: those of its circle, or one apex where the radius is 0
abbrev pub end_points : ℤ → ℤ → List (List ℤ)
end_points r z = cond (int_eq r (pos 0)) ((pos 0 ∷ pos 0 ∷ z ∷ []) ∷ []) (map (at_height z) (circle_points r))

-- the faces between two circles: the sides over corners 0 to 1, 1 to 2, 2 to 3 and 3 to 0, then the low and the high end
abbrev pub faces_of_two : List (List ℕ)
faces_of_two =
    (0 ∷ 1 ∷ 5 ∷ 4 ∷ [])
    ∷ (1 ∷ 2 ∷ 6 ∷ 5 ∷ [])
    ∷ (2 ∷ 3 ∷ 7 ∷ 6 ∷ [])
    ∷ (3 ∷ 0 ∷ 4 ∷ 7 ∷ [])
    ∷ (0 ∷ 1 ∷ 2 ∷ 3 ∷ [])
    ∷ (4 ∷ 5 ∷ 6 ∷ 7 ∷ [])
    ∷ []

-- those from a circle up to an apex: the sides in the same order, then the low end
abbrev pub faces_to_apex : List (List ℕ)
faces_to_apex =
    (0 ∷ 1 ∷ 4 ∷ [])
    ∷ (1 ∷ 2 ∷ 4 ∷ [])
    ∷ (2 ∷ 3 ∷ 4 ∷ [])
    ∷ (3 ∷ 0 ∷ 4 ∷ [])
    ∷ (0 ∷ 1 ∷ 2 ∷ 3 ∷ [])
    ∷ []

-- those from an apex up to a circle: the sides in the same order, then the high end
abbrev pub faces_from_apex : List (List ℕ)
faces_from_apex =
    (0 ∷ 2 ∷ 1 ∷ [])
    ∷ (0 ∷ 3 ∷ 2 ∷ [])
    ∷ (0 ∷ 4 ∷ 3 ∷ [])
    ∷ (0 ∷ 1 ∷ 4 ∷ [])
    ∷ (1 ∷ 2 ∷ 3 ∷ 4 ∷ [])
    ∷ []

-- the faces of a cylinder whose ends have the radii a and b: an end whose radius is 0 is no face
abbrev pub cylinder_faces : ℤ → ℤ → List (List ℕ)
cylinder_faces a b = cond (int_eq a (pos 0)) faces_from_apex (cond (int_eq b (pos 0)) faces_to_apex faces_of_two)

-- the cylinder from the height l with the radius a to the height h with the radius b
abbrev pub cylinder_between : ℤ → ℤ → ℤ → ℤ → Mesh
cylinder_between a b l h = record { points = end_points a l ++ end_points b h; faces = cylinder_faces a b }

-- the cylinder with this height and these two radii in units (User Manual, cylinder, with $fn = 4)
abbrev pub cylinder_of : LengthUnit → Bool → ℤ → ℤ → ℤ → Mesh
cylinder_of unit center height low high =
    cylinder_between (length_in_grid_steps unit low) (length_in_grid_steps unit high) (low_end unit center height) (high_end unit center height)

-- sizes that make a body: a height of at least 1, radii of at least 0, and not both of them 0
pub record HasBody (height low high : ℤ) : Type 0 where
  pub long : pos 1 ≤ℤ height
  pub low_least : pos 0 ≤ℤ low
  pub high_least : pos 0 ≤ℤ high
  pub some : low ≡ pos 0 → high ≡ pos 0 → ⊥

-- the ends lie on grid points: a height may be any where it isn't centred
abbrev pub IsOnGrid : LengthUnit → Bool → ℤ → Type 0
IsOnGrid unit false height = ⊤
IsOnGrid unit true height = IsEven unit height

-- four numbers that are at most 65535 in size
pub record AreFourInRange (a b c d : ℤ) : Type 0 where
  pub first : unsigned_abs a ≤ 65535
  pub second : unsigned_abs b ≤ 65535
  pub third : unsigned_abs c ≤ 65535
  pub fourth : unsigned_abs d ≤ 65535

-- radii and heights of both ends, in grid steps, that are at most 65535 in size
abbrev pub IsCylinderInRange : LengthUnit → Bool → ℤ → ℤ → ℤ → Type 0
IsCylinderInRange unit center height low high =
    AreFourInRange (length_in_grid_steps unit low) (length_in_grid_steps unit high) (low_end unit center height) (high_end unit center height)

-- sizes with nothing wrong
pub record AreCylinderSizes (unit : LengthUnit) (center : Bool) (height low high : ℤ) : Type 0 where
  pub body : HasBody height low high
  pub on_grid : IsOnGrid unit center height
  pub range : IsCylinderInRange unit center height low high

-- the first fault of a cylinder's sizes: they make no body; else the height is centred and odd in grid steps; else a radius or
-- the height of an end is past 65535 grid steps in size
abbrev pub IsCylinderFault : LengthUnit → Bool → ℤ → ℤ → ℤ → FaultKind → Type 0
IsCylinderFault unit center height low high BadSize = HasBody height low high → ⊥
IsCylinderFault unit center height low high NotOnGrid = HasBody height low high × (center ≡ true) × (unsigned_abs (length_in_grid_steps unit height) % 2 ≡ 1)
IsCylinderFault unit center height low high OutOfRange = HasBody height low high × IsOnGrid unit center height × (IsCylinderInRange unit center height low high → ⊥)
IsCylinderFault unit center height low high kind = ⊥

-- the stops of a cylinder: its first fault, or that memory ran out
abbrev pub IsCylinderStop : LengthUnit → Bool → ℤ → ℤ → ℤ → ShapeStop → Type 0
IsCylinderStop unit center height low high (Kind kind) = IsCylinderFault unit center height low high kind
IsCylinderStop unit center height low high NoMemory = ⊤
