-- Convex polygons in the plane.
use Rattle.std.specs.Prelude.{◌≡◌, ℕ, ◌<◌, ◌≤◌, ℤ, pos, ◌-ℤ◌, ◌≤ℤ◌, unsigned_abs, Bool, ◌⊎◌, List, [], ◌∷◌, get_or, length, map, All, Any, ⊤}
use Rattle.text_place.specs.declared.fault.FaultKind.{FaultKind}
use Rattle.text_place.specs.declared.fault.FaultKind.TheVariants.{LongList, FewPoints, OutOfRange, NotConvex}
use Rattle.plane_predicate.specs.Space.{minor}
use Rattle.plane_predicate.specs.declared.unit.Unit.{Unit as LengthUnit}
use Rattle.primitives.specs.declared.stop.ShapeStop.{ShapeStop}
use Rattle.primitives.specs.declared.stop.ShapeStop.TheVariants.{Kind, NoMemory}
use Rattle.primitives.specs.Sizes.{IsSafe, length_in_grid_steps, low_end, high_end}
use Rattle.plane_predicate.specs.Indices.{index_after}

-- the first coordinate of a point of the plane
abbrev pub x_of : List ℤ → ℤ
x_of p = get_or p 0 (pos 0)

-- the second coordinate of a point of the plane
abbrev pub y_of : List ℤ → ℤ
y_of p = get_or p 1 (pos 0)

-- the orientation of three points: above 0 where r lies strictly to the left of the way from p to q, and below 0 where it
-- lies strictly to the right
abbrev pub orientation : List ℤ → List ℤ → List ℤ → ℤ
orientation p q r = minor (x_of q -ℤ x_of p) (y_of q -ℤ y_of p) (x_of r -ℤ x_of p) (y_of r -ℤ y_of p)

-- point i of a polygon
abbrev pub polygon_point : List (List ℤ) → ℕ → List ℤ
polygon_point points i = get_or points i []

-- three points that are not on one line
pub record HasCorner (points : List (List ℤ)) : Type 0 where
  pub first : ℕ
  pub second : ℕ
  pub third : ℕ
  pub first_in : first < length points
  pub second_in : second < length points
  pub third_in : third < length points
  pub apart : orientation (polygon_point points first) (polygon_point points second) (polygon_point points third) ≡ pos 0 → ⊥

-- no point lies strictly to the right of a way from a point to the next. Equal points make no way: nothing is to the
-- right of it
abbrev pub GoesLeft : List (List ℤ) → Type 0
GoesLeft points = (i : ℕ) → i < length points → All (λ r. pos 0 ≤ℤ orientation (polygon_point points i) (polygon_point points (index_after (length points) i)) r) points

-- the same of the ways in the other direction
abbrev pub GoesRight : List (List ℤ) → Type 0
GoesRight points = (i : ℕ) → i < length points → All (λ r. pos 0 ≤ℤ orientation (polygon_point points (index_after (length points) i)) (polygon_point points i) r) points

-- a convex polygon: in one of its two directions no point lies strictly to the right of a way from a point to the next,
-- and not all points lie on one line
pub record IsConvexPolygon (points : List (List ℤ)) : Type 0 where
  pub goes : GoesLeft points ⊎ GoesRight points
  pub corner : HasCorner points

-- a point of the plane with coordinates at most 2^53 - 1 in size
pub record IsSafePoint (p : List ℤ) : Type 0 where
  pub x_safe : IsSafe (x_of p)
  pub y_safe : IsSafe (y_of p)

-- what a flat keeps: a convex polygon of at most 64 points
pub record IsFlatShape (points : List (List ℤ)) : Type 0 where
  pub most : length points ≤ 64
  pub convex : IsConvexPolygon points
  pub safe : All IsSafePoint points

-- the corners of the rectangle from a to b in x and from c to d in y
abbrev pub rectangle_of : ℤ → ℤ → ℤ → ℤ → List (List ℤ)
rectangle_of a b c d = (a ∷ c ∷ []) ∷ (b ∷ c ∷ []) ∷ (b ∷ d ∷ []) ∷ (a ∷ d ∷ []) ∷ []

-- the rectangle with these two sides (User Manual, square)
abbrev pub square_of : LengthUnit → Bool → List ℤ → List (List ℤ)
square_of unit center size =
    let x = get_or size 0 (pos 0) in let y = get_or size 1 (pos 0) in
    rectangle_of (low_end unit center x) (high_end unit center x) (low_end unit center y) (high_end unit center y)

-- written coordinates that are at most 65535 in size
pub record IsFlatPointInRange (p : List ℤ) : Type 0 where
  pub x_size : unsigned_abs (x_of p) ≤ 65535
  pub y_size : unsigned_abs (y_of p) ≤ 65535

-- coordinates of written points in grid steps: at most 2 times 65535 in size
pub record IsFlatPointWithinGridLimits (p : List ℤ) : Type 0 where
  pub x_size : unsigned_abs (x_of p) ≤ 131070
  pub y_size : unsigned_abs (y_of p) ≤ 131070

-- a written point in grid steps
abbrev pub flat_grid_point_of : LengthUnit → List ℤ → List ℤ
flat_grid_point_of unit p = length_in_grid_steps unit (x_of p) ∷ length_in_grid_steps unit (y_of p) ∷ []

-- written points in grid steps (User Manual, polygon)
abbrev pub polygon_of : LengthUnit → List (List ℤ) → List (List ℤ)
polygon_of unit points = map (flat_grid_point_of unit) points

-- written points with nothing wrong
pub record IsWrittenPolygon (unit : LengthUnit) (points : List (List ℤ)) : Type 0 where
  pub most : length points ≤ 64
  pub least : 3 ≤ length points
  pub range : All IsFlatPointInRange points
  pub convex : IsConvexPolygon (polygon_of unit points)

-- the first fault of written points: there are more than 64; else fewer than 3; else a coordinate is past 65535 in size;
-- else they make no convex polygon
abbrev pub IsPolygonFault : LengthUnit → List (List ℤ) → FaultKind → Type 0
IsPolygonFault unit points LongList = 64 < length points
IsPolygonFault unit points FewPoints = length points < 3
IsPolygonFault unit points OutOfRange = (length points ≤ 64) × (3 ≤ length points) × Any (λ p. IsFlatPointInRange p → ⊥) points
IsPolygonFault unit points NotConvex = (length points ≤ 64) × (3 ≤ length points) × All IsFlatPointInRange points × (IsConvexPolygon (polygon_of unit points) → ⊥)
IsPolygonFault unit points kind = ⊥

-- the stops of a polygon: its first fault, or that memory ran out
abbrev pub IsPolygonStop : LengthUnit → List (List ℤ) → ShapeStop → Type 0
IsPolygonStop unit points (Kind kind) = IsPolygonFault unit points kind
IsPolygonStop unit points NoMemory = ⊤
