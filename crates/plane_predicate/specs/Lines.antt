-- The line in which two planes meet, and the places at which others meet it.
use Rattle.std.specs.Prelude.{◌≡◌, ℕ, ◌*◌, ◌≤◌, ℤ, pos, ◌+ℤ◌, ◌*ℤ◌, ◌<ℤ◌, unsigned_abs}
use Rattle.plane_predicate.specs.Space.{Coefficients, Coordinates, minor, value}
use Rattle.plane_predicate.specs.declared.place.Place.{Place}

-- the greatest size of a part of the direction of a small plane
abbrev pub small_direction : ℕ
small_direction = 100000

-- the greatest size of the offset of a small plane
abbrev pub small_offset : ℕ
small_offset = 100000000

-- the plane's numbers are small
pub record IsSmall (m : Coefficients) : Type 0 where
  pub a_size : unsigned_abs m.a ≤ small_direction
  pub b_size : unsigned_abs m.b ≤ small_direction
  pub c_size : unsigned_abs m.c ≤ small_direction
  pub d_size : unsigned_abs m.d ≤ small_offset

-- a line, as its direction (a, b, c) and one of its points
pub record Axis : Type 0 where
  pub a : ℤ
  pub b : ℤ
  pub c : ℤ
  pub point : Coordinates

-- the sizes of a point in which two small planes and one of the planes x = 0, y = 0 and z = 0 meet
pub record HasSpotSizes (v : Coordinates) : Type 0 where
  pub x_size : unsigned_abs v.x ≤ 2 * (small_direction * small_offset)
  pub y_size : unsigned_abs v.y ≤ 2 * (small_direction * small_offset)
  pub z_size : unsigned_abs v.z ≤ 2 * (small_direction * small_offset)
  pub w_size : unsigned_abs v.w ≤ 2 * (small_direction * small_direction)

-- the sizes of the direction of a line in which two small planes meet, by its three parts
pub record HasDirectionSizes (a b c : ℤ) : Type 0 where
  pub a_size : unsigned_abs a ≤ 2 * (small_direction * small_direction)
  pub b_size : unsigned_abs b ≤ 2 * (small_direction * small_direction)
  pub c_size : unsigned_abs c ≤ 2 * (small_direction * small_direction)

-- the sizes of a line in which two small planes meet
pub record HasAxisSizes (line : Axis) : Type 0 where
  pub a_size : unsigned_abs line.a ≤ 2 * (small_direction * small_direction)
  pub b_size : unsigned_abs line.b ≤ 2 * (small_direction * small_direction)
  pub c_size : unsigned_abs line.c ≤ 2 * (small_direction * small_direction)
  pub point_size : HasSpotSizes line.point

-- the point is on both planes, and its w is above 0
pub record IsOnBoth (p m : Coefficients) (v : Coordinates) : Type 0 where
  pub weight : pos 0 <ℤ v.w
  pub first : value p v ≡ pos 0
  pub second : value m v ≡ pos 0

-- the line in which two planes meet: its direction is the cross product of theirs, and its point is on both
pub record IsAxisOf (p m : Coefficients) (line : Axis) : Type 0 where
  pub a : line.a ≡ minor p.b p.c m.b m.c
  pub b : line.b ≡ minor p.c p.a m.c m.a
  pub c : line.c ≡ minor p.a p.b m.a m.b
  pub on : IsOnBoth p m line.point

-- where a plane meets a line: its value at the line's point, and the product of its direction with the line's
pub record IsLinePlaceOf (m : Coefficients) (line : Axis) (place : Place) : Type 0 where
  pub at : place.at ≡ value m line.point
  pub along : place.along ≡ m.a *ℤ line.a +ℤ m.b *ℤ line.b +ℤ m.c *ℤ line.c
