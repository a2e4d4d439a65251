-- The sizes of points in grid steps, and of the planes through three of them.
use Rattle.std.specs.Prelude.{◌≤◌, unsigned_abs}
use Rattle.plane_predicate.specs.Space.{Coefficients, Coordinates}

-- coordinates of at most 65,535 units, in grid steps
pub record IsWithinGridLimits (p : Coordinates) : Type 0 where
  pub x_size : unsigned_abs p.x ≤ 131070
  pub y_size : unsigned_abs p.y ≤ 131070
  pub z_size : unsigned_abs p.z ≤ 131070

-- a plane through three such points: a part of its direction is two differences up to 262140, multiplied, twice, and
-- its offset is three parts of a direction, each times a coordinate
pub record HasFaceSizes (m : Coefficients) : Type 0 where
  pub a_size : unsigned_abs m.a ≤ 137434759200
  pub b_size : unsigned_abs m.b ≤ 137434759200
  pub c_size : unsigned_abs m.c ≤ 137434759200
  pub d_size : unsigned_abs m.d ≤ 54040721665032000
