-- Parallel planes.
use Rattle.std.specs.Prelude.{◌≡◌, ℤ, pos, ◌-ℤ◌, ◌<ℤ◌}
use Rattle.plane_predicate.specs.Space.{Coefficients, Coordinates, value}
use Rattle.plane_predicate.specs.Sides.{side_of}
use Rattle.plane_predicate.specs.declared.sides.Side.{Side}

-- the side of an offset on which another one lies
abbrev pub side_past : ℤ → ℤ → Side
side_past d offset = side_of (d -ℤ offset)

-- all points of p lie on this side of m
abbrev pub HasAllOn : Coefficients → Coefficients → Side → Type 0
HasAllOn p m side = (v : Coordinates) → pos 0 <ℤ v.w → value p v ≡ pos 0 → side ≡ side_of (value m v)

-- the directions are equal
pub record HasSameDirection (p m : Coefficients) : Type 0 where
  pub a : p.a ≡ m.a
  pub b : p.b ≡ m.b
  pub c : p.c ≡ m.c
