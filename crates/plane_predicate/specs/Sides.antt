-- The sides of a plane.
use Rattle.std.specs.Prelude.{Bool, true, false, ℤ, pos, negsuc, zero, suc, neg_ℤ}
use Rattle.plane_predicate.specs.declared.sides.Side.{Side}
use Rattle.plane_predicate.specs.declared.sides.Side.TheVariants.{Behind, On, Ahead}

-- the side of a point by the value of the plane at it
abbrev pub side_of : ℤ → Side
side_of (pos zero) = On
side_of (pos (suc n)) = Ahead
side_of (negsuc n) = Behind

-- a value with its sign changed where w is below 0
abbrev pub value_signed_by : ℤ → ℤ → ℤ
value_signed_by (pos n) v = v
value_signed_by (negsuc n) v = neg_ℤ v

-- the side is the one behind the plane
abbrev pub is_side_behind : Side → Bool
is_side_behind Behind = true
is_side_behind On = false
is_side_behind Ahead = false

-- the side is the one ahead of the plane
abbrev pub is_side_ahead : Side → Bool
is_side_ahead Behind = false
is_side_ahead On = false
is_side_ahead Ahead = true
