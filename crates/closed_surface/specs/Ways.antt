-- Ways from a point to another, in whole numbers.
use Rattle.std.specs.Prelude.{Bool, ◌&&◌, ℤ, pos, ◌+ℤ◌, ◌-ℤ◌, ◌*ℤ◌, int_lt}
use Rattle.std.specs.Ordering.{int_eq}
use Rattle.plane_predicate.specs.Space.{Coefficients, Coordinates, minor}

-- a direction in space, in whole numbers
pub record Direction : Type 0 where
  pub x : ℤ
  pub y : ℤ
  pub z : ℤ

-- the way from p to q: q - p, times both weights
abbrev pub displacement : Coordinates → Coordinates → Direction
displacement p q = record { x = p.w *ℤ q.x -ℤ q.w *ℤ p.x; y = p.w *ℤ q.y -ℤ q.w *ℤ p.y; z = p.w *ℤ q.z -ℤ q.w *ℤ p.z }

-- the two points are one: there is no way between them
abbrev pub is_same_point_of_space : Coordinates → Coordinates → Bool
is_same_point_of_space p q = int_eq (displacement p q).x (pos 0) && (int_eq (displacement p q).y (pos 0) && int_eq (displacement p q).z (pos 0))

-- the vector product of two directions
abbrev pub cross_product : Direction → Direction → Direction
cross_product u v = record { x = minor u.y u.z v.y v.z; y = minor u.z u.x v.z v.x; z = minor u.x u.y v.x v.y }

-- the vector product of the two directions is 0
abbrev pub is_parallel : Direction → Direction → Bool
is_parallel u v = int_eq (cross_product u v).x (pos 0) && (int_eq (cross_product u v).y (pos 0) && int_eq (cross_product u v).z (pos 0))

-- the scalar product of two directions
abbrev pub dot_product : Direction → Direction → ℤ
dot_product u v = u.x *ℤ v.x +ℤ u.y *ℤ v.y +ℤ u.z *ℤ v.z

-- how much the value of a plane grows along v
abbrev pub slope : Coefficients → Direction → ℤ
slope m v = m.a *ℤ v.x +ℤ m.b *ℤ v.y +ℤ m.c *ℤ v.z

-- the direction of the line in which two planes meet
abbrev pub line_of : Coefficients → Coefficients → Direction
line_of n e = record { x = minor n.b n.c e.b e.c; y = minor n.c n.a e.c e.a; z = minor n.a n.b e.a e.b }

-- neither is 0, and the one is the other times a number above 0
abbrev pub is_same_direction : Direction → Direction → Bool
is_same_direction u v = is_parallel u v && int_lt (pos 0) (dot_product u v)

-- neither is 0, and the one is the other times a number below 0
abbrev pub is_opposite_direction : Direction → Direction → Bool
is_opposite_direction u v = is_parallel u v && int_lt (dot_product u v) (pos 0)
