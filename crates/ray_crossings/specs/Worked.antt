-- A worked crossing: a triangle whose corners go counterclockwise seen from above, and the ends of a way through it. And a worked
-- limit: a cube, and a point beside it.
use Rattle.std.specs.Prelude.{List, [], ◌∷◌, pos, negsuc}
use Rattle.plane_predicate.specs.Space.{Coefficients, Coordinates}
use Rattle.csg_tree.specs.HalfSpaceTrees.{Tree, leaf}

-- the corners (0, 0, 0), (4, 0, 0) and (0, 4, 0)
abbrev pub worked_triangle : List Coordinates
worked_triangle =
    record { x = pos 0; y = pos 0; z = pos 0; w = pos 1 }
    ∷ record { x = pos 4; y = pos 0; z = pos 0; w = pos 1 }
    ∷ record { x = pos 0; y = pos 4; z = pos 0; w = pos 1 } ∷ []

-- the point (1, 1, -1)
abbrev pub point_below : Coordinates
point_below = record { x = pos 1; y = pos 1; z = negsuc 0; w = pos 1 }

-- the point (1, 1, 1)
abbrev pub point_above : Coordinates
point_above = record { x = pos 1; y = pos 1; z = pos 1; w = pos 1 }

-- the plane of greatest x of the cube from 0 to 1 along each axis, seen from outside
abbrev pub greatest_x : Coefficients
greatest_x = record { a = pos 1; b = pos 0; c = pos 0; d = pos 1 }

-- its plane of least x
abbrev pub least_x : Coefficients
least_x = record { a = negsuc 0; b = pos 0; c = pos 0; d = pos 0 }

-- its plane of greatest y
abbrev pub greatest_y : Coefficients
greatest_y = record { a = pos 0; b = pos 1; c = pos 0; d = pos 1 }

-- its plane of least y
abbrev pub least_y : Coefficients
least_y = record { a = pos 0; b = negsuc 0; c = pos 0; d = pos 0 }

-- its plane of greatest z
abbrev pub greatest_z : Coefficients
greatest_z = record { a = pos 0; b = pos 0; c = pos 1; d = pos 1 }

-- its plane of least z
abbrev pub least_z : Coefficients
least_z = record { a = pos 0; b = pos 0; c = negsuc 0; d = pos 0 }

-- that cube
abbrev pub worked_cube : Tree
worked_cube = leaf (greatest_x ∷ least_x ∷ greatest_y ∷ least_y ∷ greatest_z ∷ least_z ∷ [])

-- the point (2, 0, 0)
abbrev pub point_beside : Coordinates
point_beside = record { x = pos 2; y = pos 0; z = pos 0; w = pos 1 }
