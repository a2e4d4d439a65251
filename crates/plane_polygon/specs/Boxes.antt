-- The polygon that a plane has in the world box.
use Rattle.std.specs.Prelude.{not, if◌then◌else◌, List, [], ◌∷◌, ℤ, pos, negsuc}
use Rattle.std.specs.Ordering.{int_eq}
use Rattle.plane_predicate.specs.Space.{Coefficients}
use Rattle.plane_polygon.specs.declared.classes.Class.{Class}
use Rattle.plane_polygon.specs.declared.classes.Class.TheVariants.{Behind, Ahead, On, Across}
use Rattle.plane_polygon.specs.Polygons.{Outline}
use Rattle.plane_polygon.specs.Parts.{class_of, part_behind}

-- a plane of the world box: behind it are the points whose coordinate is below 4096, or above -4096
abbrev pub box_plane : ℤ → ℤ → ℤ → Coefficients
box_plane a b c = record { a = a; b = b; c = c; d = pos 4096 }

-- the wall of the world box at its greatest x, seen from outside
abbrev pub high_x : Coefficients
high_x = box_plane (pos 1) (pos 0) (pos 0)

-- the wall at its least x
abbrev pub low_x : Coefficients
low_x = box_plane (negsuc 0) (pos 0) (pos 0)

-- the wall at its greatest y
abbrev pub high_y : Coefficients
high_y = box_plane (pos 0) (pos 1) (pos 0)

-- the wall at its least y
abbrev pub low_y : Coefficients
low_y = box_plane (pos 0) (negsuc 0) (pos 0)

-- the wall at its greatest z
abbrev pub high_z : Coefficients
high_z = box_plane (pos 0) (pos 0) (pos 1)

-- the wall at its least z
abbrev pub low_z : Coefficients
low_z = box_plane (pos 0) (pos 0) (negsuc 0)

-- the part behind m where the polygon is across m, else the polygon
abbrev pub outline_trimmed_to : Class → Outline → Coefficients → Outline
outline_trimmed_to Across s m = part_behind s m
outline_trimmed_to Behind s m = s
outline_trimmed_to Ahead s m = s
outline_trimmed_to On s m = s

-- the part of the polygon behind m, where m cuts it, else the polygon
abbrev pub trimmed_outline : Outline → Coefficients → Outline
trimmed_outline s m = outline_trimmed_to (class_of s m) s m

-- four edges in this order where a number of a direction is 0 or above, and the other way round where it is below: so they
-- go counterclockwise, seen from ahead
abbrev pub counterclockwise_edges : ℤ → Coefficients → Coefficients → Coefficients → Coefficients → List Coefficients
counterclockwise_edges (pos n) p q r s = p ∷ q ∷ r ∷ s ∷ []
counterclockwise_edges (negsuc n) p q r s = p ∷ s ∷ r ∷ q ∷ []

-- the four box planes of y and z, then cut by those of x, for a plane whose direction has x alone
abbrev pub box_over_x : Coefficients → Outline
box_over_x m = trimmed_outline (trimmed_outline (record { plane = m; edges = counterclockwise_edges m.a low_y low_z high_y high_z }) high_x) low_x

-- the four box planes of x and z, then cut by those of y, for a plane whose direction has no z
abbrev pub box_over_y : Coefficients → Outline
box_over_y m = trimmed_outline (trimmed_outline (record { plane = m; edges = counterclockwise_edges m.b low_x high_z high_x low_z }) high_y) low_y

-- the four box planes of x and y, then cut by those of z, for a plane whose direction has a z
abbrev pub box_over_z : Coefficients → Outline
box_over_z m = trimmed_outline (trimmed_outline (record { plane = m; edges = counterclockwise_edges m.c low_x low_y high_x high_y }) high_z) low_z

-- the box polygon: over the last of x, y and z that the plane's direction has
abbrev pub box_outline : Coefficients → Outline
box_outline m =
    if not (int_eq m.c (pos 0)) then box_over_z m
    else if not (int_eq m.b (pos 0)) then box_over_y m
    else box_over_x m
