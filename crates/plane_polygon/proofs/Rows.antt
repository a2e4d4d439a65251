-- Box polygons, classes and parts that are written out.
use Rattle.std.proofs.Common.{◌≡◌, [], ◌∷◌, refl, ℤ, pos, negsuc}
use Rattle.plane_predicate.specs.Space.{Coefficients, Coordinates, opposite_of}
use Rattle.plane_polygon.specs.Parts.{corners, class_of, part_behind, part_ahead}
use Rattle.plane_polygon.specs.Boxes.{box_outline, low_x, high_x, low_y, high_y, low_z, high_z}
use Rattle.plane_polygon.specs.declared.classes.Class.TheVariants.{Behind, Ahead, On, Across}

abbrev plane : ℤ → ℤ → ℤ → ℤ → Coefficients
plane a b c d = record { a = a; b = b; c = c; d = d }

abbrev point : ℤ → ℤ → ℤ → ℤ → Coordinates
point x y z w = record { x = x; y = y; z = z; w = w }

abbrev ground : Coefficients
ground = plane (pos 0) (pos 0) (pos 1) (pos 0)

-- ---- box polygons
ground_box : box_outline ground ≡ record { plane = ground; edges = low_x ∷ low_y ∷ high_x ∷ high_y ∷ [] }
ground_box = refl

-- from below, the other way round
ceiling_box : box_outline (opposite_of ground) ≡ record { plane = opposite_of ground; edges = low_x ∷ high_y ∷ high_x ∷ low_y ∷ [] }
ceiling_box = refl

wall_y_box : box_outline (plane (pos 0) (pos 1) (pos 0) (pos 7)) ≡ record { plane = plane (pos 0) (pos 1) (pos 0) (pos 7); edges = low_x ∷ high_z ∷ high_x ∷ low_z ∷ [] }
wall_y_box = refl

wall_x_box : box_outline (plane (negsuc 0) (pos 0) (pos 0) (pos 7)) ≡ record { plane = plane (negsuc 0) (pos 0) (pos 0) (pos 7); edges = low_y ∷ high_z ∷ high_y ∷ low_z ∷ [] }
wall_x_box = refl

ground_corners : corners (box_outline ground) ≡ point (negsuc 4095) (negsuc 4095) (pos 0) (pos 1) ∷ point (pos 4096) (negsuc 4095) (pos 0) (pos 1) ∷ point (pos 4096) (pos 4096) (pos 0) (pos 1) ∷ point (negsuc 4095) (pos 4096) (pos 0) (pos 1) ∷ []
ground_corners = refl

-- through the middle, across all six sides of the box
abbrev slope : Coefficients
slope = plane (pos 1) (pos 1) (pos 1) (pos 0)

slope_box : box_outline slope ≡ record { plane = slope; edges = low_x ∷ high_z ∷ low_y ∷ high_x ∷ low_z ∷ high_y ∷ [] }
slope_box = refl

-- near a corner of the box, a triangle
abbrev nook : Coefficients
nook = plane (pos 1) (pos 1) (pos 1) (pos 12284)

nook_box : box_outline nook ≡ record { plane = nook; edges = high_x ∷ high_y ∷ high_z ∷ [] }
nook_box = refl

-- ---- classes
across_is : class_of (box_outline ground) (plane (pos 1) (pos 0) (pos 0) (pos 4095)) ≡ Across
across_is = refl

behind_is : class_of (box_outline ground) (plane (pos 0) (pos 0) (pos 1) (pos 1)) ≡ Behind
behind_is = refl

ahead_is : class_of (box_outline ground) (plane (pos 0) (pos 0) (pos 1) (negsuc 0)) ≡ Ahead
ahead_is = refl

on_is : class_of (box_outline ground) ground ≡ On
on_is = refl

on_from_below_is : class_of (box_outline ground) (opposite_of ground) ≡ On
on_from_below_is = refl

-- two corners are on the plane, and the other two behind it
touching_is : class_of (box_outline ground) high_x ≡ Behind
touching_is = refl

-- ---- parts
-- along a diagonal, through two corners: the edges that only touch the plane from the other side go
abbrev diagonal : Coefficients
diagonal = plane (pos 1) (negsuc 0) (pos 0) (pos 0)

diagonal_behind : part_behind (box_outline ground) diagonal ≡ record { plane = ground; edges = low_x ∷ diagonal ∷ high_y ∷ [] }
diagonal_behind = refl

diagonal_ahead : part_ahead (box_outline ground) diagonal ≡ record { plane = ground; edges = low_y ∷ high_x ∷ opposite_of diagonal ∷ [] }
diagonal_ahead = refl

-- through two edges
abbrev middle : Coefficients
middle = plane (pos 1) (pos 0) (pos 0) (pos 0)

middle_behind : part_behind (box_outline ground) middle ≡ record { plane = ground; edges = low_x ∷ low_y ∷ middle ∷ high_y ∷ [] }
middle_behind = refl

middle_ahead : part_ahead (box_outline ground) middle ≡ record { plane = ground; edges = low_y ∷ high_x ∷ high_y ∷ opposite_of middle ∷ [] }
middle_ahead = refl
