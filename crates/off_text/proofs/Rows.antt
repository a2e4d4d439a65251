-- Worked rows, computed by the definitions: the faces of a box of 1 by 2 by 3, of a centred cube of 3 in half units, and of a
-- cube from which a cube is cut at a corner.
use Rattle.std.proofs.Common.{◌≡◌, List, [], ◌∷◌, map, refl, arith, ℤ, pos, negsuc}
use Rattle.plane_predicate.specs.declared.unit.Unit.TheVariants.{Half}
use Rattle.plane_predicate.specs.Space.{Coefficients, Coordinates}
use Rattle.plane_polygon.specs.Polygons.{Outline}
use Rattle.plane_polygon.specs.Parts.{corners}
use Rattle.off_text.specs.Texts.{corners_in_units, vertices_of, numbered_faces}
use Rattle.off_text.specs.Vertices.{AreVerticesOf}

abbrev plane : ℤ → ℤ → ℤ → ℤ → Coefficients
plane a b c d = record { a = a; b = b; c = c; d = d }

abbrev point : ℤ → ℤ → ℤ → ℤ → Coordinates
point x y z w = record { x = x; y = y; z = z; w = w }

abbrev polygon : Coefficients → List Coefficients → Outline
polygon plane edges = record { plane = plane; edges = edges }

-- each polygon is listed from another edge on than the face in the text
abbrev box_polygons : List Outline
box_polygons =
    polygon (plane (negsuc 0) (pos 0) (pos 0) (pos 0)) (plane (pos 0) (negsuc 0) (pos 0) (pos 0) ∷ plane (pos 0) (pos 0) (pos 1) (pos 3) ∷ plane (pos 0) (pos 1) (pos 0) (pos 2) ∷ plane (pos 0) (pos 0) (negsuc 0) (pos 0) ∷ [])
    ∷ polygon (plane (pos 1) (pos 0) (pos 0) (pos 1)) (plane (pos 0) (pos 0) (pos 1) (pos 3) ∷ plane (pos 0) (negsuc 0) (pos 0) (pos 0) ∷ plane (pos 0) (pos 0) (negsuc 0) (pos 0) ∷ plane (pos 0) (pos 1) (pos 0) (pos 2) ∷ [])
    ∷ polygon (plane (pos 0) (negsuc 0) (pos 0) (pos 0)) (plane (pos 0) (pos 0) (negsuc 0) (pos 0) ∷ plane (pos 1) (pos 0) (pos 0) (pos 1) ∷ plane (pos 0) (pos 0) (pos 1) (pos 3) ∷ plane (negsuc 0) (pos 0) (pos 0) (pos 0) ∷ [])
    ∷ polygon (plane (pos 0) (pos 1) (pos 0) (pos 2)) (plane (pos 1) (pos 0) (pos 0) (pos 1) ∷ plane (pos 0) (pos 0) (negsuc 0) (pos 0) ∷ plane (negsuc 0) (pos 0) (pos 0) (pos 0) ∷ plane (pos 0) (pos 0) (pos 1) (pos 3) ∷ [])
    ∷ polygon (plane (pos 0) (pos 0) (negsuc 0) (pos 0)) (plane (negsuc 0) (pos 0) (pos 0) (pos 0) ∷ plane (pos 0) (pos 1) (pos 0) (pos 2) ∷ plane (pos 1) (pos 0) (pos 0) (pos 1) ∷ plane (pos 0) (negsuc 0) (pos 0) (pos 0) ∷ [])
    ∷ polygon (plane (pos 0) (pos 0) (pos 1) (pos 3)) (plane (pos 0) (pos 1) (pos 0) (pos 2) ∷ plane (negsuc 0) (pos 0) (pos 0) (pos 0) ∷ plane (pos 0) (negsuc 0) (pos 0) (pos 0) ∷ plane (pos 1) (pos 0) (pos 0) (pos 1) ∷ [])
    ∷ []

box_vertices : vertices_of (map corners box_polygons) ≡ point (pos 0) (pos 0) (pos 0) (pos 1) ∷ point (pos 0) (pos 0) (pos 3) (pos 1) ∷ point (pos 0) (pos 2) (pos 3) (pos 1) ∷ point (pos 0) (pos 2) (pos 0) (pos 1) ∷ point (pos 1) (pos 0) (pos 0) (pos 1) ∷ point (pos 1) (pos 2) (pos 0) (pos 1) ∷ point (pos 1) (pos 2) (pos 3) (pos 1) ∷ point (pos 1) (pos 0) (pos 3) (pos 1) ∷ []
box_vertices = refl

box_faces : numbered_faces (map corners box_polygons) ≡ (0 ∷ 1 ∷ 2 ∷ 3 ∷ []) ∷ (4 ∷ 5 ∷ 6 ∷ 7 ∷ []) ∷ (0 ∷ 4 ∷ 7 ∷ 1 ∷ []) ∷ (3 ∷ 2 ∷ 6 ∷ 5 ∷ []) ∷ (0 ∷ 3 ∷ 5 ∷ 4 ∷ []) ∷ (1 ∷ 7 ∷ 6 ∷ 2 ∷ []) ∷ []
box_faces = refl

-- in half units: a cube from -3 to 3 grid steps
abbrev centred_polygons : List Outline
centred_polygons =
    polygon (plane (negsuc 0) (pos 0) (pos 0) (pos 3)) (plane (pos 0) (negsuc 0) (pos 0) (pos 3) ∷ plane (pos 0) (pos 0) (pos 1) (pos 3) ∷ plane (pos 0) (pos 1) (pos 0) (pos 3) ∷ plane (pos 0) (pos 0) (negsuc 0) (pos 3) ∷ [])
    ∷ polygon (plane (pos 1) (pos 0) (pos 0) (pos 3)) (plane (pos 0) (pos 0) (pos 1) (pos 3) ∷ plane (pos 0) (negsuc 0) (pos 0) (pos 3) ∷ plane (pos 0) (pos 0) (negsuc 0) (pos 3) ∷ plane (pos 0) (pos 1) (pos 0) (pos 3) ∷ [])
    ∷ polygon (plane (pos 0) (negsuc 0) (pos 0) (pos 3)) (plane (pos 0) (pos 0) (negsuc 0) (pos 3) ∷ plane (pos 1) (pos 0) (pos 0) (pos 3) ∷ plane (pos 0) (pos 0) (pos 1) (pos 3) ∷ plane (negsuc 0) (pos 0) (pos 0) (pos 3) ∷ [])
    ∷ polygon (plane (pos 0) (pos 1) (pos 0) (pos 3)) (plane (pos 1) (pos 0) (pos 0) (pos 3) ∷ plane (pos 0) (pos 0) (negsuc 0) (pos 3) ∷ plane (negsuc 0) (pos 0) (pos 0) (pos 3) ∷ plane (pos 0) (pos 0) (pos 1) (pos 3) ∷ [])
    ∷ polygon (plane (pos 0) (pos 0) (negsuc 0) (pos 3)) (plane (negsuc 0) (pos 0) (pos 0) (pos 3) ∷ plane (pos 0) (pos 1) (pos 0) (pos 3) ∷ plane (pos 1) (pos 0) (pos 0) (pos 3) ∷ plane (pos 0) (negsuc 0) (pos 0) (pos 3) ∷ [])
    ∷ polygon (plane (pos 0) (pos 0) (pos 1) (pos 3)) (plane (pos 0) (pos 1) (pos 0) (pos 3) ∷ plane (negsuc 0) (pos 0) (pos 0) (pos 3) ∷ plane (pos 0) (negsuc 0) (pos 0) (pos 3) ∷ plane (pos 1) (pos 0) (pos 0) (pos 3) ∷ [])
    ∷ []

centred_vertices : vertices_of (map (corners_in_units Half) centred_polygons) ≡ point (negsuc 2) (negsuc 2) (negsuc 2) (pos 2) ∷ point (negsuc 2) (negsuc 2) (pos 3) (pos 2) ∷ point (negsuc 2) (pos 3) (pos 3) (pos 2) ∷ point (negsuc 2) (pos 3) (negsuc 2) (pos 2) ∷ point (pos 3) (negsuc 2) (negsuc 2) (pos 2) ∷ point (pos 3) (pos 3) (negsuc 2) (pos 2) ∷ point (pos 3) (pos 3) (pos 3) (pos 2) ∷ point (pos 3) (negsuc 2) (pos 3) (pos 2) ∷ []
centred_vertices = refl

centred_faces : numbered_faces (map (corners_in_units Half) centred_polygons) ≡ (0 ∷ 1 ∷ 2 ∷ 3 ∷ []) ∷ (4 ∷ 5 ∷ 6 ∷ 7 ∷ []) ∷ (0 ∷ 4 ∷ 7 ∷ 1 ∷ []) ∷ (3 ∷ 2 ∷ 6 ∷ 5 ∷ []) ∷ (0 ∷ 3 ∷ 5 ∷ 4 ∷ []) ∷ (1 ∷ 7 ∷ 6 ∷ 2 ∷ []) ∷ []
centred_faces = refl

abbrev notch_polygons : List Outline
notch_polygons =
    polygon (plane (negsuc 0) (pos 0) (pos 0) (pos 0)) (plane (pos 0) (negsuc 0) (pos 0) (pos 0) ∷ plane (pos 0) (pos 0) (pos 1) (pos 2) ∷ plane (pos 0) (pos 1) (pos 0) (pos 2) ∷ plane (pos 0) (pos 0) (negsuc 0) (pos 0) ∷ [])
    ∷ polygon (plane (pos 1) (pos 0) (pos 0) (pos 2)) (plane (pos 0) (pos 0) (pos 1) (pos 1) ∷ plane (pos 0) (negsuc 0) (pos 0) (negsuc 0) ∷ plane (pos 0) (pos 0) (negsuc 0) (pos 0) ∷ plane (pos 0) (pos 1) (pos 0) (pos 2) ∷ [])
    ∷ polygon (plane (pos 1) (pos 0) (pos 0) (pos 2)) (plane (pos 0) (pos 0) (negsuc 0) (pos 0) ∷ plane (pos 0) (pos 1) (pos 0) (pos 1) ∷ plane (pos 0) (pos 0) (pos 1) (pos 2) ∷ plane (pos 0) (negsuc 0) (pos 0) (pos 0) ∷ [])
    ∷ polygon (plane (pos 0) (negsuc 0) (pos 0) (pos 0)) (plane (pos 0) (pos 0) (pos 1) (pos 2) ∷ plane (negsuc 0) (pos 0) (pos 0) (negsuc 0) ∷ plane (pos 0) (pos 0) (negsuc 0) (pos 0) ∷ plane (pos 1) (pos 0) (pos 0) (pos 2) ∷ [])
    ∷ polygon (plane (pos 0) (negsuc 0) (pos 0) (pos 0)) (plane (pos 0) (pos 0) (negsuc 0) (pos 0) ∷ plane (pos 1) (pos 0) (pos 0) (pos 1) ∷ plane (pos 0) (pos 0) (pos 1) (pos 2) ∷ plane (negsuc 0) (pos 0) (pos 0) (pos 0) ∷ [])
    ∷ polygon (plane (pos 0) (pos 1) (pos 0) (pos 2)) (plane (pos 1) (pos 0) (pos 0) (pos 2) ∷ plane (pos 0) (pos 0) (negsuc 0) (pos 0) ∷ plane (negsuc 0) (pos 0) (pos 0) (negsuc 0) ∷ plane (pos 0) (pos 0) (pos 1) (pos 1) ∷ [])
    ∷ polygon (plane (pos 0) (pos 1) (pos 0) (pos 2)) (plane (negsuc 0) (pos 0) (pos 0) (pos 0) ∷ plane (pos 0) (pos 0) (pos 1) (pos 2) ∷ plane (pos 1) (pos 0) (pos 0) (pos 1) ∷ plane (pos 0) (pos 0) (negsuc 0) (pos 0) ∷ [])
    ∷ polygon (plane (pos 0) (pos 0) (negsuc 0) (pos 0)) (plane (pos 1) (pos 0) (pos 0) (pos 2) ∷ plane (pos 0) (negsuc 0) (pos 0) (negsuc 0) ∷ plane (negsuc 0) (pos 0) (pos 0) (negsuc 0) ∷ plane (pos 0) (pos 1) (pos 0) (pos 2) ∷ [])
    ∷ polygon (plane (pos 0) (pos 0) (negsuc 0) (pos 0)) (plane (negsuc 0) (pos 0) (pos 0) (negsuc 0) ∷ plane (pos 0) (pos 1) (pos 0) (pos 1) ∷ plane (pos 1) (pos 0) (pos 0) (pos 2) ∷ plane (pos 0) (negsuc 0) (pos 0) (pos 0) ∷ [])
    ∷ polygon (plane (pos 0) (pos 0) (negsuc 0) (pos 0)) (plane (pos 1) (pos 0) (pos 0) (pos 1) ∷ plane (pos 0) (negsuc 0) (pos 0) (pos 0) ∷ plane (negsuc 0) (pos 0) (pos 0) (pos 0) ∷ plane (pos 0) (pos 1) (pos 0) (pos 2) ∷ [])
    ∷ polygon (plane (pos 0) (pos 0) (pos 1) (pos 2)) (plane (pos 0) (negsuc 0) (pos 0) (pos 0) ∷ plane (pos 1) (pos 0) (pos 0) (pos 2) ∷ plane (pos 0) (pos 1) (pos 0) (pos 1) ∷ plane (negsuc 0) (pos 0) (pos 0) (negsuc 0) ∷ [])
    ∷ polygon (plane (pos 0) (pos 0) (pos 1) (pos 2)) (plane (pos 0) (pos 1) (pos 0) (pos 2) ∷ plane (negsuc 0) (pos 0) (pos 0) (pos 0) ∷ plane (pos 0) (negsuc 0) (pos 0) (pos 0) ∷ plane (pos 1) (pos 0) (pos 0) (pos 1) ∷ [])
    ∷ polygon (plane (pos 1) (pos 0) (pos 0) (pos 1)) (plane (pos 0) (pos 0) (negsuc 0) (negsuc 0) ∷ plane (pos 0) (pos 1) (pos 0) (pos 2) ∷ plane (pos 0) (pos 0) (pos 1) (pos 2) ∷ plane (pos 0) (negsuc 0) (pos 0) (negsuc 0) ∷ [])
    ∷ polygon (plane (pos 0) (pos 1) (pos 0) (pos 1)) (plane (pos 1) (pos 0) (pos 0) (pos 2) ∷ plane (pos 0) (pos 0) (negsuc 0) (negsuc 0) ∷ plane (negsuc 0) (pos 0) (pos 0) (negsuc 0) ∷ plane (pos 0) (pos 0) (pos 1) (pos 2) ∷ [])
    ∷ polygon (plane (pos 0) (pos 0) (pos 1) (pos 1)) (plane (pos 0) (negsuc 0) (pos 0) (negsuc 0) ∷ plane (pos 1) (pos 0) (pos 0) (pos 2) ∷ plane (pos 0) (pos 1) (pos 0) (pos 2) ∷ plane (negsuc 0) (pos 0) (pos 0) (negsuc 0) ∷ [])
    ∷ []

notch_vertices : vertices_of (map corners notch_polygons) ≡ point (pos 0) (pos 0) (pos 0) (pos 1) ∷ point (pos 0) (pos 0) (pos 2) (pos 1) ∷ point (pos 0) (pos 2) (pos 2) (pos 1) ∷ point (pos 0) (pos 2) (pos 0) (pos 1) ∷ point (pos 2) (pos 1) (pos 0) (pos 1) ∷ point (pos 2) (pos 2) (pos 0) (pos 1) ∷ point (pos 2) (pos 2) (pos 1) (pos 1) ∷ point (pos 2) (pos 1) (pos 1) (pos 1) ∷ point (pos 2) (pos 0) (pos 0) (pos 1) ∷ point (pos 2) (pos 1) (pos 2) (pos 1) ∷ point (pos 2) (pos 0) (pos 2) (pos 1) ∷ point (pos 1) (pos 0) (pos 0) (pos 1) ∷ point (pos 1) (pos 0) (pos 2) (pos 1) ∷ point (pos 1) (pos 2) (pos 0) (pos 1) ∷ point (pos 1) (pos 2) (pos 1) (pos 1) ∷ point (pos 1) (pos 2) (pos 2) (pos 1) ∷ point (pos 1) (pos 1) (pos 0) (pos 1) ∷ point (pos 1) (pos 1) (pos 2) (pos 1) ∷ point (pos 1) (pos 1) (pos 1) (pos 1) ∷ []
notch_vertices = refl

notch_faces : numbered_faces (map corners notch_polygons) ≡ (0 ∷ 1 ∷ 2 ∷ 3 ∷ []) ∷ (4 ∷ 5 ∷ 6 ∷ 7 ∷ []) ∷ (8 ∷ 4 ∷ 9 ∷ 10 ∷ []) ∷ (11 ∷ 8 ∷ 10 ∷ 12 ∷ []) ∷ (0 ∷ 11 ∷ 12 ∷ 1 ∷ []) ∷ (13 ∷ 14 ∷ 6 ∷ 5 ∷ []) ∷ (3 ∷ 2 ∷ 15 ∷ 13 ∷ []) ∷ (16 ∷ 13 ∷ 5 ∷ 4 ∷ []) ∷ (11 ∷ 16 ∷ 4 ∷ 8 ∷ []) ∷ (0 ∷ 3 ∷ 13 ∷ 11 ∷ []) ∷ (12 ∷ 10 ∷ 9 ∷ 17 ∷ []) ∷ (1 ∷ 12 ∷ 15 ∷ 2 ∷ []) ∷ (18 ∷ 14 ∷ 15 ∷ 17 ∷ []) ∷ (18 ∷ 17 ∷ 9 ∷ 7 ∷ []) ∷ (18 ∷ 7 ∷ 6 ∷ 14 ∷ []) ∷ []
notch_faces = refl

-- one point with two lists of numbers, and a vertex that no face names
one_point_twice : AreVerticesOf ((0 ∷ 1 ∷ []) ∷ []) (point (pos 1) (pos 0) (pos 0) (pos 1) ∷ point (pos 2) (pos 0) (pos 0) (pos 2) ∷ []) → ⊥
one_point_twice h = let e = h.different 0 1 (omega arith) (omega arith) refl in omega (arith, e)

of_no_face : AreVerticesOf [] (point (pos 1) (pos 0) (pos 0) (pos 1) ∷ []) → ⊥
of_no_face h = let c = h.used 0 (omega arith) in omega (arith, c.1)
