-- Surfaces that are written out.
use Rattle.std.proofs.Common.{◌≡◌, ℕ, true, false, List, [], ◌∷◌, ◌++◌, map, flat_map, eqb, refl, sym, ◌∙◌, true≢false, arith, ℤ, pos, negsuc}
use Rattle.std.proofs.lemmas.Bool.Decides.{Decides-eqb}
use Rattle.plane_predicate.specs.declared.unit.Unit.TheVariants.{Whole, Half}
use Rattle.plane_predicate.specs.Space.{Coordinates, IsInWorld}
use Rattle.plane_predicate.proofs.lemmas.IntegerRing.{sums}
use Rattle.closed_surface.specs.Ways.{Direction}
use Rattle.closed_surface.specs.Closed.{Edge, edges_of, corners_at, count_of_edges_along, count_of_edges_against, is_corner, IsClosedSurface}

abbrev point : ℤ → ℤ → ℤ → ℤ → Coordinates
point x y z w = record { x = x; y = y; z = z; w = w }

abbrev whole : ℤ → ℤ → ℤ → Coordinates
whole x y z = point x y z (pos 1)

abbrev to_x : Direction
to_x = record { x = pos 1; y = pos 0; z = pos 0 }

abbrev to_z : Direction
to_z = record { x = pos 0; y = pos 0; z = pos 1 }

abbrev from_z : Direction
from_z = record { x = pos 0; y = pos 0; z = negsuc 2 }

abbrev all_edges : List Coordinates → List (List ℕ) → List Edge
all_edges vertices faces = flat_map edges_of (map (corners_at vertices) faces)

abbrev Run : List Coordinates → List (List ℕ) → Coordinates → Direction → ℕ → ℕ → Type 0
Run vertices faces q v one other = (count_of_edges_along (all_edges vertices faces) q v ≡ one) × (count_of_edges_against (all_edges vertices faces) q v ≡ other)

-- ---- a box from (0, 0, 0) to (2, 2, 2), and one more vertex in the middle of its first edge
abbrev box : List Coordinates
box =
    whole (pos 0) (pos 0) (pos 0) ∷ whole (pos 2) (pos 0) (pos 0) ∷ whole (pos 2) (pos 2) (pos 0) ∷ whole (pos 0) (pos 2) (pos 0)
    ∷ whole (pos 0) (pos 0) (pos 2) ∷ whole (pos 2) (pos 0) (pos 2) ∷ whole (pos 2) (pos 2) (pos 2) ∷ whole (pos 0) (pos 2) (pos 2)
    ∷ whole (pos 1) (pos 0) (pos 0) ∷ []

abbrev low : List ℕ
low = 0 ∷ 3 ∷ 2 ∷ 1 ∷ []

abbrev front : List ℕ
front = 0 ∷ 1 ∷ 5 ∷ 4 ∷ []

abbrev others : List (List ℕ)
others = (4 ∷ 5 ∷ 6 ∷ 7 ∷ []) ∷ (1 ∷ 2 ∷ 6 ∷ 5 ∷ []) ∷ (2 ∷ 3 ∷ 7 ∷ 6 ∷ []) ∷ (0 ∷ 4 ∷ 7 ∷ 3 ∷ []) ∷ []

-- in the middle of an edge, nearer to its end, on a vertical edge, inside a face, outside
box_edge : Run box (low ∷ front ∷ others) (whole (pos 1) (pos 0) (pos 0)) to_x 1 1
box_edge = (refl, refl)

box_edge_near_its_end : Run box (low ∷ front ∷ others) (point (pos 399) (pos 0) (pos 0) (pos 200)) to_x 1 1
box_edge_near_its_end = (refl, refl)

box_upright_edge : Run box (low ∷ front ∷ others) (whole (pos 2) (pos 2) (pos 1)) from_z 1 1
box_upright_edge = (refl, refl)

box_face : Run box (low ∷ front ∷ others) (whole (pos 1) (pos 1) (pos 0)) to_x 0 0
box_face = (refl, refl)

box_on_the_line_past_the_edge : Run box (low ∷ front ∷ others) (whole (pos 3) (pos 0) (pos 0)) to_x 0 0
box_on_the_line_past_the_edge = (refl, refl)

box_across_the_edge : Run box (low ∷ front ∷ others) (whole (pos 1) (pos 0) (pos 0)) to_z 0 0
box_across_the_edge = (refl, refl)

-- ---- a step: x from 0 to 2 up to 1, and x from 2 to 4 up to 2; y from 0 to 2. The corner (2, 0, 1) lies in the middle of an
-- edge of the face in front on the right, and (2, 0, 0) in the middle of one of the face below
abbrev step : List Coordinates
step =
    whole (pos 0) (pos 0) (pos 0) ∷ whole (pos 2) (pos 0) (pos 0) ∷ whole (pos 4) (pos 0) (pos 0)
    ∷ whole (pos 0) (pos 2) (pos 0) ∷ whole (pos 2) (pos 2) (pos 0) ∷ whole (pos 4) (pos 2) (pos 0)
    ∷ whole (pos 0) (pos 0) (pos 1) ∷ whole (pos 2) (pos 0) (pos 1) ∷ whole (pos 0) (pos 2) (pos 1) ∷ whole (pos 2) (pos 2) (pos 1)
    ∷ whole (pos 2) (pos 0) (pos 2) ∷ whole (pos 4) (pos 0) (pos 2) ∷ whole (pos 2) (pos 2) (pos 2) ∷ whole (pos 4) (pos 2) (pos 2) ∷ []

abbrev step_faces : List (List ℕ)
step_faces =
    (0 ∷ 3 ∷ 5 ∷ 2 ∷ []) ∷ (6 ∷ 7 ∷ 9 ∷ 8 ∷ []) ∷ (10 ∷ 11 ∷ 13 ∷ 12 ∷ []) ∷ (0 ∷ 6 ∷ 8 ∷ 3 ∷ []) ∷ (7 ∷ 10 ∷ 12 ∷ 9 ∷ [])
    ∷ (2 ∷ 5 ∷ 13 ∷ 11 ∷ []) ∷ (0 ∷ 1 ∷ 7 ∷ 6 ∷ []) ∷ (1 ∷ 2 ∷ 11 ∷ 10 ∷ []) ∷ (4 ∷ 3 ∷ 8 ∷ 9 ∷ []) ∷ (5 ∷ 4 ∷ 12 ∷ 13 ∷ []) ∷ []

-- both halves of the edge in which a corner lies, and both of the one below
step_below_the_corner : Run step step_faces (point (pos 4) (pos 0) (pos 1) (pos 2)) to_z 1 1
step_below_the_corner = (refl, refl)

step_above_the_corner : Run step step_faces (point (pos 4) (pos 0) (pos 3) (pos 2)) to_z 1 1
step_above_the_corner = (refl, refl)

step_left_of_the_corner : Run step step_faces (whole (pos 1) (pos 0) (pos 0)) to_x 1 1
step_left_of_the_corner = (refl, refl)

step_right_of_the_corner : Run step step_faces (whole (pos 3) (pos 0) (pos 0)) to_x 1 1
step_right_of_the_corner = (refl, refl)

-- at the corner itself only the edge in whose middle it lies runs through, and nothing is asked there
step_at_the_corner : Run step step_faces (whole (pos 2) (pos 0) (pos 1)) to_z 0 1
step_at_the_corner = (refl, refl)

step_corner : is_corner (map (corners_at step) step_faces) (whole (pos 2) (pos 0) (pos 1)) ≡ true
step_corner = refl

-- ---- two boxes, of which the second stands at the edge of the first from (2, 2, 0) to (2, 2, 2)
abbrev boxes : List Coordinates
boxes =
    whole (pos 0) (pos 0) (pos 0) ∷ whole (pos 2) (pos 0) (pos 0) ∷ whole (pos 2) (pos 2) (pos 0) ∷ whole (pos 0) (pos 2) (pos 0)
    ∷ whole (pos 0) (pos 0) (pos 2) ∷ whole (pos 2) (pos 0) (pos 2) ∷ whole (pos 2) (pos 2) (pos 2) ∷ whole (pos 0) (pos 2) (pos 2)
    ∷ whole (pos 4) (pos 2) (pos 0) ∷ whole (pos 4) (pos 4) (pos 0) ∷ whole (pos 2) (pos 4) (pos 0)
    ∷ whole (pos 4) (pos 2) (pos 2) ∷ whole (pos 4) (pos 4) (pos 2) ∷ whole (pos 2) (pos 4) (pos 2) ∷ []

abbrev boxes_faces : List (List ℕ)
boxes_faces =
    low ∷ front ∷ others
    ++ ((2 ∷ 10 ∷ 9 ∷ 8 ∷ []) ∷ (6 ∷ 11 ∷ 12 ∷ 13 ∷ []) ∷ (2 ∷ 8 ∷ 11 ∷ 6 ∷ []) ∷ (8 ∷ 9 ∷ 12 ∷ 11 ∷ []) ∷ (9 ∷ 10 ∷ 13 ∷ 12 ∷ []) ∷ (2 ∷ 6 ∷ 13 ∷ 10 ∷ []) ∷ [])

boxes_shared_edge : Run boxes boxes_faces (whole (pos 2) (pos 2) (pos 1)) to_z 2 2
boxes_shared_edge = (refl, refl)

boxes_own_edge : Run boxes boxes_faces (whole (pos 4) (pos 4) (pos 1)) to_z 1 1
boxes_own_edge = (refl, refl)

-- ---- surfaces that are not closed: at a point of the first edge
differ : (n m : ℕ) → n ≡ m → eqb n m ≡ false → ⊥
differ n m e h = true≢false (sym ((Decides-eqb n m).1 e) ∙ h)

middle_in_world : IsInWorld (whole (pos 1) (pos 0) (pos 0))
middle_in_world = record { weight = omega (arith, sums); x_size = omega arith; y_size = omega arith; z_size = omega arith }

later_in_world : IsInWorld (point (pos 3) (pos 0) (pos 0) (pos 2))
later_in_world = record { weight = omega (arith, sums); x_size = omega arith; y_size = omega arith; z_size = omega arith }

-- a face is dropped: one edge is left
dropped : Run box (front ∷ others) (whole (pos 1) (pos 0) (pos 0)) to_x 1 0
dropped = (refl, refl)

dropped_is_open : IsClosedSurface Whole box (front ∷ others) → ⊥
dropped_is_open h = differ 1 0 (h (whole (pos 1) (pos 0) (pos 0)) to_x middle_in_world refl) refl

-- one is given twice
twice : Run box (low ∷ low ∷ front ∷ others) (whole (pos 1) (pos 0) (pos 0)) to_x 1 2
twice = (refl, refl)

twice_is_open : IsClosedSurface Whole box (low ∷ low ∷ front ∷ others) → ⊥
twice_is_open h = differ 1 2 (h (whole (pos 1) (pos 0) (pos 0)) to_x middle_in_world refl) refl

-- one is turned round
turned : Run box ((0 ∷ 1 ∷ 2 ∷ 3 ∷ []) ∷ front ∷ others) (whole (pos 1) (pos 0) (pos 0)) to_x 2 0
turned = (refl, refl)

turned_is_open : IsClosedSurface Whole box ((0 ∷ 1 ∷ 2 ∷ 3 ∷ []) ∷ front ∷ others) → ⊥
turned_is_open h = differ 2 0 (h (whole (pos 1) (pos 0) (pos 0)) to_x middle_in_world refl) refl

-- a corner is moved along its edge: from (2, 0, 0) to (1, 0, 0)
moved : Run box (low ∷ (0 ∷ 8 ∷ 5 ∷ 4 ∷ []) ∷ others) (point (pos 3) (pos 0) (pos 0) (pos 2)) to_x 0 1
moved = (refl, refl)

moved_is_open : IsClosedSurface Whole box (low ∷ (0 ∷ 8 ∷ 5 ∷ 4 ∷ []) ∷ others) → ⊥
moved_is_open h = differ 0 1 (h (point (pos 3) (pos 0) (pos 0) (pos 2)) to_x later_in_world refl) refl

-- in half units the point (1, 0, 0) is (2, 0, 0) in grid steps
half_is_open : IsClosedSurface Half box (front ∷ others) → ⊥
half_is_open h = differ 1 0 (h (whole (pos 1) (pos 0) (pos 0)) to_x (record { weight = omega (arith, sums); x_size = omega arith; y_size = omega arith; z_size = omega arith }) refl) refl
