-- Surfaces that are written out, worked by hand: a cube, two cubes that share a face, two that share an edge alone, and a
-- tetrahedron.
use Rattle.std.proofs.Common.{◌≡◌, ◌≢◌, ℕ, zero, suc, ◌<◌, Bool, true, false, List, [], ◌∷◌, ◌++◌, map, flat_map, length, slice_index_or, eqb, refl, sym, ◌∙◌, true≢false, arith, ℤ, pos, ◌-ℤ◌, ◌*ℤ◌, ◌<ℤ◌, negsuc, ◌*◌, ◌≤◌, unsigned_abs}
use Rattle.std.specs.List.{list_all}
use Rattle.std.proofs.Math.Nat.{eq-one_of_dvd-one}
use Rattle.std.proofs.lemmas.Bool.{and_parts}
use Rattle.std.proofs.lemmas.Bool.Decides.{Decides-eqb}
use Rattle.plane_predicate.specs.declared.unit.Unit.TheVariants.{Whole}
use Rattle.plane_predicate.specs.Space.{Coefficients, Coordinates, value, orientation_seen_from, opposite_of, IsPlane}
use Rattle.plane_predicate.proofs.lemmas.IntegerRing.{sums}
use Rattle.plane_predicate.proofs.lemmas.Polynomials.{var, num, plus, times, minus, ring}
use Rattle.plane_predicate.proofs.lemmas.Vectors.{Form, place, of_point, valueP}
use Rattle.csg_tree.specs.declared.op.Op.TheVariants.{Union}
use Rattle.csg_tree.specs.HalfSpaceTrees.{Tree, leaf, tree_join, sides_of}
use Rattle.bsp_tree.specs.Cells.{AllBehind}
use Rattle.closed_surface.specs.Ways.{Direction}
use Rattle.closed_surface.specs.Closed.{edges_of, corners_at, count_of_edges_along, count_of_edges_against}
use Rattle.off_text.specs.Boundaries.{grid_corner, FacesPlane, FaceCovers}
use Rattle.watertight.specs.Everywhere.{IsClosedAtEveryPoint}
use Rattle.watertight.specs.Pieces.{has_no_corner_within, count_of_edges_over}
use Rattle.closed_surface.proofs.lemmas.Numbers.{below_back}
use Rattle.watertight.specs.Overlaps.{ShareNoInnerPointInAPlane}
use Rattle.csg_tree.specs.Reach.{KeepsWithinReach, LeavesKeepWithinReach}
use Rattle.plane_predicate.specs.Indices.{index_after}

abbrev point : ℤ → ℤ → ℤ → ℤ → Coordinates
point x y z w = record { x = x; y = y; z = z; w = w }

abbrev whole : ℕ → ℕ → ℕ → Coordinates
whole x y z = point (pos x) (pos y) (pos z) (pos 1)

abbrev to_x : Direction
to_x = record { x = pos 1; y = pos 0; z = pos 0 }

-- how many edges run through the point along the direction, and how many against it
abbrev Run : List Coordinates → List (List ℕ) → Coordinates → Direction → ℕ → ℕ → Type 0
Run vertices faces q v one other =
    (count_of_edges_along (flat_map edges_of (map (corners_at vertices) faces)) q v ≡ one) × (count_of_edges_against (flat_map edges_of (map (corners_at vertices) faces)) q v ≡ other)

-- whether no corner is strictly between the two points, and how many edges run along the part from the one to the other, and
-- back
abbrev Part : List Coordinates → List (List ℕ) → Coordinates → Coordinates → Bool → ℕ → ℕ → Type 0
Part vertices faces p q free one other =
    (has_no_corner_within (map (corners_at vertices) faces) (p, q) ≡ free)
    × (count_of_edges_over (map (corners_at vertices) faces) (p, q) ≡ one) × (count_of_edges_over (map (corners_at vertices) faces) (q, p) ≡ other)

-- ---- a cube
abbrev cube : List Coordinates
cube = whole 0 0 0 ∷ whole 1 0 0 ∷ whole 1 1 0 ∷ whole 0 1 0 ∷ whole 0 0 1 ∷ whole 1 0 1 ∷ whole 1 1 1 ∷ whole 0 1 1 ∷ []

abbrev others : List (List ℕ)
others = (4 ∷ 5 ∷ 6 ∷ 7 ∷ []) ∷ (0 ∷ 1 ∷ 5 ∷ 4 ∷ []) ∷ (1 ∷ 2 ∷ 6 ∷ 5 ∷ []) ∷ (2 ∷ 3 ∷ 7 ∷ 6 ∷ []) ∷ (0 ∷ 4 ∷ 7 ∷ 3 ∷ []) ∷ []

abbrev cube_faces : List (List ℕ)
cube_faces = (0 ∷ 3 ∷ 2 ∷ 1 ∷ []) ∷ others

cube_edge : Part cube cube_faces (whole 0 0 0) (whole 1 0 0) true 1 1
cube_edge = (refl, refl, refl)

-- a part of an edge has no corner between its ends either
cube_half_edge : Part cube cube_faces (whole 0 0 0) (point (pos 1) (pos 0) (pos 0) (pos 2)) true 1 1
cube_half_edge = (refl, refl, refl)

-- a diagonal, a point, a part that goes on past the end of an edge, one off the line of the edge
cube_diagonal : Part cube cube_faces (whole 0 0 0) (whole 1 1 0) true 0 0
cube_diagonal = (refl, refl, refl)

cube_point : Part cube cube_faces (whole 0 0 0) (whole 0 0 0) true 0 0
cube_point = (refl, refl, refl)

cube_past_the_end : Part cube cube_faces (whole 0 0 0) (whole 2 0 0) false 0 0
cube_past_the_end = (refl, refl, refl)

cube_beside : Part cube cube_faces (whole 0 2 0) (whole 1 2 0) true 0 0
cube_beside = (refl, refl, refl)

-- in the middle of an edge, and on its line outside the world box
cube_through : Run cube cube_faces (point (pos 1) (pos 0) (pos 0) (pos 2)) to_x 1 1
cube_through = (refl, refl)

cube_far : Run cube cube_faces (whole 5000 0 0) to_x 0 0
cube_far = (refl, refl)

differ : (n m : ℕ) → n ≡ m → eqb n m ≡ false → ⊥
differ n m e h = true≢false (sym ((Decides-eqb n m).1 e) ∙ h)

-- without the face below, the cube is open at the middle of an edge of that face
open_cube : IsClosedAtEveryPoint cube others → ⊥
open_cube h = differ 1 0 (h (point (pos 1) (pos 0) (pos 0) (pos 2)) to_x (omega (arith, sums)) refl) refl

open_cube_edge : Part cube others (whole 0 0 0) (whole 1 0 0) true 1 0
open_cube_edge = (refl, refl, refl)

-- ---- two cubes that share a face: one face below both, and on the other sides a face of each
abbrev two_cubes : List Coordinates
two_cubes =
    whole 0 0 0 ∷ whole 1 0 0 ∷ whole 2 0 0 ∷ whole 0 1 0 ∷ whole 1 1 0 ∷ whole 2 1 0
    ∷ whole 0 0 1 ∷ whole 1 0 1 ∷ whole 2 0 1 ∷ whole 0 1 1 ∷ whole 1 1 1 ∷ whole 2 1 1 ∷ []

abbrev two_cubes_faces : List (List ℕ)
two_cubes_faces =
    (0 ∷ 3 ∷ 5 ∷ 2 ∷ []) ∷ (6 ∷ 7 ∷ 10 ∷ 9 ∷ []) ∷ (7 ∷ 8 ∷ 11 ∷ 10 ∷ []) ∷ (0 ∷ 1 ∷ 7 ∷ 6 ∷ []) ∷ (1 ∷ 2 ∷ 8 ∷ 7 ∷ [])
    ∷ (4 ∷ 3 ∷ 9 ∷ 10 ∷ []) ∷ (5 ∷ 4 ∷ 10 ∷ 11 ∷ []) ∷ (0 ∷ 6 ∷ 9 ∷ 3 ∷ []) ∷ (2 ∷ 5 ∷ 11 ∷ 8 ∷ []) ∷ []

-- the corner (1, 0, 0) lies in the middle of an edge of the face below, and cuts it into two pieces
two_cubes_first_piece : Part two_cubes two_cubes_faces (whole 0 0 0) (whole 1 0 0) true 1 1
two_cubes_first_piece = (refl, refl, refl)

two_cubes_second_piece : Part two_cubes two_cubes_faces (whole 1 0 0) (whole 2 0 0) true 1 1
two_cubes_second_piece = (refl, refl, refl)

-- the whole edge stands the one way alone: it is no elementary edge
two_cubes_whole_edge : Part two_cubes two_cubes_faces (whole 0 0 0) (whole 2 0 0) false 0 1
two_cubes_whole_edge = (refl, refl, refl)

-- between two faces of one plane, and across the face below, where the two cubes meet
two_cubes_upright : Part two_cubes two_cubes_faces (whole 1 0 0) (whole 1 0 1) true 1 1
two_cubes_upright = (refl, refl, refl)

two_cubes_across : Part two_cubes two_cubes_faces (whole 1 0 0) (whole 1 1 0) true 0 0
two_cubes_across = (refl, refl, refl)

two_cubes_through : Run two_cubes two_cubes_faces (point (pos 3) (pos 0) (pos 0) (pos 2)) to_x 1 1
two_cubes_through = (refl, refl)

-- ---- two cubes that share the edge from (1, 1, 0) to (1, 1, 1) alone
abbrev at_an_edge : List Coordinates
at_an_edge = cube ++ (whole 2 1 0 ∷ whole 2 2 0 ∷ whole 1 2 0 ∷ whole 2 1 1 ∷ whole 2 2 1 ∷ whole 1 2 1 ∷ [])

abbrev at_an_edge_faces : List (List ℕ)
at_an_edge_faces =
    cube_faces
    ++ ((2 ∷ 10 ∷ 9 ∷ 8 ∷ []) ∷ (6 ∷ 11 ∷ 12 ∷ 13 ∷ []) ∷ (2 ∷ 8 ∷ 11 ∷ 6 ∷ []) ∷ (8 ∷ 9 ∷ 12 ∷ 11 ∷ []) ∷ (9 ∷ 10 ∷ 13 ∷ 12 ∷ []) ∷ (2 ∷ 6 ∷ 13 ∷ 10 ∷ []) ∷ [])

at_an_edge_shared : Part at_an_edge at_an_edge_faces (whole 1 1 0) (whole 1 1 1) true 2 2
at_an_edge_shared = (refl, refl, refl)

at_an_edge_own : Part at_an_edge at_an_edge_faces (whole 2 1 0) (whole 2 1 1) true 1 1
at_an_edge_own = (refl, refl, refl)

-- ---- a tetrahedron
abbrev tetrahedron : List Coordinates
tetrahedron = whole 0 0 0 ∷ whole 1 0 0 ∷ whole 0 1 0 ∷ whole 0 0 1 ∷ []

abbrev slanted : List ℕ
slanted = 1 ∷ 2 ∷ 3 ∷ []

abbrev turned_round : List ℕ
turned_round = 1 ∷ 3 ∷ 2 ∷ []

abbrev tetrahedron_faces : List (List ℕ)
tetrahedron_faces = (0 ∷ 2 ∷ 1 ∷ []) ∷ (0 ∷ 1 ∷ 3 ∷ []) ∷ (0 ∷ 3 ∷ 2 ∷ []) ∷ slanted ∷ []

tetrahedron_edge : Part tetrahedron tetrahedron_faces (whole 1 0 0) (whole 0 1 0) true 1 1
tetrahedron_edge = (refl, refl, refl)

-- ---- a face that lies on another one: the slanted one of the tetrahedron, twice, and once from each side
abbrev slope_plane : Coefficients
slope_plane = record { a = pos 1; b = pos 1; c = pos 1; d = pos 1 }

is_plane : IsPlane slope_plane
is_plane = record { a_size = omega arith; b_size = omega arith; c_size = omega arith; d_size = omega arith; directed = omega arith; reduced = λ k h _ _ _. eq-one_of_dvd-one h }

-- (1/3, 1/3, 1/3)
abbrev middle : Coordinates
middle = point (pos 1) (pos 1) (pos 1) (pos 3)

corners_on : (i : ℕ) → i < 3 → value slope_plane (grid_corner Whole tetrahedron slanted i) ≡ pos 0
corners_on zero l = refl
corners_on (suc zero) l = refl
corners_on (suc (suc zero)) l = refl
corners_on (suc (suc (suc i))) l = absurd (omega arith)

corners_left : (i j : ℕ) → i < 3 → j < 3 → j ≢ i → j ≢ index_after 3 i →
    pos 0 <ℤ orientation_seen_from slope_plane (grid_corner Whole tetrahedron slanted i) (grid_corner Whole tetrahedron slanted (index_after 3 i)) (grid_corner Whole tetrahedron slanted j)
corners_left zero zero l k a b = absurd (a refl)
corners_left zero (suc zero) l k a b = absurd (b refl)
corners_left zero (suc (suc zero)) l k a b = omega (arith, sums)
corners_left (suc zero) zero l k a b = omega (arith, sums)
corners_left (suc zero) (suc zero) l k a b = absurd (a refl)
corners_left (suc zero) (suc (suc zero)) l k a b = absurd (b refl)
corners_left (suc (suc zero)) zero l k a b = absurd (b refl)
corners_left (suc (suc zero)) (suc zero) l k a b = omega (arith, sums)
corners_left (suc (suc zero)) (suc (suc zero)) l k a b = absurd (a refl)
corners_left (suc (suc (suc i))) j l k a b = absurd (omega arith)
corners_left i (suc (suc (suc j))) l k a b = absurd (omega arith)

middle_left : (i : ℕ) → i < 3 → pos 0 <ℤ orientation_seen_from slope_plane (grid_corner Whole tetrahedron slanted i) (grid_corner Whole tetrahedron slanted (index_after 3 i)) middle
middle_left zero l = omega (arith, sums)
middle_left (suc zero) l = omega (arith, sums)
middle_left (suc (suc zero)) l = omega (arith, sums)
middle_left (suc (suc (suc i))) l = absurd (omega arith)

middle_covered : FaceCovers Whole tetrahedron slope_plane middle slanted
middle_covered = record { faces = record { on = corners_on; left = corners_left }; on = refl; left = middle_left }

back_on : (i : ℕ) → i < 3 → value (opposite_of slope_plane) (grid_corner Whole tetrahedron turned_round i) ≡ pos 0
back_on zero l = refl
back_on (suc zero) l = refl
back_on (suc (suc zero)) l = refl
back_on (suc (suc (suc i))) l = absurd (omega arith)

back_left : (i j : ℕ) → i < 3 → j < 3 → j ≢ i → j ≢ index_after 3 i →
    pos 0 <ℤ orientation_seen_from (opposite_of slope_plane) (grid_corner Whole tetrahedron turned_round i) (grid_corner Whole tetrahedron turned_round (index_after 3 i)) (grid_corner Whole tetrahedron turned_round j)
back_left zero zero l k a b = absurd (a refl)
back_left zero (suc zero) l k a b = absurd (b refl)
back_left zero (suc (suc zero)) l k a b = omega (arith, sums)
back_left (suc zero) zero l k a b = omega (arith, sums)
back_left (suc zero) (suc zero) l k a b = absurd (a refl)
back_left (suc zero) (suc (suc zero)) l k a b = absurd (b refl)
back_left (suc (suc zero)) zero l k a b = absurd (b refl)
back_left (suc (suc zero)) (suc zero) l k a b = omega (arith, sums)
back_left (suc (suc zero)) (suc (suc zero)) l k a b = absurd (a refl)
back_left (suc (suc (suc i))) j l k a b = absurd (omega arith)
back_left i (suc (suc (suc j))) l k a b = absurd (omega arith)

middle_left_back : (i : ℕ) → i < 3 → pos 0 <ℤ orientation_seen_from (opposite_of slope_plane) (grid_corner Whole tetrahedron turned_round i) (grid_corner Whole tetrahedron turned_round (index_after 3 i)) middle
middle_left_back zero l = omega (arith, sums)
middle_left_back (suc zero) l = omega (arith, sums)
middle_left_back (suc (suc zero)) l = omega (arith, sums)
middle_left_back (suc (suc (suc i))) l = absurd (omega arith)

middle_covered_back : FaceCovers Whole tetrahedron (opposite_of slope_plane) middle turned_round
middle_covered_back = record { faces = record { on = back_on; left = back_left }; on = refl; left = middle_left_back }

twice_overlaps : ShareNoInnerPointInAPlane Whole tetrahedron (slanted ∷ slanted ∷ []) → ⊥
twice_overlaps h = differ 0 1 (h.same slope_plane middle is_plane (omega (arith, sums)) 0 1 (omega arith) (omega arith) middle_covered middle_covered) refl

both_sides_overlap : ShareNoInnerPointInAPlane Whole tetrahedron (slanted ∷ turned_round ∷ []) → ⊥
both_sides_overlap h = h.opposite slope_plane middle is_plane (omega (arith, sums)) 0 1 (omega arith) (omega arith) middle_covered middle_covered_back

-- ---- formulas that hold only within reach: a cube, two cubes that share a face, two that share an edge alone
abbrev wall : ℤ → ℤ → ℤ → ℤ → Coefficients
wall a b c d = record { a = a; b = b; c = c; d = d }

-- the walls of the cube of side 1 above z = 0 that ends at these two in x and y, and begins at the opposites of the others
abbrev walls_at : (high_x low_x high_y low_y : ℤ) → List Coefficients
walls_at high_x low_x high_y low_y =
    wall (pos 1) (pos 0) (pos 0) high_x ∷ wall (negsuc 0) (pos 0) (pos 0) low_x ∷ wall (pos 0) (pos 1) (pos 0) high_y
    ∷ wall (pos 0) (negsuc 0) (pos 0) low_y ∷ wall (pos 0) (pos 0) (pos 1) (pos 1) ∷ wall (pos 0) (pos 0) (negsuc 0) (pos 0) ∷ []

abbrev cube_at : (high_x low_x high_y low_y : ℤ) → Tree
cube_at high_x low_x high_y low_y = leaf (walls_at high_x low_x high_y low_y)

size_below_two : (x w : ℤ) → pos 0 <ℤ w → pos 0 <ℤ x → x <ℤ (pos 2 *ℤ w) → unsigned_abs x ≤ 4095 * unsigned_abs w
size_below_two x (negsuc n) above h k = absurd (omega (arith, sums, above))
size_below_two (negsuc m) (pos n) above h k = absurd (omega (arith, sums, h))
size_below_two (pos m) (pos n) above h k = omega (arith, sums, k)

behind_each : (planes : List Coefficients) (p : Coordinates) → list_all (sides_of p) planes ≡ true → AllBehind planes p
behind_each [] p h = tt
behind_each (m ∷ planes) p h =
    let k = and_parts (sides_of p m) (list_all (sides_of p) planes) h in (below_back (value m p) (pos 0) k.0, behind_each planes p k.1)

abbrev wallP : ℤ → ℤ → ℤ → ℤ → Form
wallP a b c d = record { a = num a; b = num b; c = num c; d = num d }

from_zero : (v x : ℤ) → v ≡ pos 0 -ℤ x → v <ℤ pos 0 → pos 0 <ℤ x
from_zero v x e h = omega (arith, sums, e, h)

from_one : (v x w : ℤ) → v ≡ w -ℤ x → v <ℤ pos 0 → pos 0 <ℤ w → pos 0 <ℤ x
from_one v x w e h k = omega (arith, sums, e, h, k)

to_one : (v x w : ℤ) → v ≡ x -ℤ w → v <ℤ pos 0 → pos 0 <ℤ w → x <ℤ (pos 2 *ℤ w)
to_one v x w e h k = omega (arith, sums, e, h, k, ring (w ∷ []) (times (num (pos 2)) (var 0)) (plus (var 0) (var 0)) refl)

to_two : (v x w : ℤ) → v ≡ x -ℤ pos 2 *ℤ w → v <ℤ pos 0 → x <ℤ (pos 2 *ℤ w)
to_two v x w e h = omega (arith, sums, e, h)

first_cube : KeepsWithinReach (cube_at (pos 1) (pos 0) (pos 1) (pos 0))
first_cube p w solid = let h = behind_each (walls_at (pos 1) (pos 0) (pos 1) (pos 0)) p solid in record {
  weight = w;
  x_size = size_below_two p.x p.w w
      (from_zero _ p.x (ring (of_point p []) (valueP (wallP (negsuc 0) (pos 0) (pos 0) (pos 0)) (place 0)) (minus (num (pos 0)) (var 0)) refl) h.1.0)
      (to_one _ p.x p.w (ring (of_point p []) (valueP (wallP (pos 1) (pos 0) (pos 0) (pos 1)) (place 0)) (minus (var 0) (var 3)) refl) h.0 w);
  y_size = size_below_two p.y p.w w
      (from_zero _ p.y (ring (of_point p []) (valueP (wallP (pos 0) (negsuc 0) (pos 0) (pos 0)) (place 0)) (minus (num (pos 0)) (var 1)) refl) h.1.1.1.0)
      (to_one _ p.y p.w (ring (of_point p []) (valueP (wallP (pos 0) (pos 1) (pos 0) (pos 1)) (place 0)) (minus (var 1) (var 3)) refl) h.1.1.0 w);
  z_size = size_below_two p.z p.w w
      (from_zero _ p.z (ring (of_point p []) (valueP (wallP (pos 0) (pos 0) (negsuc 0) (pos 0)) (place 0)) (minus (num (pos 0)) (var 2)) refl) h.1.1.1.1.1.0)
      (to_one _ p.z p.w (ring (of_point p []) (valueP (wallP (pos 0) (pos 0) (pos 1) (pos 1)) (place 0)) (minus (var 2) (var 3)) refl) h.1.1.1.1.0 w);
}

cube_next_to : KeepsWithinReach (cube_at (pos 2) (negsuc 0) (pos 1) (pos 0))
cube_next_to p w solid = let h = behind_each (walls_at (pos 2) (negsuc 0) (pos 1) (pos 0)) p solid in record {
  weight = w;
  x_size = size_below_two p.x p.w w
      (from_one _ p.x p.w (ring (of_point p []) (valueP (wallP (negsuc 0) (pos 0) (pos 0) (negsuc 0)) (place 0)) (minus (var 3) (var 0)) refl) h.1.0 w)
      (to_two _ p.x p.w (ring (of_point p []) (valueP (wallP (pos 1) (pos 0) (pos 0) (pos 2)) (place 0)) (minus (var 0) (times (num (pos 2)) (var 3))) refl) h.0);
  y_size = size_below_two p.y p.w w
      (from_zero _ p.y (ring (of_point p []) (valueP (wallP (pos 0) (negsuc 0) (pos 0) (pos 0)) (place 0)) (minus (num (pos 0)) (var 1)) refl) h.1.1.1.0)
      (to_one _ p.y p.w (ring (of_point p []) (valueP (wallP (pos 0) (pos 1) (pos 0) (pos 1)) (place 0)) (minus (var 1) (var 3)) refl) h.1.1.0 w);
  z_size = size_below_two p.z p.w w
      (from_zero _ p.z (ring (of_point p []) (valueP (wallP (pos 0) (pos 0) (negsuc 0) (pos 0)) (place 0)) (minus (num (pos 0)) (var 2)) refl) h.1.1.1.1.1.0)
      (to_one _ p.z p.w (ring (of_point p []) (valueP (wallP (pos 0) (pos 0) (pos 1) (pos 1)) (place 0)) (minus (var 2) (var 3)) refl) h.1.1.1.1.0 w);
}

cube_at_its_edge : KeepsWithinReach (cube_at (pos 2) (negsuc 0) (pos 2) (negsuc 0))
cube_at_its_edge p w solid = let h = behind_each (walls_at (pos 2) (negsuc 0) (pos 2) (negsuc 0)) p solid in record {
  weight = w;
  x_size = size_below_two p.x p.w w
      (from_one _ p.x p.w (ring (of_point p []) (valueP (wallP (negsuc 0) (pos 0) (pos 0) (negsuc 0)) (place 0)) (minus (var 3) (var 0)) refl) h.1.0 w)
      (to_two _ p.x p.w (ring (of_point p []) (valueP (wallP (pos 1) (pos 0) (pos 0) (pos 2)) (place 0)) (minus (var 0) (times (num (pos 2)) (var 3))) refl) h.0);
  y_size = size_below_two p.y p.w w
      (from_one _ p.y p.w (ring (of_point p []) (valueP (wallP (pos 0) (negsuc 0) (pos 0) (negsuc 0)) (place 0)) (minus (var 3) (var 1)) refl) h.1.1.1.0 w)
      (to_two _ p.y p.w (ring (of_point p []) (valueP (wallP (pos 0) (pos 1) (pos 0) (pos 2)) (place 0)) (minus (var 1) (times (num (pos 2)) (var 3))) refl) h.1.1.0);
  z_size = size_below_two p.z p.w w
      (from_zero _ p.z (ring (of_point p []) (valueP (wallP (pos 0) (pos 0) (negsuc 0) (pos 0)) (place 0)) (minus (num (pos 0)) (var 2)) refl) h.1.1.1.1.1.0)
      (to_one _ p.z p.w (ring (of_point p []) (valueP (wallP (pos 0) (pos 0) (pos 1) (pos 1)) (place 0)) (minus (var 2) (var 3)) refl) h.1.1.1.1.0 w);
}

cubes_at_a_face_keep : LeavesKeepWithinReach (tree_join Union (cube_at (pos 1) (pos 0) (pos 1) (pos 0)) (cube_at (pos 2) (negsuc 0) (pos 1) (pos 0)))
cubes_at_a_face_keep = (first_cube, cube_next_to)

cubes_at_an_edge_keep : LeavesKeepWithinReach (tree_join Union (cube_at (pos 1) (pos 0) (pos 1) (pos 0)) (cube_at (pos 2) (negsuc 0) (pos 2) (negsuc 0)))
cubes_at_an_edge_keep = (first_cube, cube_at_its_edge)

-- all points with x below 0: one of them is 5,000 away
half_space_leaves : KeepsWithinReach (leaf (wall (pos 1) (pos 0) (pos 0) (pos 0) ∷ [])) → ⊥
half_space_leaves h = let r = h (point (negsuc 4999) (pos 0) (pos 0) (pos 1)) (omega (arith, sums)) refl in absurd (omega (arith, r.x_size))
