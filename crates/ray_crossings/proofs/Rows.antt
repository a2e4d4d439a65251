-- Ways through surfaces that are written out, and planes that bound them, worked by hand: a cube, two cubes that share a face,
-- and a tetrahedron.
use Rattle.std.proofs.Common.{◌≡◌, ◌≢◌, inl, inr, ℕ, true, false, List, [], ◌∷◌, map, refl, arith, ℤ, pos, negsuc}
use Rattle.plane_predicate.specs.Space.{Coefficients, Coordinates, value}
use Rattle.plane_predicate.proofs.lemmas.IntegerRing.{sums}
use Rattle.csg_tree.specs.HalfSpaceTrees.{Tree, leaf, tree_join, holds, sides_of}
use Rattle.csg_tree.specs.declared.op.Op.TheVariants.{Union, Difference}
use Rattle.closed_surface.specs.Closed.{corners_at}
use Rattle.closed_surface.proofs.lemmas.Each.{Each}
use Rattle.closed_surface.proofs.lemmas.Numbers.{not_zero_below}
use Rattle.ray_crossings.specs.Limits.{IsInsideSolid}
use Rattle.ray_crossings.specs.Crossings.{orientation_to_face, passes_clear, crossing, crossings}
use Rattle.watertight.proofs.lemmas.Nearby.{planes_in, each_of}

abbrev point : ℤ → ℤ → ℤ → ℤ → Coordinates
point x y z w = record { x = x; y = y; z = z; w = w }

abbrev whole : ℕ → ℕ → ℕ → Coordinates
whole x y z = point (pos x) (pos y) (pos z) (pos 1)

-- ---- a cube
abbrev cube : List Coordinates
cube = whole 0 0 0 ∷ whole 1 0 0 ∷ whole 1 1 0 ∷ whole 0 1 0 ∷ whole 0 0 1 ∷ whole 1 0 1 ∷ whole 1 1 1 ∷ whole 0 1 1 ∷ []

abbrev top : List ℕ
top = 4 ∷ 5 ∷ 6 ∷ 7 ∷ []

abbrev cube_faces : List (List ℕ)
cube_faces = (0 ∷ 3 ∷ 2 ∷ 1 ∷ []) ∷ top ∷ (0 ∷ 1 ∷ 5 ∷ 4 ∷ []) ∷ (1 ∷ 2 ∷ 6 ∷ 5 ∷ []) ∷ (2 ∷ 3 ∷ 7 ∷ 6 ∷ []) ∷ (0 ∷ 4 ∷ 7 ∷ 3 ∷ []) ∷ []

-- (1/2, 1/3, 1/4), which is inside, and points straight above and below
abbrev inner : Coordinates
inner = point (pos 6) (pos 4) (pos 3) (pos 12)

abbrev above : Coordinates
above = point (pos 6) (pos 4) (pos 60) (pos 12)

abbrev under : Coordinates
under = point (pos 6) (pos 4) (negsuc 11) (pos 12)

-- straight above the middle of an edge of the face on top, and of the face below
abbrev at_the_side : ℤ → Coordinates
at_the_side z = point (pos 12) (pos 4) z (pos 12)

-- the point (1/2, 1/3, 1/4) is 3/4 below the face on top: its height times the weights is -9
low : orientation_to_face (corners_at cube top) inner ≡ negsuc 8
low = refl

out : crossings inner above cube cube_faces ≡ pos 1
out = refl

into : crossings above inner cube cube_faces ≡ negsuc 0
into = refl

out_below : crossings inner under cube cube_faces ≡ pos 1
out_below = refl

-- in below and out on top, in the one direction and in the other
through : crossings under above cube cube_faces ≡ pos 0
through = refl

back : crossings above under cube cube_faces ≡ pos 0
back = refl

through_top : crossing under above (corners_at cube top) ≡ pos 1
through_top = refl

through_bottom : crossing under above (corners_at cube (0 ∷ 3 ∷ 2 ∷ 1 ∷ [])) ≡ negsuc 0
through_bottom = refl

-- a slanted way, through a side and the face on top
slanted : crossings (point (negsuc 11) (pos 4) (pos 3) (pos 12)) (point (pos 11) (pos 5) (pos 18) (pos 12)) cube cube_faces ≡ pos 0
slanted = refl

-- past it, and not as far as it
past : crossings (whole 2 2 0) (whole 2 2 5) cube cube_faces ≡ pos 0
past = refl

short : crossings (whole 0 0 2) (point (pos 1) (pos 1) (pos 9) (pos 2)) cube cube_faces ≡ pos 0
short = refl

-- a way that touches an edge of the face on top is told nothing of, and counts for no crossing of it
on_the_edge : crossings (at_the_side (negsuc 11)) (at_the_side (pos 60)) cube cube_faces ≡ pos 0
on_the_edge = refl

touches : passes_clear (at_the_side (negsuc 11)) (at_the_side (pos 60)) (corners_at cube top) ≡ false
touches = refl

-- a way through the face passes left of all its edges, and one past it right of one
touches_none : passes_clear under above (corners_at cube top) ≡ true
touches_none = refl

touches_none_beside : passes_clear (whole 2 2 0) (whole 2 2 5) (corners_at cube top) ≡ true
touches_none_beside = refl

-- through a corner: out of the cube by no face
through_a_corner : crossings (point (pos 1) (pos 1) (pos 1) (pos 2)) (whole 2 2 2) cube cube_faces ≡ pos 0
through_a_corner = refl

at_the_corner : passes_clear (point (pos 1) (pos 1) (pos 1) (pos 2)) (whole 2 2 2) (corners_at cube top) ≡ false
at_the_corner = refl

-- ---- two cubes that share a face: one face below both, and on the other sides a face of each
abbrev two_cubes : List Coordinates
two_cubes =
    whole 0 0 0 ∷ whole 1 0 0 ∷ whole 2 0 0 ∷ whole 0 1 0 ∷ whole 1 1 0 ∷ whole 2 1 0
    ∷ whole 0 0 1 ∷ whole 1 0 1 ∷ whole 2 0 1 ∷ whole 0 1 1 ∷ whole 1 1 1 ∷ whole 2 1 1 ∷ []

abbrev two_cubes_faces : List (List ℕ)
two_cubes_faces =
    (0 ∷ 3 ∷ 5 ∷ 2 ∷ []) ∷ (6 ∷ 7 ∷ 10 ∷ 9 ∷ []) ∷ (7 ∷ 8 ∷ 11 ∷ 10 ∷ []) ∷ (0 ∷ 1 ∷ 7 ∷ 6 ∷ []) ∷ (1 ∷ 2 ∷ 8 ∷ 7 ∷ [])
    ∷ (4 ∷ 3 ∷ 9 ∷ 10 ∷ []) ∷ (5 ∷ 4 ∷ 10 ∷ 11 ∷ []) ∷ (0 ∷ 6 ∷ 9 ∷ 3 ∷ []) ∷ (2 ∷ 5 ∷ 11 ∷ 8 ∷ []) ∷ []

-- from inside the one to inside the other, and on to outside
between : crossings inner (point (pos 18) (pos 5) (pos 4) (pos 12)) two_cubes two_cubes_faces ≡ pos 0
between = refl

on_through : crossings inner (point (pos 36) (pos 5) (pos 4) (pos 12)) two_cubes two_cubes_faces ≡ pos 1
on_through = refl

-- ---- a tetrahedron: from inside through the slanted face, and from outside through two faces
abbrev tetrahedron : List Coordinates
tetrahedron = whole 0 0 0 ∷ whole 1 0 0 ∷ whole 0 1 0 ∷ whole 0 0 1 ∷ []

abbrev tetrahedron_faces : List (List ℕ)
tetrahedron_faces = (0 ∷ 2 ∷ 1 ∷ []) ∷ (0 ∷ 1 ∷ 3 ∷ []) ∷ (0 ∷ 3 ∷ 2 ∷ []) ∷ (1 ∷ 2 ∷ 3 ∷ []) ∷ []

out_of_tetrahedron : crossings (point (pos 1) (pos 1) (pos 1) (pos 8)) (whole 3 4 5) tetrahedron tetrahedron_faces ≡ pos 1
out_of_tetrahedron = refl

through_tetrahedron : crossings (point (negsuc 7) (pos 1) (pos 1) (pos 8)) (whole 3 1 1) tetrahedron tetrahedron_faces ≡ pos 0
through_tetrahedron = refl

-- ---- planes that no vertex of the cube is ahead of: its sides, and one that touches it at a corner
abbrev plane : ℤ → ℤ → ℤ → ℤ → Coefficients
plane a b c d = record { a = a; b = b; c = c; d = d }

abbrev greatest_x : Coefficients
greatest_x = plane (pos 1) (pos 0) (pos 0) (pos 1)

abbrev least_x : Coefficients
least_x = plane (negsuc 0) (pos 0) (pos 0) (pos 0)

abbrev at_last_corner : Coefficients
at_last_corner = plane (pos 1) (pos 1) (pos 1) (pos 3)

greatest_x_of_vertices : map (value greatest_x) cube ≡ (negsuc 0 ∷ pos 0 ∷ pos 0 ∷ negsuc 0 ∷ negsuc 0 ∷ pos 0 ∷ pos 0 ∷ negsuc 0 ∷ [])
greatest_x_of_vertices = refl

least_x_of_vertices : map (value least_x) cube ≡ (pos 0 ∷ negsuc 0 ∷ negsuc 0 ∷ pos 0 ∷ pos 0 ∷ negsuc 0 ∷ negsuc 0 ∷ pos 0 ∷ [])
least_x_of_vertices = refl

at_last_corner_of_vertices : map (value at_last_corner) cube ≡ (negsuc 2 ∷ negsuc 1 ∷ negsuc 0 ∷ negsuc 1 ∷ negsuc 1 ∷ negsuc 0 ∷ pos 0 ∷ negsuc 0 ∷ [])
at_last_corner_of_vertices = refl

-- the point (1/2, 1/3, 1/4) is behind them, times its weight; the point (2, 2, 0) is ahead of two
values_at_inner : map (λ m. value m inner) (greatest_x ∷ least_x ∷ at_last_corner ∷ []) ≡ (negsuc 5 ∷ negsuc 5 ∷ negsuc 22 ∷ [])
values_at_inner = refl

values_beyond : map (λ m. value m (whole 2 2 0)) (greatest_x ∷ least_x ∷ at_last_corner ∷ []) ≡ (pos 1 ∷ negsuc 1 ∷ pos 1 ∷ [])
values_beyond = refl

-- the plane with x = 1/2 bounds nothing: a vertex is ahead of it
half_x_of_vertices : map (value (plane (pos 2) (pos 0) (pos 0) (pos 1))) cube ≡ (negsuc 0 ∷ pos 1 ∷ pos 1 ∷ negsuc 0 ∷ negsuc 0 ∷ pos 1 ∷ pos 1 ∷ negsuc 0 ∷ [])
half_x_of_vertices = refl

-- no vertex of the tetrahedron is ahead of its slanted face, and the point (1/2, 1/3, 1/4), which is inside its box, is
slanted_of_vertices : map (value (plane (pos 1) (pos 1) (pos 1) (pos 1))) tetrahedron ≡ (negsuc 0 ∷ pos 0 ∷ pos 0 ∷ pos 0 ∷ [])
slanted_of_vertices = refl

outside_tetrahedron : value (plane (pos 1) (pos 1) (pos 1) (pos 1)) inner ≡ pos 1
outside_tetrahedron = refl

-- ---- points inside a solid: the cube's
abbrev cube_formula : Tree
cube_formula = leaf (greatest_x ∷ least_x ∷ plane (pos 0) (pos 1) (pos 0) (pos 1) ∷ plane (pos 0) (negsuc 0) (pos 0) (pos 0)
    ∷ plane (pos 0) (pos 0) (pos 1) (pos 1) ∷ plane (pos 0) (pos 0) (negsuc 0) (pos 0) ∷ [])

inner_off : Each (λ m. value m inner ≢ pos 0) (planes_in cube_formula)
inner_off = (
  not_zero_below (negsuc 5) (omega (arith, sums)),
  (
    not_zero_below (negsuc 5) (omega (arith, sums)),
    (
      not_zero_below (negsuc 7) (omega (arith, sums)),
      (not_zero_below (negsuc 3) (omega (arith, sums)), (not_zero_below (negsuc 8) (omega (arith, sums)), (not_zero_below (negsuc 2) (omega (arith, sums)), tt))),
    ),
  ),
)

inner_is_inside : IsInsideSolid cube_formula inner
inner_is_inside = record { weight = omega (arith, sums); off = each_of (λ m. value m inner ≢ pos 0) cube_formula inner_off; solid = refl }

corner_is_not_inside : IsInsideSolid cube_formula (whole 1 1 1) → ⊥
corner_is_not_inside h = h.off greatest_x (0, omega arith, refl) refl

-- a cube without its two halves has no solid: the formula holds between them, but only on a face plane
abbrev without_halves : Tree
without_halves = tree_join Difference cube_formula
    (tree_join Union (leaf (plane (pos 2) (pos 0) (pos 0) (pos 1) ∷ [])) (leaf (plane (negsuc 1) (pos 0) (pos 0) (negsuc 0) ∷ [])))

holds_between : holds without_halves (sides_of inner) ≡ true
holds_between = refl

between_is_not_inside : IsInsideSolid without_halves inner → ⊥
between_is_not_inside h = h.off (plane (pos 2) (pos 0) (pos 0) (pos 1)) (inr (inl (0, omega arith, refl))) refl
