-- Worked rows: ways and triangles that cross the faces of a cube and of a tetrahedron.
use Rattle.std.proofs.Common.{◌≡◌, ◌≢◌, ◌∙◌, ◌+◌, ◌<◌, ℕ, zero, suc, List, [], ◌∷◌, map, flat_map, refl, arith, ℤ, pos, negsuc, ◌<ℤ◌, unsigned_abs}
use Rattle.plane_predicate.specs.Space.{Coefficients, Coordinates, orientation_seen_from, value}
use Rattle.plane_predicate.proofs.lemmas.IntegerRing.{sums}
use Rattle.primitives.specs.DirectedEdges.{next_in_face}
use Rattle.closed_faces.specs.Crossings.{crossing_with_face, crossings_with_faces, edges_of_face, is_same_segment, reversed_segment, vertex, volume, HavePairedEdges, Segment, Face, IsConvexFace, ArePolygonsInGeneralPosition}
use Rattle.closed_faces.specs.Sums.{times_in}
use Rattle.closed_faces.specs.Worked.{worked_triangle as triangle, worked_square as high_x}
use Rattle.closed_faces.proofs.Borders.{edge_decides}
use Rattle.closed_faces.proofs.lemmas.Sums.{times_map}
use Rattle.plane_predicate.specs.Sums.{sum_over}

abbrev at : ℤ → ℤ → ℤ → Coordinates
at x y z = record { x = x; y = y; z = z; w = pos 1 }

abbrev plane : ℤ → ℤ → ℤ → ℤ → Coefficients
plane a b c d = record { a = a; b = b; c = c; d = d }

abbrev way : Coordinates → Coordinates → Segment
way a b = record { from = a; to = b }

-- the cube from 0 to 4: low x, high x, low y, high y, low z, high z
abbrev cube : List Face
cube =
    let o = pos 0 in let f = pos 4 in let m = negsuc 0 in let l = pos 1 in
    record { plane = plane m o o o; corners = at o o o ∷ at o o f ∷ at o f f ∷ at o f o ∷ [] }
    ∷ record { plane = plane l o o f; corners = at f o o ∷ at f f o ∷ at f f f ∷ at f o f ∷ [] }
    ∷ record { plane = plane o m o o; corners = at o o o ∷ at f o o ∷ at f o f ∷ at o o f ∷ [] }
    ∷ record { plane = plane o l o f; corners = at o f o ∷ at o f f ∷ at f f f ∷ at f f o ∷ [] }
    ∷ record { plane = plane o o m o; corners = at o o o ∷ at o f o ∷ at f f o ∷ at f o o ∷ [] }
    ∷ record { plane = plane o o l f; corners = at o o f ∷ at f o f ∷ at f f f ∷ at o f f ∷ [] }
    ∷ []

-- a triangle with one corner inside, that leaves the cube through the faces of high x and of high y
abbrev inside : Coordinates
inside = at (pos 1) (pos 2) (pos 1)

abbrev beyond_x : Coordinates
beyond_x = at (pos 7) (pos 3) (pos 2)

abbrev beyond_y : Coordinates
beyond_y = at (pos 2) (pos 9) (pos 3)

leaves_by_x : crossings_with_faces cube (way inside beyond_x) ≡ pos 1
leaves_by_x = refl

stays_outside : crossings_with_faces cube (way beyond_x beyond_y) ≡ pos 0
stays_outside = refl

comes_in_by_y : crossings_with_faces cube (way beyond_y inside) ≡ negsuc 0
comes_in_by_y = refl

round_the_triangle : sum_over (crossings_with_faces cube) (edges_of_face triangle) ≡ pos 0
round_the_triangle = refl

-- the edges of the cube that cross the triangle: one of them goes through it, once each way
edges_through : sum_over (λ e. crossing_with_face triangle e.from e.to) (flat_map edges_of_face cube) ≡ pos 0
edges_through = refl

-- a way right through the cube comes in once and leaves once
right_through : crossings_with_faces cube (way (at (negsuc 2) (pos 1) (pos 2)) (at (pos 9) (pos 3) (pos 1))) ≡ pos 0
right_through = refl

comes_in_by_low_x : sum_over (λ f. crossing_with_face f (at (negsuc 2) (pos 1) (pos 2)) inside) cube ≡ negsuc 0
comes_in_by_low_x = refl

-- a way that meets a face's plane beside the face
misses : crossings_with_faces cube (way (at (pos 1) (pos 5) (pos 1)) (at (pos 7) (pos 6) (pos 2))) ≡ pos 0
misses = refl

-- each edge of the cube stands once in each direction
cube_closed : HavePairedEdges cube
cube_closed e = (let back : times_in is_same_segment (flat_map edges_of_face cube) e ≡ times_in is_same_segment (map reversed_segment (flat_map edges_of_face cube)) e = omega arith in back) ∙ times_map is_same_segment edge_decides reversed_segment (λ g. refl) (flat_map edges_of_face cube) e

-- the tetrahedron with corners at 0 and at 4 along each axis
abbrev tetrahedron : List Face
tetrahedron =
    let o = pos 0 in let f = pos 4 in let m = negsuc 0 in let l = pos 1 in
    record { plane = plane m o o o; corners = at o o o ∷ at o o f ∷ at o f o ∷ [] }
    ∷ record { plane = plane o m o o; corners = at o o o ∷ at f o o ∷ at o o f ∷ [] }
    ∷ record { plane = plane o o m o; corners = at o o o ∷ at o f o ∷ at f o o ∷ [] }
    ∷ record { plane = plane l l l f; corners = at f o o ∷ at o f o ∷ at o o f ∷ [] }
    ∷ []

-- from (1/2, 1/2, 1/2) out through the slanted face
leaves_slanted : crossings_with_faces tetrahedron (way (record { x = pos 1; y = pos 1; z = pos 1; w = pos 2 }) (at (pos 5) (pos 6) (pos 7))) ≡ pos 1
leaves_slanted = refl

-- past the slanted face, outside its edge
past_slanted : crossings_with_faces tetrahedron (way (at (negsuc 0) (pos 1) (pos 1)) (at (negsuc 0) (pos 9) (pos 8))) ≡ pos 0
past_slanted = refl

tetrahedron_closed : HavePairedEdges tetrahedron
tetrahedron_closed e = (let back : times_in is_same_segment (flat_map edges_of_face tetrahedron) e ≡ times_in is_same_segment (map reversed_segment (flat_map edges_of_face tetrahedron)) e = omega arith in back) ∙ times_map is_same_segment edge_decides reversed_segment (λ g. refl) (flat_map edges_of_face tetrahedron) e

-- ---- the premises of the law
for_three : (P : ℕ → Type 0) → P 0 → P 1 → P 2 → (k : ℕ) → k < 3 → P k
for_three P a b c zero lt = a
for_three P a b c (suc zero) lt = b
for_three P a b c (suc (suc zero)) lt = c
for_three P a b c (suc (suc (suc k))) lt = absurd (omega (arith, lt))

for_four : (P : ℕ → Type 0) → P 0 → P 1 → P 2 → P 3 → (k : ℕ) → k < 4 → P k
for_four P a b c d zero lt = a
for_four P a b c d (suc k) lt = for_three (λ i. P (suc i)) b c d k (omega (arith, lt))

-- the triangle is a convex face
triangle_convex : IsConvexFace triangle
triangle_convex =
    let Left : ℕ → ℕ → Type 0 = λ k i. i ≢ k → i ≢ next_in_face k 3 → pos 0 <ℤ orientation_seen_from triangle.plane (vertex triangle k) (vertex triangle (next_in_face k 3)) (vertex triangle i) in
    record {
      directed = omega arith;
      three = omega arith;
      weights = for_three (λ k. pos 0 <ℤ (vertex triangle k).w) (omega (arith, sums)) (omega (arith, sums)) (omega (arith, sums));
      on = for_three (λ k. value triangle.plane (vertex triangle k) ≡ pos 0) refl refl refl;
      left = λ k i hk hi. for_three (λ j. (l : ℕ) → l < 3 → Left j l)
          (for_three (Left 0) (λ a b. absurd (a refl)) (λ a b. absurd (b refl)) (λ a b. omega (arith, sums)))
          (for_three (Left 1) (λ a b. omega (arith, sums)) (λ a b. absurd (a refl)) (λ a b. absurd (b refl)))
          (for_three (Left 2) (λ a b. absurd (b refl)) (λ a b. omega (arith, sums)) (λ a b. absurd (a refl)))
          k hk i hi;
    }

not_zero : (v : ℤ) → (0 < unsigned_abs v) → v ≢ pos 0
not_zero (pos zero) h e = omega (arith, h)
not_zero (pos (suc n)) h e = omega (arith, sums, e)
not_zero (negsuc n) h e = omega (arith, sums, e)

-- and it is in general position with the cube's face of high x
pub triangle_general : ArePolygonsInGeneralPosition triangle high_x
triangle_general =
    let Apart : ℕ → ℕ → Type 0 = λ i j. volume (vertex triangle i) (vertex triangle (next_in_face i 3)) (vertex high_x j) (vertex high_x (next_in_face j 4)) ≢ pos 0 in
    let some : (v : ℤ) → (0 < unsigned_abs v) → v ≢ pos 0 = not_zero in
    record {
      sides_off = for_three (λ i. value high_x.plane (vertex triangle i) ≢ pos 0) (some _ (omega arith)) (some _ (omega arith)) (some _ (omega arith));
      edges_off = for_four (λ j. value triangle.plane (vertex high_x j) ≢ pos 0) (some _ (omega arith)) (some _ (omega arith)) (some _ (omega arith)) (some _ (omega arith));
      apart = λ i j hi hj a b. for_three (λ k. (l : ℕ) → l < 4 → Apart k l)
          (for_four (Apart 0) (some _ (omega arith)) (some _ (omega arith)) (some _ (omega arith)) (some _ (omega arith)))
          (for_four (Apart 1) (some _ (omega arith)) (some _ (omega arith)) (some _ (omega arith)) (some _ (omega arith)))
          (for_four (Apart 2) (some _ (omega arith)) (some _ (omega arith)) (some _ (omega arith)) (some _ (omega arith)))
          i hi j hj;
    }
