-- Hulls of points: the points of a hull, and its faces.
use Rattle.std.specs.Prelude.{◌≡◌, ℕ, ◌+◌, ◌-◌, ◌<◌, Bool, not, ◌&&◌, ◌||◌, ℤ, pos, int_le, List, [], ◌∷◌, get_or, length, map, filter, flat_map, fold, All, unsigned_abs}
use Rattle.std.specs.List.{list_all, range_with_len}
use Rattle.std.specs.Ordering.{int_eq, int_cmp}
use Rattle.std.specs.Cmp.Lexicographic.{slice_cmp}
use Rattle.std.specs.declared.cmp.Ordering.TheVariants.{Less, Equal, Greater}
use Rattle.plane_predicate.specs.Space.{Coefficients, point_at, value, plane_of_points, opposite_of}
use Rattle.primitives.specs.Shapes.{Mesh, mesh_point, value_at_point}

-- a point put into its place among ascending points, by x, then y, then z, unless it is among them
abbrev pub point_put_among : List ℤ → List (List ℤ) → List (List ℤ)
point_put_among p [] = p ∷ []
point_put_among p (q ∷ points) = elim (slice_cmp int_cmp q p) [ Less ↦ q ∷ point_put_among p points | Equal ↦ q ∷ points | Greater ↦ p ∷ q ∷ points ]

-- the different points, in ascending order
abbrev pub points_in_order : List (List ℤ) → List (List ℤ)
points_in_order given = fold (λ points p. point_put_among p points) [] given

-- the plane through three points, by their numbers
abbrev pub plane_of : List (List ℤ) → List ℕ → Coefficients
plane_of points triple = plane_of_points (mesh_point points (get_or triple 0 0)) (mesh_point points (get_or triple 1 0)) (mesh_point points (get_or triple 2 0))

-- no point is strictly ahead of the plane
abbrev pub has_none_ahead : List (List ℤ) → Coefficients → Bool
has_none_ahead points m = list_all (λ p. int_le (value m (point_at p)) (pos 0)) points

-- the plane's direction is not 0: the three points that it was made through are not on one line
abbrev pub is_directed : Coefficients → Bool
is_directed m = not (int_eq m.a (pos 0) && (int_eq m.b (pos 0) && int_eq m.c (pos 0)))

-- three points that are not on one line, on whose plane's one side no point lies strictly
abbrev pub is_supporting : List (List ℤ) → List ℕ → Bool
is_supporting points triple =
    let m = plane_of points triple in
    is_directed m && (has_none_ahead points m || has_none_ahead points (opposite_of m))

-- the plane of the first triple goes through the points of the second: where neither's points are on one line, the two
-- planes are equal
abbrev pub shares_plane : List (List ℤ) → List ℕ → List ℕ → Bool
shares_plane points s t = list_all (λ i. int_eq (value_at_point points (plane_of points s) i) (pos 0)) t

-- the ascending numbers that are at least a and below n
abbrev pub numbers_between : ℕ → ℕ → List ℕ
numbers_between a n = range_with_len a (n - a)

-- the triples of ascending numbers below n that begin with i and j
abbrev pub triples_by : ℕ → ℕ → ℕ → List (List ℕ)
triples_by n i j = map (λ k. i ∷ j ∷ k ∷ []) (numbers_between (j + 1) n)

-- the triples of ascending numbers below n that begin with i
abbrev pub triples_from : ℕ → ℕ → List (List ℕ)
triples_from n i = flat_map (triples_by n i) (numbers_between (i + 1) n)

-- the triples of ascending numbers below n
abbrev pub triples : ℕ → List (List ℕ)
triples n = flat_map (triples_from n) (numbers_between 0 n)

-- of triples with equal planes the first alone
abbrev pub first_of_planes : List (List ℤ) → List (List ℕ) → List (List ℕ)
first_of_planes points [] = []
first_of_planes points (s ∷ more) = s ∷ filter (λ t. not (shares_plane points s t)) (first_of_planes points more)

-- the faces of the hull of some points: the supporting triples in ascending order, of equal planes the first alone
abbrev pub faces_of_hull : List (List ℤ) → List (List ℕ)
faces_of_hull points = first_of_planes points (filter (is_supporting points) (triples (length points)))

-- the hull of the given points
abbrev pub hull_of : List (List ℤ) → Mesh
hull_of given = record { points = points_in_order given; faces = faces_of_hull (points_in_order given) }

-- all points are on one plane
pub record AreOnOnePlane (points : List (List ℤ)) : Type 0 where
  pub plane : Coefficients
  pub directed : 0 < unsigned_abs plane.a + unsigned_abs plane.b + unsigned_abs plane.c
  pub on : All (λ p. value plane (point_at p) ≡ pos 0) points
