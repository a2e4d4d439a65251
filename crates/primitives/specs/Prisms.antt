-- Extruded polygons.
use Rattle.std.specs.Prelude.{ℕ, ◌+◌, ℤ, pos, ◌≤ℤ◌, Bool, ◌&&◌, List, [], ◌∷◌, ◌++◌, length, map, cond, flat_map, All}
use Rattle.std.specs.List.{range_with_len}
use Rattle.std.specs.Ordering.{int_eq}
use Rattle.plane_predicate.specs.Space.{Coefficients, point_at, value}
use Rattle.plane_predicate.specs.declared.unit.Unit.{Unit as LengthUnit}
use Rattle.primitives.specs.Shapes.{Mesh}
use Rattle.primitives.specs.Sizes.{low_end, high_end}
use Rattle.primitives.specs.Polygons.{x_of, y_of, polygon_point}
use Rattle.plane_predicate.specs.Indices.{index_after}

-- a point of the plane at a height
abbrev pub at_height : ℤ → List ℤ → List ℤ
at_height z p = x_of p ∷ y_of p ∷ z ∷ []

-- the same point of the plane
abbrev pub is_same_flat_point : List ℤ → List ℤ → Bool
is_same_flat_point p q = int_eq (x_of p) (x_of q) && int_eq (y_of p) (y_of q)

-- the corners of the side over the way from point i to the next one, where the two differ
abbrev pub side_over : List (List ℤ) → ℕ → List (List ℕ)
side_over points i =
    let n = length points in let j = index_after n i in
    cond (is_same_flat_point (polygon_point points i) (polygon_point points j)) [] ((i ∷ j ∷ (n + j) ∷ (n + i) ∷ []) ∷ [])

-- the sides over the first n points, in the order of the points
abbrev pub sides_over : List (List ℤ) → ℕ → List (List ℕ)
sides_over points count = flat_map (side_over points) (range_with_len 0 count)

-- the sides, then the low and the high end
abbrev pub prism_faces : List (List ℤ) → List (List ℕ)
prism_faces points =
    sides_over points (length points)
    ++ range_with_len 0 (length points) ∷ range_with_len (length points) (length points) ∷ []

-- the points at the low end, then those at the high end
abbrev pub prism_points : List (List ℤ) → ℤ → ℤ → List (List ℤ)
prism_points points low high = map (at_height low) points ++ map (at_height high) points

-- the polygon moved along z between two heights, as points and faces
abbrev pub prism_of : List (List ℤ) → ℤ → ℤ → Mesh
prism_of points low high = record { points = prism_points points low high; faces = prism_faces points }

-- a polygon moved along z through a height (User Manual, linear_extrude)
abbrev pub extrusion_of : LengthUnit → Bool → List (List ℤ) → ℤ → Mesh
extrusion_of unit center points height = prism_of points (low_end unit center height) (high_end unit center height)

-- each point is behind or on each plane
abbrev pub AreBehindOrOn : List (List ℤ) → List Coefficients → Type 0
AreBehindOrOn points planes = All (λ m. All (λ p. value m (point_at p) ≤ℤ pos 0) points) planes
