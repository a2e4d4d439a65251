-- Planes that no point of a shape is ahead of.
use Rattle.std.proofs.Common.{ℕ, List, ◌<◌, length, get_or, ℤ, pos, ◌≤ℤ◌, [], All}
use Rattle.plane_predicate.specs.Space.{Coefficients, point_at, value}
use Rattle.primitives.specs.Shapes.{value_at_point}

-- then no corner of a face is ahead
pub none_of_faces : (points : List (List ℤ)) (faces : List (List ℕ)) (m : Coefficients) → All (λ p. value m (point_at p) ≤ℤ pos 0) points →
    All (λ f. All (λ i. i < length points) f) faces → All (λ f. All (λ i. value_at_point points m i ≤ℤ pos 0) f) faces
none_of_faces points faces m h there = λ j d lt. λ k e within. h (get_or (get_or faces j d) k e) [] (there j d lt k e within)
