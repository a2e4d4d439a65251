-- Inner combinations of points: the convex hull's inside, as the textbooks on convex sets define it.
use Rattle.std.specs.Prelude.{◌≡◌, ℤ, pos, ◌+ℤ◌, ◌*ℤ◌, ◌<ℤ◌, List, [], ◌∷◌, length, map, All}
use Rattle.plane_predicate.specs.Space.{Coordinates, point_at}

-- the sum of the weights
abbrev pub sum_of_weights : List ℤ → ℤ
sum_of_weights [] = pos 0
sum_of_weights (m ∷ weights) = m +ℤ sum_of_weights weights

-- the sum of some numbers, each times its weight
abbrev pub weighted_sum : List ℤ → List ℤ → ℤ
weighted_sum [] numbers = pos 0
weighted_sum (m ∷ weights) [] = pos 0
weighted_sum (m ∷ weights) (x ∷ numbers) = m *ℤ x +ℤ weighted_sum weights numbers

-- the point (x, y, z, w) is a combination of the points with weights above 0: the sum of the weights, times (x, y, z),
-- is w times the sum of the points, each times its weight
pub record IsInnerCombination (points : List (List ℤ)) (q : Coordinates) : Type 0 where
  pub weights : List ℤ
  pub one_each : length weights ≡ length points
  pub above : All (λ m. pos 0 <ℤ m) weights
  pub x : sum_of_weights weights *ℤ q.x ≡ q.w *ℤ weighted_sum weights (map (λ p. (point_at p).x) points)
  pub y : sum_of_weights weights *ℤ q.y ≡ q.w *ℤ weighted_sum weights (map (λ p. (point_at p).y) points)
  pub z : sum_of_weights weights *ℤ q.z ≡ q.w *ℤ weighted_sum weights (map (λ p. (point_at p).z) points)
