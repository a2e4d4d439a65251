-- A worked combination of points.
use Rattle.std.specs.Prelude.{ℤ, List, [], ◌∷◌, pos}
use Rattle.plane_predicate.specs.Space.{Coordinates}

-- the points (0, 0, 0) and (3, 0, 0)
abbrev pub two_points : List (List ℤ)
two_points = (pos 0 ∷ pos 0 ∷ pos 0 ∷ []) ∷ (pos 3 ∷ pos 0 ∷ pos 0 ∷ []) ∷ []

-- the point (1, 0, 0)
abbrev pub point_between_them : Coordinates
point_between_them = record { x = pos 1; y = pos 0; z = pos 0; w = pos 1 }
