-- Ways through faces, in whole numbers: how often a way crosses faces. Points and corners are in units.
use Rattle.std.specs.Prelude.{ℕ, Bool, ◌&&◌, List, [], ◌∷◌, ◌||◌, ◌≡◌, true, ℤ, pos, ◌-ℤ◌, ◌<ℤ◌, int_lt}
use Rattle.std.specs.List.{list_all, list_any}
use Rattle.plane_predicate.specs.Space.{Coefficients, Coordinates, orientation_seen_from}
use Rattle.closed_surface.specs.Ways.{displacement}
use Rattle.closed_surface.specs.Closed.{Edge, edges_of, corners_at}
use Rattle.plane_predicate.specs.Sums.{sum_over}
use Rattle.closed_surface.specs.Near.{indicator}

-- the plane through the origin that faces the way from a to b
abbrev pub plane_facing : Coordinates → Coordinates → Coefficients
plane_facing a b = record { a = (displacement a b).x; b = (displacement a b).y; c = (displacement a b).z; d = pos 0 }

-- whether the point is behind the plane of a face's first three corners or ahead of it: below 0, or above 0
abbrev pub orientation_to_face : List Coordinates → Coordinates → ℤ
orientation_to_face [] x = pos 0
orientation_to_face (p ∷ []) x = pos 0
orientation_to_face (p ∷ q ∷ []) x = pos 0
orientation_to_face (p ∷ q ∷ r ∷ corners) x = orientation_seen_from (plane_facing p x) p q r

-- the way from a to b passes left of the edge, for who looks from b to a
abbrev pub passes_left : Coordinates → Coordinates → Edge → Bool
passes_left a b e = int_lt (pos 0) (orientation_seen_from (plane_facing a b) e.0 e.1 a)

-- the way from a to b goes through the face from behind to ahead: a is behind its plane, b is ahead, and the way passes
-- left of each of its edges
abbrev pub goes_through : Coordinates → Coordinates → List Coordinates → Bool
goes_through a b corners = int_lt (orientation_to_face corners a) (pos 0) && (int_lt (pos 0) (orientation_to_face corners b) && list_all (passes_left a b) (edges_of corners))

-- the crossing of a face by the way from a to b: 1 from behind to ahead, -1 from ahead to behind, and else 0
abbrev pub crossing : Coordinates → Coordinates → List Coordinates → ℤ
crossing a b corners = indicator (goes_through a b corners) -ℤ indicator (goes_through b a corners)

-- the sum of the crossings of a text's faces by the way from a to b
abbrev pub crossings : Coordinates → Coordinates → List Coordinates → List (List ℕ) → ℤ
crossings a b vertices faces = sum_over (λ face. crossing a b (corners_at vertices face)) faces

-- the way from a to b passes right of the edge, for who looks from b to a
abbrev pub passes_right : Coordinates → Coordinates → Edge → Bool
passes_right a b e = int_lt (orientation_seen_from (plane_facing a b) e.0 e.1 a) (pos 0)

-- the way from a to b passes left of all edges of the face, or right of one
abbrev pub passes_clear : Coordinates → Coordinates → List Coordinates → Bool
passes_clear a b corners = list_all (passes_left a b) (edges_of corners) || list_any (passes_right a b) (edges_of corners)

-- Where the way leads from one side of the face's plane to the other, it passes left of all edges or right of one, seen from
-- ahead. An end on that plane asks nothing: laws keep ends off it.
pub record TouchesNoEdge (a b : Coordinates) (corners : List Coordinates) : Type 0 where
  pub out : orientation_to_face corners a <ℤ pos 0 → pos 0 <ℤ orientation_to_face corners b → passes_clear a b corners ≡ true
  pub back : orientation_to_face corners b <ℤ pos 0 → pos 0 <ℤ orientation_to_face corners a → passes_clear b a corners ≡ true
