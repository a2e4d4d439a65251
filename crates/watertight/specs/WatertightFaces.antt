-- Watertight faces.
use Rattle.std.specs.Prelude.{◌≡◌, ℕ, true, pos, ◌<ℤ◌, List, map}
use Rattle.plane_predicate.specs.Space.{Coordinates}
use Rattle.closed_surface.specs.Closed.{corners_at}
use Rattle.watertight.specs.Everywhere.{IsClosedAtEveryPoint}
use Rattle.watertight.specs.Pieces.{has_no_corner_within, count_of_edges_over}

-- the faces are closed at every point of space that is no corner of a face, and each of their directed elementary edges stands
-- as often as its reverse
pub record AreWatertight (vertices : List Coordinates) (faces : List (List ℕ)) : Type 0 where
  pub everywhere : IsClosedAtEveryPoint vertices faces
  pub edges : (p q : Coordinates) → pos 0 <ℤ p.w → pos 0 <ℤ q.w → has_no_corner_within (map (corners_at vertices) faces) (p, q) ≡ true →
      count_of_edges_over (map (corners_at vertices) faces) (p, q) ≡ count_of_edges_over (map (corners_at vertices) faces) (q, p)
