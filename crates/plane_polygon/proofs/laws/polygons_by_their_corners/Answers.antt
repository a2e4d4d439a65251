use Rattle.plane_polygon.proofs.ByCorners.{to_corners, from_corners}
use Rattle.plane_polygon.proofs.laws.polygons_by_their_corners.Goals as goal

pub returns : goal.returns
returns c = λ s. (to_corners s, from_corners s)
