use Rattle.plane_polygon.proofs.lemmas.Faces.{others_left}
use Rattle.plane_polygon.proofs.laws.corners_go_counterclockwise.Goals as goal

pub returns : goal.returns
returns c = others_left
