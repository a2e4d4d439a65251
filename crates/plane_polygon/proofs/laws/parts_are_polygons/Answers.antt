use Rattle.plane_polygon.proofs.lemmas.Parts.{behind_polygon, ahead_polygon, behind_points, ahead_points}
use Rattle.plane_polygon.proofs.laws.parts_are_polygons.Goals as goal

pub returns : goal.returns
returns c = record { behind = behind_polygon; ahead = ahead_polygon; behind_points = behind_points; ahead_points = ahead_points }
