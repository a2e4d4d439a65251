use Rattle.plane_polygon.proofs.lemmas.BoxPoints.{box_polygon_is}
use Rattle.plane_polygon.proofs.laws.box_polygons_are_polygons.Goals as goal

pub returns : goal.returns
returns c = record { polygon = λ m h r. (box_polygon_is m h r).polygon; points = λ m h r. (box_polygon_is m h r).points }
