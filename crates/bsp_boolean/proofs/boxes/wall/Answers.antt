use Rattle.std.proofs.lemmas.List.{get_or_read}
use Rattle.plane_polygon.specs.Polygons.{missing_plane}
use Rattle.bsp_boolean.proofs.boxes.wall.Goals as goal

pub returns : goal.returns
returns c = get_or_read c.args.planes.now c.args.i c.index-planes-i.result c.requires c.index-planes-i.is missing_plane
