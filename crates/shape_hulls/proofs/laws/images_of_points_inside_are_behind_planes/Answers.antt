use Rattle.shape_hulls.proofs.Placed.{image_behind}
use Rattle.shape_hulls.proofs.laws.images_of_points_inside_are_behind_planes.Goals as goal

pub returns : goal.returns
returns c = image_behind
