use Rattle.shape_hulls.proofs.Cylinders.{cylinder_is_hull}
use Rattle.shape_hulls.proofs.laws.cylinders_are_hulls_of_their_points.Goals as goal

pub returns : goal.returns
returns c = cylinder_is_hull
