use Rattle.shape_hulls.proofs.Cubes.{cube_is_hull}
use Rattle.shape_hulls.proofs.laws.cubes_are_hulls_of_their_points.Goals as goal

pub returns : goal.returns
returns c = cube_is_hull
