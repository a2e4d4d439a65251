use Rattle.shape_hulls.proofs.Prisms.{extrusion_is_hull}
use Rattle.shape_hulls.proofs.laws.extrusions_are_hulls_of_their_points.Goals as goal

pub returns : goal.returns
returns c = extrusion_is_hull
