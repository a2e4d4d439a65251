use Rattle.shape_hulls.proofs.Polyhedra.{polyhedron_is_hull, polyhedron_is_hull_of_points}
use Rattle.shape_hulls.proofs.laws.polyhedra_are_hulls_of_their_corners.Goals as goal

pub returns-clause-faces : goal.returns-clause-faces
returns-clause-faces c = polyhedron_is_hull

pub returns-clause-points : goal.returns-clause-points
returns-clause-points c = polyhedron_is_hull_of_points
