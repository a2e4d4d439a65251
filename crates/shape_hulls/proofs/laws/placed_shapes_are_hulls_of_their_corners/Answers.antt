use Rattle.shape_hulls.proofs.Placed.{behind_combined_of_faces, behind_in_reach_of_faces, placed_is_hull_of_faces}
use Rattle.shape_hulls.proofs.laws.placed_shapes_are_hulls_of_their_corners.Goals as goal

pub returns-clause-hull : goal.returns-clause-hull
returns-clause-hull c = placed_is_hull_of_faces

pub returns-clause-behind : goal.returns-clause-behind
returns-clause-behind c = behind_combined_of_faces

pub returns-clause-reach : goal.returns-clause-reach
returns-clause-reach c = behind_in_reach_of_faces
