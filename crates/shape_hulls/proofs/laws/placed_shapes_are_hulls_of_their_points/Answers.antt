use Rattle.shape_hulls.proofs.Placed.{behind_combined, behind_in_reach, placed_is_hull}
use Rattle.shape_hulls.proofs.laws.placed_shapes_are_hulls_of_their_points.Goals as goal

pub returns-clause-hull : goal.returns-clause-hull
returns-clause-hull c = placed_is_hull

pub returns-clause-behind : goal.returns-clause-behind
returns-clause-behind c = behind_combined

pub returns-clause-reach : goal.returns-clause-reach
returns-clause-reach c = behind_in_reach
