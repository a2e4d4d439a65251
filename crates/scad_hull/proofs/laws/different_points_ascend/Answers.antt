use Rattle.scad_hull.proofs.Ordered.{members}
use Rattle.scad_hull.proofs.laws.different_points_ascend.Goals as goal

pub returns-clause-members : goal.returns-clause-members
returns-clause-members c = members
