use Rattle.ray_crossings.proofs.Places.{all_limits}
use Rattle.ray_crossings.proofs.laws.vertices_are_limits.Goals as goal

pub returns : goal.returns
returns c = λ unit bytes f proper text inside. all_limits unit bytes f proper.leaves text inside
