use Rattle.primitives.specs.Sizes.{length_in_grid_steps, high_end, low_end}
use Rattle.round_four.proofs.Behind.{all_behind}
use Rattle.round_four.proofs.laws.corners_are_behind_or_on_planes.Goals as goal

pub returns : goal.returns
returns c = λ unit center height low high f planes are. all_behind f (length_in_grid_steps unit low) (length_in_grid_steps unit high) (low_end unit center height) (high_end unit center height) planes are
