use Rattle.primitives.specs.Sizes.{high_end, low_end}
use Rattle.primitives.proofs.lemmas.PrismPlanes.{prism_behind}
use Rattle.primitives.proofs.laws.corners_of_extrusions_are_behind_or_on_planes.Goals as goal

pub returns : goal.returns
returns c = λ unit center points height f planes are. prism_behind f points (low_end unit center height) (high_end unit center height) planes are
