use Rattle.primitives.specs.Sizes.{high_end, low_end}
use Rattle.primitives.proofs.lemmas.PrismPlanes.{prism_behind}
use Rattle.round_four.specs.Circles.{circle_of}
use Rattle.round_four.proofs.laws.corners_of_extruded_circles_are_behind_or_on_planes.Goals as goal

pub returns : goal.returns
returns c = λ unit center radius height f planes are. prism_behind f (circle_of unit radius) (low_end unit center height) (high_end unit center height) planes are
