use Rattle.ray_crossings.proofs.Boxes.{limits_within, within_planes}
use Rattle.ray_crossings.proofs.laws.printed_boxes_are_those_of_solids.Goals as goal

pub returns-clause-limits : goal.returns-clause-limits
returns-clause-limits c = λ unit bytes f proper keeps text. limits_within unit bytes f proper.leaves keeps text

pub returns-clause-bounds : goal.returns-clause-bounds
returns-clause-bounds c = λ unit bytes f proper keeps text. within_planes unit bytes f proper.leaves keeps text
