use Rattle.watertight.proofs.lemmas.Vertices.{all_in_reach, watertight}
use Rattle.watertight.proofs.laws.texts_keep_within_reach.Goals as goal

pub returns-clause-vertices : goal.returns-clause-vertices
returns-clause-vertices c = λ unit bytes f proper keeps text. all_in_reach unit bytes f proper.leaves keeps text

pub returns-clause-watertight : goal.returns-clause-watertight
returns-clause-watertight c = λ unit bytes f proper keeps text. watertight unit bytes f proper.leaves keeps text
