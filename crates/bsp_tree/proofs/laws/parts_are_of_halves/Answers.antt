use Rattle.bsp_tree.proofs.lemmas.Halves.{behind_half, ahead_half, low_half, high_half}
use Rattle.bsp_tree.proofs.laws.parts_are_of_halves.Goals as goal

pub returns-clause-part_behind : goal.returns-clause-part_behind
returns-clause-part_behind c = low_half

pub returns-clause-part_ahead : goal.returns-clause-part_ahead
returns-clause-part_ahead c = high_half

pub returns-clause-behind : goal.returns-clause-behind
returns-clause-behind c = behind_half

pub returns-clause-ahead : goal.returns-clause-ahead
returns-clause-ahead c = ahead_half
