use Rattle.ray_crossings.proofs.Corner.{corner_is_limit, beside_is_none}
use Rattle.ray_crossings.proofs.laws.a_corner_is_a_limit.Goals as goal

pub returns-clause-corner : goal.returns-clause-corner
returns-clause-corner c = corner_is_limit

pub returns-clause-beside : goal.returns-clause-beside
returns-clause-beside c = beside_is_none
