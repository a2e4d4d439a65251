use Rattle.scad_func.proofs.Standing.{standing}
use Rattle.scad_func.proofs.laws.enter_what_stands.Goals as goal

pub returns : goal.returns
returns c = standing
