use Rattle.scad_design.proofs.OnePlacing.{one_placing}
use Rattle.scad_design.proofs.laws.one_placing.Goals as goal

pub returns : goal.returns
returns c = λ design known out other h g. one_placing design known out other h g
