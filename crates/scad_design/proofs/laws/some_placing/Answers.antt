use Rattle.scad_design.proofs.lemmas.SomePlacing.{some_placing}
use Rattle.scad_design.proofs.laws.some_placing.Goals as goal

pub returns : goal.returns
returns c = some_placing
