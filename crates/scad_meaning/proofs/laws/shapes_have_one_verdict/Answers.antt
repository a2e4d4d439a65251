use Rattle.scad_meaning.proofs.lemmas.Judges.{some_judge}
use Rattle.scad_meaning.proofs.lemmas.Verdicts.{one_solid_verdict, one_flat_verdict, one_height_verdict, one_hull_verdict}
use Rattle.scad_meaning.proofs.laws.shapes_have_one_verdict.Goals as goal

pub returns-clause-some : goal.returns-clause-some
returns-clause-some c = some_judge

pub returns-clause-solids : goal.returns-clause-solids
returns-clause-solids c = one_solid_verdict

pub returns-clause-flats : goal.returns-clause-flats
returns-clause-flats c = one_flat_verdict

pub returns-clause-heights : goal.returns-clause-heights
returns-clause-heights c = one_height_verdict

pub returns-clause-hulls : goal.returns-clause-hulls
returns-clause-hulls c = one_hull_verdict
