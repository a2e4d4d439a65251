use Rattle.scad_meaning.proofs.lemmas.ProgramPlaces.{fault_held}
use Rattle.scad_meaning.proofs.laws.faults_stand_in_their_program.Goals as goal

pub returns : goal.returns
returns c = fault_held
