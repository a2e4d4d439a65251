use Rattle.scad_grammar.proofs.DepthLaws.{program_is_shallow, shallow_program}
use Rattle.scad_grammar.proofs.programs_by_depth.Goals as goal

pub returns-clause-depths : goal.returns-clause-depths
returns-clause-depths c = program_is_shallow

pub returns-clause-program : goal.returns-clause-program
returns-clause-program c = shallow_program
