use Rattle.scad_parser.proofs.Whole.{once_ends}
use Rattle.scad_parser.proofs.program.an_only_end_is_last.Goals as goal

pub returns : goal.returns
returns c = once_ends
