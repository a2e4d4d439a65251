use Rattle.scad_grammar.proofs.lemmas.Programs.{one_program}
use Rattle.scad_grammar.proofs.one_program_each.Goals as goal

pub returns : goal.returns
returns c = one_program
