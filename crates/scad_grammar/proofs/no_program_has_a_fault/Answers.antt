use Rattle.scad_grammar.proofs.lemmas.FirstFaults.{no_fault}
use Rattle.scad_grammar.proofs.no_program_has_a_fault.Goals as goal

pub returns : goal.returns
returns c = λ d x s. no_fault d s x
