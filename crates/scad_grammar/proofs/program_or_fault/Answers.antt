use Rattle.scad_grammar.proofs.lemmas.FirstFaults.{program_or_fault}
use Rattle.scad_grammar.proofs.program_or_fault.Goals as goal

pub returns : goal.returns
returns c = program_or_fault
