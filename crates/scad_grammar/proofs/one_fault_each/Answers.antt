use Rattle.scad_grammar.proofs.lemmas.FirstFaults.{one_fault}
use Rattle.scad_grammar.proofs.one_fault_each.Goals as goal

pub returns : goal.returns
returns c = one_fault
