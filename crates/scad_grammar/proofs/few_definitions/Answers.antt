use Rattle.scad_grammar.proofs.lemmas.Counts.{few_begun}
use Rattle.scad_grammar.proofs.few_definitions.Goals as goal

pub returns : goal.returns
returns c = few_begun
