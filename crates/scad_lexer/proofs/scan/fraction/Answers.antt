use Rattle.scad_lexer.proofs.Scanned.{fraction_then}
use Rattle.scad_lexer.proofs.scan.fraction.Goals as goal

pub returns-clause-found : goal.returns-clause-found
returns-clause-found c = fraction_then c.args.text.now c.run-digits.result c.run-digits.ensures.run _ _ c.number_tail-word.ensures.found
