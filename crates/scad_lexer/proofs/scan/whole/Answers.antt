use Rattle.scad_lexer.proofs.Scanned.{whole_then, no_digit}
use Rattle.scad_lexer.proofs.scan.whole.Goals as goal

pub whole_end-word-requires : goal.whole_end-word-requires
whole_end-word-requires c = no_digit c.args.text.now c.run-digits.result c.run-digits.ensures.run

pub returns-clause-found : goal.returns-clause-found
returns-clause-found c = whole_then c.args.text.now c.run-digits.result c.run-digits.ensures.run _ _ c.whole_end-word.ensures.found
