use Rattle.std.proofs.Common.{sym, ◌∙◌}
use Rattle.scad_lexer.proofs.Scanned.{power_letter, power_ends}
use Rattle.scad_lexer.proofs.scan.power_digits.Goals as goal

pub returns-then-begins-clause-found : goal.returns-then-begins-clause-found
returns-then-begins-clause-found c = power_letter c.args.text.now c.run-digits.result c.run-digits.ensures.run (sym c.begins.ensures.begins ∙ c.if-begins.true)

pub returns-else-begins-clause-found : goal.returns-else-begins-clause-found
returns-else-begins-clause-found c = power_ends c.args.text.now c.run-digits.result c.run-digits.ensures.run (sym c.begins.ensures.begins ∙ c.if-begins.false)
