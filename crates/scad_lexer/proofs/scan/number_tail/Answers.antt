use Rattle.std.proofs.Common.{sym, ◌∙◌}
use Rattle.scad_lexer.proofs.Scanned.{power_then, letter_ends, number_ends}
use Rattle.scad_lexer.proofs.scan.number_tail.Goals as goal

pub returns-then-begins-clause-found : goal.returns-then-begins-clause-found
returns-then-begins-clause-found c = power_then c.args.text.now _ _ (sym c.begins.ensures.begins ∙ c.if-begins.true) c.power-word.ensures.found

pub returns-then-begins-2-clause-found : goal.returns-then-begins-2-clause-found
returns-then-begins-2-clause-found c = letter_ends c.args.text.now (sym c.begins.ensures.begins ∙ c.if-begins.false) (sym c.begins-else-begins.ensures.begins ∙ c.if-begins-2.true)

pub returns-else-begins-2-clause-found : goal.returns-else-begins-2-clause-found
returns-else-begins-2-clause-found c = number_ends c.args.text.now (sym c.begins.ensures.begins ∙ c.if-begins.false) (sym c.begins-else-begins.ensures.begins ∙ c.if-begins-2.false)
