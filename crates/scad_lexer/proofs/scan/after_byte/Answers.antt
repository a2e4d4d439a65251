use Rattle.std.proofs.Common.{sym, ◌∙◌}
use Rattle.scad_lexer.proofs.Scanned.{blank_word, name_word, numeral_word}
use Rattle.scad_lexer.proofs.scan.after_byte.Goals as goal

pub returns-then-has-clause-found : goal.returns-then-has-clause-found
returns-then-has-clause-found c = blank_word _ _ (sym c.has.ensures ∙ c.if-has.true)

pub returns-then-has-2-clause-found : goal.returns-then-has-2-clause-found
returns-then-has-2-clause-found c = name_word _ _ _ (sym c.has.ensures ∙ c.if-has.false) (sym c.has-else-has.ensures ∙ c.if-has-2.true) c.run.ensures.run

pub returns-then-has-3-clause-found : goal.returns-then-has-3-clause-found
returns-then-has-3-clause-found c = numeral_word _ _ _ (sym c.has.ensures ∙ c.if-has.false) (sym c.has-else-has.ensures ∙ c.if-has-2.false) (sym c.has-else-has-2.ensures ∙ c.if-has-3.true) c.whole.ensures.found
