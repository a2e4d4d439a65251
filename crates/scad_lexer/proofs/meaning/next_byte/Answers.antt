use Rattle.std.proofs.Common.{sym, ◌∙◌}
use Rattle.scad_lexer.proofs.Meanings.{step_escape, bad_escape, step_plain, step_bad}
use Rattle.scad_lexer.proofs.meaning.next_byte.Goals as goal

pub returns-in-Some-clause-some : goal.returns-in-Some-clause-some
returns-in-Some-clause-some c = step_escape c.args.without_quotes.now c.in-Some.byte (sym c.begins.ensures.begins ∙ c.if-begins.true) c.in-Some.ensures.found

pub returns-in-None-clause-none : goal.returns-in-None-clause-none
returns-in-None-clause-none c = bad_escape c.args.without_quotes.now (sym c.begins.ensures.begins ∙ c.if-begins.true) c.in-None.ensures.found

pub returns-then-begins-2-clause-some : goal.returns-then-begins-2-clause-some
returns-then-begins-2-clause-some c = step_plain c.args.without_quotes.now (sym c.begins.ensures.begins ∙ c.if-begins.false) (sym c.begins-else-begins.ensures.begins ∙ c.if-begins-2.true)

pub returns-else-begins-2-clause-none : goal.returns-else-begins-2-clause-none
returns-else-begins-2-clause-none c = step_bad c.args.without_quotes.now c.requires (sym c.begins.ensures.begins ∙ c.if-begins.false) (sym c.begins-else-begins.ensures.begins ∙ c.if-begins-2.false)
