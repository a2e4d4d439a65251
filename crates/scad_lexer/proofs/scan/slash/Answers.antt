use Rattle.std.proofs.Common.{sym, ◌∙◌}
use Rattle.scad_lexer.proofs.Scanned.{line_comment, block_comment, slash_alone}
use Rattle.scad_lexer.proofs.scan.slash.Goals as goal

pub returns-then-begins-clause-found : goal.returns-then-begins-clause-found
returns-then-begins-clause-found c = line_comment c.args.text.now _ (sym c.begins.ensures.begins ∙ c.if-begins.true) c.run.ensures.run

pub returns-then-begins-2-clause-found : goal.returns-then-begins-2-clause-found
returns-then-begins-2-clause-found c = block_comment c.args.text.now _ _ (sym c.begins.ensures.begins ∙ c.if-begins.false) (sym c.begins-else-begins.ensures.begins ∙ c.if-begins-2.true) c.comment-word.ensures.found

pub returns-else-begins-2-clause-found : goal.returns-else-begins-2-clause-found
returns-else-begins-2-clause-found c = slash_alone c.args.text.now (sym c.begins.ensures.begins ∙ c.if-begins.false) (sym c.begins-else-begins.ensures.begins ∙ c.if-begins-2.false)
