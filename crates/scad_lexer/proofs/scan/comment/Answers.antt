use Rattle.std.proofs.Common.{sym, ◌∙◌, arith}
use Rattle.scad_lexer.proofs.Scanned.{comment_closed, comment_more, comment_open}
use Rattle.scad_lexer.proofs.scan.comment.Goals as goal

pub returns-then-ends_comment-clause-found : goal.returns-then-ends_comment-clause-found
returns-then-ends_comment-clause-found c = comment_closed c.args.text.now _ c.loop-count.star c.loop-count.count c.loop-count-test.true c.loop-count.invariant.told (sym c.ends_comment.ensures ∙ c.if-ends_comment.true)

pub loop-count-preserved : goal.loop-count-preserved
loop-count-preserved c = record { within = omega arith; told = comment_more c.args.text.now _ c.loop-count.star c.loop-count.count c.loop-count-test.true c.loop-count.invariant.told (sym c.ends_comment.ensures ∙ c.if-ends_comment.false) }

pub returns-clause-found : goal.returns-clause-found
returns-clause-found c = comment_open c.args.text.now _ c.loop-count.star c.loop-count.count c.loop-count-test.false c.loop-count.invariant.told
