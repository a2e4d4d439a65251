use Rattle.std.proofs.Common.{sym, ◌∙◌, arith}
use Rattle.scad_lexer.proofs.Scanned.{text_newline, text_closed, text_more, text_ends}
use Rattle.scad_lexer.proofs.scan.text.Goals as goal

pub returns-then-byte-eq10-clause-found : goal.returns-then-byte-eq10-clause-found
returns-then-byte-eq10-clause-found c = text_newline c.args.text.now _ c.loop-count.escaped c.loop-count.count c.loop-count-test.true c.loop-count.invariant.told c.if-byte-eq10.true

pub returns-then-ends_text-clause-found : goal.returns-then-ends_text-clause-found
returns-then-ends_text-clause-found c = text_closed c.args.text.now _ c.loop-count.escaped c.loop-count.count c.loop-count-test.true c.loop-count.invariant.told (sym c.ends_text.ensures ∙ c.if-ends_text.true)

pub loop-count-preserved : goal.loop-count-preserved
loop-count-preserved c = let next = text_more c.args.text.now _ c.loop-count.escaped c.loop-count.count c.loop-count-test.true c.loop-count.invariant.told c.if-byte-eq10.false (sym c.ends_text.ensures ∙ c.if-ends_text.false) in record { within = omega arith; told = rw c.begins_escape-escaped.ensures next }

pub returns-clause-found : goal.returns-clause-found
returns-clause-found c = text_ends c.args.text.now _ c.loop-count.escaped c.loop-count.count c.loop-count-test.false c.loop-count.invariant.told
