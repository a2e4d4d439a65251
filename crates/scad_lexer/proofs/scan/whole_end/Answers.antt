use Rattle.std.proofs.Common.{sym, ◌∙◌}
use Rattle.scad_lexer.proofs.Scanned.{point_then, whole_ends}
use Rattle.scad_lexer.proofs.scan.whole_end.Goals as goal

pub returns-then-begins-clause-found : goal.returns-then-begins-clause-found
returns-then-begins-clause-found c = point_then c.args.text.now _ _ c.requires (sym c.begins.ensures.begins ∙ c.if-begins.true) c.fraction-word.ensures.found

pub returns-else-begins-clause-found : goal.returns-else-begins-clause-found
returns-else-begins-clause-found c = whole_ends c.args.text.now _ c.requires (sym c.begins.ensures.begins ∙ c.if-begins.false) c.number_tail.ensures.found
