use Rattle.std.proofs.Common.{sym, ◌∙◌}
use Rattle.scad_lexer.proofs.Scanned.{fraction_behind, point_alone}
use Rattle.scad_lexer.proofs.scan.point.Goals as goal

pub returns-then-begins-clause-found : goal.returns-then-begins-clause-found
returns-then-begins-clause-found c = fraction_behind c.args.text.now _ _ (sym c.begins.ensures.begins ∙ c.if-begins.true) c.fraction-word.ensures.found

pub returns-else-begins-clause-found : goal.returns-else-begins-clause-found
returns-else-begins-clause-found c = point_alone c.args.text.now (sym c.begins.ensures.begins ∙ c.if-begins.false)
