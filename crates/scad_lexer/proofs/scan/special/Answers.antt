use Rattle.std.proofs.Common.{sym, ◌∙◌}
use Rattle.scad_lexer.proofs.Scanned.{special_name, no_special}
use Rattle.scad_lexer.proofs.scan.special.Goals as goal

pub returns-then-begins-clause-found : goal.returns-then-begins-clause-found
returns-then-begins-clause-found c = sym (special_name c.args.text.now _ (sym c.begins.ensures.begins ∙ c.if-begins.true) c.run.ensures.run)

pub returns-else-begins-clause-found : goal.returns-else-begins-clause-found
returns-else-begins-clause-found c = sym (no_special c.args.text.now (sym c.begins.ensures.begins ∙ c.if-begins.false))
