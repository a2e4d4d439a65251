use Rattle.std.proofs.Common.{sym, ◌∙◌}
use Rattle.scad_lexer.proofs.Scanned.{exponent_then, sign_then, no_exponent, no_power}
use Rattle.scad_lexer.proofs.scan.power.Goals.{else-begins-2-via-then-begins-2+else-begins-3, else-begins-2-via-else-begins-2}
use Rattle.scad_lexer.proofs.scan.power.Goals as goal

pub returns-then-begins-clause-found : goal.returns-then-begins-clause-found
returns-then-begins-clause-found c = exponent_then c.args.text.now _ _ (sym c.begins.ensures.begins ∙ c.if-begins.true) c.power_digits-word.ensures.found

pub returns-then-begins-3-clause-found : goal.returns-then-begins-3-clause-found
returns-then-begins-3-clause-found c = sign_then c.args.text.now _ _ (sym c.begins.ensures.begins ∙ c.if-begins.false) (sym c.begins-else-begins.ensures.begins ∙ c.if-begins-2.true) (sym c.begins-then-begins-2.ensures.begins ∙ c.if-begins-3.true) c.power_digits-word-then-begins-3.ensures.found

pub returns-else-begins-2-clause-found : goal.returns-else-begins-2-clause-found
returns-else-begins-2-clause-found c = elim c.else-begins-2.branch [
  | else-begins-2-via-then-begins-2+else-begins-3 w ↦ no_power c.args.text.now (sym c.begins.ensures.begins ∙ c.if-begins.false) (sym c.begins-else-begins.ensures.begins ∙ w.if-begins-2.true) (sym w.begins-then-begins-2.ensures.begins ∙ w.if-begins-3.false)
  | else-begins-2-via-else-begins-2 w ↦ no_exponent c.args.text.now (sym c.begins.ensures.begins ∙ c.if-begins.false) (sym c.begins-else-begins.ensures.begins ∙ w.if-begins-2.false)
]
