use Rattle.std.proofs.Common.{◌∙◌}
use Rattle.scad_lexer.proofs.Meanings.{too_large}
use Rattle.scad_lexer.proofs.meaning.number.Goals as goal

pub returns-then-number-ge-TOO_LARGE : goal.returns-then-number-ge-TOO_LARGE
returns-then-number-ge-TOO_LARGE c = too_large c.args.digits.now c.loop-digit.digit-index _ c.loop-digit.number (c.from.ensures ∙ c.saturating_sub.ensures) c.loop-digit-test.true c.loop-digit.invariant.told c.if-number-ge-TOO_LARGE.true
