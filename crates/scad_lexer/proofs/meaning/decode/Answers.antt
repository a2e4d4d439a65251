use Rattle.scad_lexer.proofs.Meanings.{decode_end}
use Rattle.scad_lexer.proofs.meaning.decode.Goals as goal

pub returns-clause-value : goal.returns-clause-value
returns-clause-value c = decode_end c.args.without_quotes.now _ _ _ c.loop-count-test.false c.loop-count.invariant.told
