use Rattle.std.proofs.Common.{arith, sym, ◌∙◌}
use Rattle.scad_lexer.proofs.Meanings.{zero_empty, zero_point, zero_point_none}
use Rattle.scad_lexer.proofs.meaning.is_zero_fraction.Goals as goal

pub returns-in-empty : goal.returns-in-empty
returns-in-empty c = sym (zero_empty c.args.bytes.now (omega arith))

pub returns-then-begins : goal.returns-then-begins
returns-then-begins c = sym (zero_point c.args.bytes.now (omega arith) _ _ (sym c.begins.ensures.begins ∙ c.if-begins.true) (sym c.is_zeros.ensures))

pub returns-else-begins : goal.returns-else-begins
returns-else-begins c = c.if-begins.false ∙ sym (zero_point_none c.args.bytes.now (omega arith) (sym c.begins.ensures.begins ∙ c.if-begins.false))
