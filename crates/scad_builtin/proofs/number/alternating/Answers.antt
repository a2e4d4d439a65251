use Rattle.scad_builtin.proofs.Powers.{even_row, odd_row}
use Rattle.scad_builtin.proofs.number.alternating.Goals as goal

pub returns-then-exponent-eq0 : goal.returns-then-exponent-eq0
returns-then-exponent-eq0 c = even_row c.args.exponent c.if-exponent-eq0.true

pub returns-else-exponent-eq0 : goal.returns-else-exponent-eq0
returns-else-exponent-eq0 c = odd_row c.args.exponent c.if-exponent-eq0.false
