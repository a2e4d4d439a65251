use Rattle.std.proofs.Common.{arith}
use Rattle.std.proofs.lemmas.Int.{ints}
use Rattle.scad_builtin.proofs.Powers.{one_row, minus_row}
use Rattle.scad_builtin.proofs.number.whole_power.Goals as goal

pub returns-in-1 : goal.returns-in-1
returns-in-1 c = one_row c.args.base c.args.exponent (omega (arith, ints))

pub returns-in-minus1 : goal.returns-in-minus1
returns-in-minus1 c =
    minus_row c.args.base c.alternating.result c.args.exponent (omega (arith, ints)) c.alternating.ensures
