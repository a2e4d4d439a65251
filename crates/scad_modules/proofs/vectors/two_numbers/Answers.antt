use Rattle.std.proofs.Common.{arith}
use Rattle.scad_modules.specs.Reading.{number_in_value}
use Rattle.scad_modules.proofs.Lengths.{other_length}
use Rattle.scad_modules.proofs.vectors.two_numbers.Goals as goal

pub returns-in_default : goal.returns-in_default
returns-in_default c = other_length number_in_value 2 c.args.values.now (λ e. absurd (omega arith))

pub returns-in_default-2 : goal.returns-in_default-2
returns-in_default-2 c = other_length number_in_value 2 c.args.values.now (λ e. absurd (omega arith))
