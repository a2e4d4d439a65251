use Rattle.std.proofs.Common.{arith}
use Rattle.scad_modules.specs.Reading.{vector_in}
use Rattle.scad_modules.proofs.MatrixRows.{no_rows}
use Rattle.scad_modules.proofs.matrix.rows_of.Goals as goal

pub returns-in_default : goal.returns-in_default
returns-in_default c =
    no_rows (vector_in 4) c.args.values.now (λ e. absurd (omega arith)) (λ e. absurd (omega arith))

pub returns-in_default-2 : goal.returns-in_default-2
returns-in_default-2 c =
    no_rows (vector_in 4) c.args.values.now (λ e. absurd (omega arith)) (λ e. absurd (omega arith))
