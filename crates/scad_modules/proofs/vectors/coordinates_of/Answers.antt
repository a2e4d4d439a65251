use Rattle.std.proofs.Common.{arith}
use Rattle.scad_modules.proofs.Lengths.{no_coordinates}
use Rattle.scad_modules.proofs.vectors.coordinates_of.Goals as goal

pub returns-in_default : goal.returns-in_default
returns-in_default c =
    no_coordinates c.args.third c.args.values.now (λ e. absurd (omega arith)) (λ e. absurd (omega arith))

pub returns-in_default-2 : goal.returns-in_default-2
returns-in_default-2 c =
    no_coordinates c.args.third c.args.values.now (λ e. absurd (omega arith)) (λ e. absurd (omega arith))
