use Rattle.std.proofs.Common.{◌∙◌, ap, sym}
use Rattle.scad_value.specs.Operators.{number_or_too_large}
use Rattle.scad_value.specs.Rows.{part_row}
use Rattle.scad_value.proofs.Integers.{widens, widened, negated_wide, negated_told}
use Rattle.scad_value.proofs.arithmetic.part.Goals as goal

pub overflow_cast-n : goal.overflow_cast-n
overflow_cast-n c = widens c.args.n c.ranges.n

pub overflow_sub-n : goal.overflow_sub-n
overflow_sub-n c = negated_wide c.args.n c.ranges.n

pub overflow_cast-n-in-Keep : goal.overflow_cast-n-in-Keep
overflow_cast-n-in-Keep c = widens c.args.n c.ranges.n

pub returns-in-Negate : goal.returns-in-Negate
returns-in-Negate c = c.number_or_too_large.ensures
    ∙ ap number_or_too_large (negated_told c.args.n c.ranges.n)
    ∙ ap (λ row. part_row row c.args.n) (sym c.in-Negate.is)

pub returns-in-Keep : goal.returns-in-Keep
returns-in-Keep c = c.number_or_too_large-in-Keep.ensures
    ∙ ap number_or_too_large (widened c.args.n c.ranges.n)
    ∙ ap (λ row. part_row row c.args.n) (sym c.in-Keep.is)
