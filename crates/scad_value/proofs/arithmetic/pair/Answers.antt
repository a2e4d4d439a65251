use Rattle.std.proofs.Common.{◌∙◌, ap, sym}
use Rattle.scad_value.specs.Operators.{number_or_too_large}
use Rattle.scad_value.specs.Rows.{pair_row}
use Rattle.scad_value.proofs.Integers.{widens, sum_wide, sum_told, difference_wide, difference_told}
use Rattle.scad_value.proofs.arithmetic.pair.Goals as goal

pub overflow_cast-left : goal.overflow_cast-left
overflow_cast-left c = widens c.args.left c.ranges.left

pub overflow_cast-right : goal.overflow_cast-right
overflow_cast-right c = widens c.args.right c.ranges.right

pub overflow_add-left : goal.overflow_add-left
overflow_add-left c = sum_wide c.args.left c.args.right c.ranges.left c.ranges.right

pub overflow_cast-left-in-Difference : goal.overflow_cast-left-in-Difference
overflow_cast-left-in-Difference c = widens c.args.left c.ranges.left

pub overflow_cast-right-in-Difference : goal.overflow_cast-right-in-Difference
overflow_cast-right-in-Difference c = widens c.args.right c.ranges.right

pub overflow_sub-left : goal.overflow_sub-left
overflow_sub-left c = difference_wide c.args.left c.args.right c.ranges.left c.ranges.right

pub returns-in-Sum : goal.returns-in-Sum
returns-in-Sum c = c.number_or_too_large.ensures
    ∙ ap number_or_too_large (sum_told c.args.left c.args.right c.ranges.left c.ranges.right)
    ∙ ap (λ row. pair_row row c.args.left c.args.right) (sym c.in-Sum.is)

pub returns-in-Difference : goal.returns-in-Difference
returns-in-Difference c = c.number_or_too_large-in-Difference.ensures
    ∙ ap number_or_too_large (difference_told c.args.left c.args.right c.ranges.left c.ranges.right)
    ∙ ap (λ row. pair_row row c.args.left c.args.right) (sym c.in-Difference.is)
