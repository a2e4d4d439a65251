use Rattle.std.proofs.Common.{◌∙◌}
use Rattle.scad_value.proofs.Integers.{by_zero, divides, widens, exact_quotient, inexact_quotient}
use Rattle.scad_value.proofs.arithmetic.quotient.Goals as goal

pub returns-then-right-eq0 : goal.returns-then-right-eq0
returns-then-right-eq0 c = by_zero c.args.right _ c.ranges.right c.if-right-eq0.true

pub overflow_cast-left : goal.overflow_cast-left
overflow_cast-left c = widens c.args.left c.ranges.left

pub overflow_cast-right : goal.overflow_cast-right
overflow_cast-right c = widens c.args.right c.ranges.right

pub nonzero_rem-left : goal.nonzero_rem-left
nonzero_rem-left c = divides c.args.left c.args.right c.if-right-eq0.false c.ranges.left c.ranges.right

pub overflow_cast-left-2 : goal.overflow_cast-left-2
overflow_cast-left-2 c = widens c.args.left c.ranges.left

pub overflow_cast-right-2 : goal.overflow_cast-right-2
overflow_cast-right-2 c = widens c.args.right c.ranges.right

pub nonzero_div-left : goal.nonzero_div-left
nonzero_div-left c = divides c.args.left c.args.right c.if-right-eq0.false c.ranges.left c.ranges.right

pub returns-then-left-right-ne0 : goal.returns-then-left-right-ne0
returns-then-left-right-ne0 c = inexact_quotient c.args.left c.args.right c.if-right-eq0.false c.ranges.left c.ranges.right c.if-left-right-ne0.true

pub returns : goal.returns
returns c = c.number_or_too_large.ensures
    ∙ exact_quotient c.args.left c.args.right c.if-right-eq0.false c.ranges.left c.ranges.right c.if-left-right-ne0.false
