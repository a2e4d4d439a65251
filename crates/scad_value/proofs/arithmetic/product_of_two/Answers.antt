use Rattle.std.proofs.Common.{◌∙◌, ap}
use Rattle.scad_value.specs.Operators.{number_or_too_large}
use Rattle.scad_value.proofs.Integers.{wide_product}
use Rattle.scad_value.proofs.arithmetic.product_of_two.Goals as goal

pub returns : goal.returns
returns c = c.number_or_too_large.ensures ∙ ap number_or_too_large (wide_product c.args.left c.args.right c.ranges.left c.ranges.right)
