-- What the code's rows of numbers stand for.
use Rattle.std.specs.Prelude.{ℤ, neg_ℤ}
use Rattle.scad_value.specs.declared.arithmetic.PairRow.{PairRow}
use Rattle.scad_value.specs.declared.arithmetic.PairRow.TheVariants.{Sum, Difference}
use Rattle.scad_value.specs.declared.arithmetic.PartRow.{PartRow}
use Rattle.scad_value.specs.declared.arithmetic.PartRow.TheVariants.{Times, Over, Negate, Keep}
use Rattle.scad_value.specs.Operators.{AnswerOrFault, number_or_too_large, sum_row, difference_row, product_row, quotient_row}

-- the sum or the difference of two numbers
abbrev pub pair_row : PairRow → ℤ → ℤ → AnswerOrFault ℤ
pair_row Sum a b = sum_row a b
pair_row Difference a b = difference_row a b

-- a number times another one, divided by one, with the other sign, or as it is
abbrev pub part_row : PartRow → ℤ → AnswerOrFault ℤ
part_row (Times b) a = product_row a b
part_row (Over b) a = quotient_row a b
part_row Negate a = number_or_too_large (neg_ℤ a)
part_row Keep a = number_or_too_large a
