-- What the code's choices among numbers stand for, and the functions of one value.
use Rattle.std.specs.Prelude.{ℤ, pos, Bool, Ok, Err, int_lt, unsigned_abs}
use Rattle.text_place.specs.declared.fault.FaultKind.TheVariants.{TypeMismatch}
use Rattle.scad_value.specs.Values.{Val, TruthVal}
use Rattle.scad_value.specs.Operators.{AnswerOrFault, number_or_too_large}
use Rattle.scad_builtin.specs.declared.function.Builtin.{Builtin}
use Rattle.scad_builtin.specs.declared.function.Builtin.TheVariants.{Abs, Sign, Floor, Ceil, Round, Len, IsUndef, IsNum, IsBool, IsList}
use Rattle.scad_builtin.specs.declared.number.NumberRow.{NumberRow}
use Rattle.scad_builtin.specs.declared.number.NumberRow.TheVariants.{Size, Direction, Itself}
use Rattle.scad_builtin.specs.declared.best.Wanted.{Wanted}
use Rattle.scad_builtin.specs.declared.best.Wanted.TheVariants.{Least, Greatest}
use Rattle.scad_builtin.specs.Builtins.{of_number, sign_of, length_of, is_undef, is_num, is_bool, is_list}

-- what is done with one number
abbrev pub number_row : NumberRow → ℤ → AnswerOrFault ℤ
number_row Size n = number_or_too_large (pos (unsigned_abs n))
number_row Direction n = Ok (sign_of n)
number_row Itself n = Ok n

-- the test that a better number passes
abbrev pub is_before : Wanted → ℤ → ℤ → Bool
is_before Least a b = int_lt a b
is_before Greatest a b = int_lt b a

-- the functions of one value
abbrev pub value_row : Builtin → Val → AnswerOrFault Val
value_row Abs v = of_number (number_row Size) v
value_row Sign v = of_number (number_row Direction) v
value_row Floor v = of_number (number_row Itself) v
value_row Ceil v = of_number (number_row Itself) v
value_row Round v = of_number (number_row Itself) v
value_row Len v = length_of v
value_row IsUndef v = Ok (TruthVal (is_undef v))
value_row IsNum v = Ok (TruthVal (is_num v))
value_row IsBool v = Ok (TruthVal (is_bool v))
value_row IsList v = Ok (TruthVal (is_list v))
value_row builtin v = Err TypeMismatch
