-- Built-in functions (OpenSCAD User Manual, in the profile of this server).
use Rattle.std.specs.Prelude.{ℕ, zero, suc, ℤ, pos, negsuc, ◌*ℤ◌, Bool, true, false, ◌&&◌, List, [], ◌∷◌, ◌++◌, length, Option, Some, None, Ok, Err, nat_eq, nat_lt, int_lt, unsigned_abs, codes, if◌then◌else◌}
use Rattle.std.specs.Str.{bytes_eq}
use Rattle.text_place.specs.declared.fault.FaultKind.TheVariants.{TypeMismatch, ZeroDivisor, NotWhole}
use Rattle.scad_builtin.specs.declared.function.Builtin.{Builtin}
use Rattle.scad_builtin.specs.declared.function.Builtin.TheVariants.{Abs, Sign, Floor, Ceil, Round, Min, Max, Len, Concat, Pow, IsUndef, IsNum, IsBool, IsList}
use Rattle.scad_value.specs.Values.{Val, NumberVal, TruthVal, TextVal, ListVal, UndefVal, Vals, no_vals, and_val, vals_from, count_of, is_bounded}
use Rattle.scad_value.specs.Operators.{AnswerOrFault, number_or_too_large, number_answer, value_or_long_list}
pub use Rattle.scad_ast.specs.Names.{is_among}

-- names and what they stand for
abbrev pub named_in : {A : Type 0} → List (List ℕ × A) → List ℕ → Option A
named_in [] name = None
named_in (known ∷ others) name = if bytes_eq known.0 name then Some known.1 else named_in others name

-- the built-in function of a name
abbrev pub builtin_of : List ℕ → Option Builtin
builtin_of name = named_in
    ((codes "abs", Abs) ∷ (codes "sign", Sign) ∷ (codes "floor", Floor) ∷ (codes "ceil", Ceil)
    ∷ (codes "round", Round) ∷ (codes "min", Min) ∷ (codes "max", Max) ∷ (codes "len", Len)
    ∷ (codes "concat", Concat) ∷ (codes "pow", Pow) ∷ (codes "is_undef", IsUndef) ∷ (codes "is_num", IsNum)
    ∷ (codes "is_bool", IsBool) ∷ (codes "is_list", IsList) ∷ []) name

-- functions of OpenSCAD that the profile leaves out
abbrev pub is_left_out_function : List ℕ → Bool
is_left_out_function = is_among
    (codes "str" ∷ codes "chr" ∷ codes "ord" ∷ codes "sin" ∷ codes "cos" ∷ codes "tan" ∷ codes "asin"
    ∷ codes "acos" ∷ codes "atan" ∷ codes "atan2" ∷ codes "sqrt" ∷ codes "exp" ∷ codes "ln" ∷ codes "log"
    ∷ codes "rands" ∷ codes "norm" ∷ codes "cross" ∷ codes "search" ∷ codes "lookup" ∷ codes "is_string"
    ∷ codes "is_function" ∷ codes "version" ∷ codes "version_num" ∷ codes "parent_module" ∷ [])

-- whether a function takes the given number of arguments
abbrev pub takes_count : Builtin → ℕ → Bool
takes_count Min n = nat_lt 0 n
takes_count Max n = nat_lt 0 n
takes_count Concat n = true
takes_count Pow n = nat_eq n 2
takes_count builtin n = nat_eq n 1

-- of one number
abbrev pub of_number : (ℤ → AnswerOrFault ℤ) → Val → AnswerOrFault Val
of_number row (NumberVal n) = number_answer (row n)
of_number row v = Err TypeMismatch

-- -1, 0 or 1
abbrev pub sign_of : ℤ → ℤ
sign_of (pos zero) = pos 0
sign_of (pos (suc n)) = pos 1
sign_of (negsuc n) = negsuc 0

-- the one of two numbers that goes before the other, by a test
abbrev pub better_number : (ℤ → ℤ → Bool) → ℤ → ℤ → ℤ
better_number before a b = if before b a then b else a

-- of a number and further values, which must be numbers, the one that goes before all others
abbrev pub best_of : (ℤ → ℤ → Bool) → ℤ → Vals → AnswerOrFault Val
best_of before best_number no_vals = Ok (NumberVal best_number)
best_of before best_number (and_val (NumberVal n) vs) = best_of before (better_number before best_number n) vs
best_of before best_number (and_val v vs) = Err TypeMismatch

-- the same of one or more numbers
abbrev pub best_number : (ℤ → ℤ → Bool) → Vals → AnswerOrFault Val
best_number before (and_val (NumberVal n) vs) = best_of before n vs
best_number before vs = Err TypeMismatch

-- of one or more numbers, or of one list of numbers that isn't empty
abbrev pub best_among : (ℤ → ℤ → Bool) → Vals → AnswerOrFault Val
best_among before (and_val (ListVal items) no_vals) = best_number before items
best_among before vs = best_number before vs

-- how many items a list has, or bytes a text; like each number, past 2^53 - 1 it is too large
abbrev pub length_of : Val → AnswerOrFault Val
length_of (ListVal items) = number_answer (number_or_too_large (pos (count_of items)))
length_of (TextVal bytes) = number_answer (number_or_too_large (pos (length bytes)))
length_of v = Err TypeMismatch

-- the items of a list in order
abbrev pub list_of : Vals → List Val
list_of no_vals = []
list_of (and_val v vs) = v ∷ list_of vs

-- the items of a list, and another value as one item
abbrev pub items_as : Val → List Val
items_as (ListVal items) = list_of items
items_as v = v ∷ []

-- the items of all values, one behind the other
abbrev pub joined_items : Vals → List Val
joined_items no_vals = []
joined_items (and_val v vs) = items_as v ++ joined_items vs

-- a power with an exponent from 0 on
abbrev pub power : ℤ → ℕ → ℤ
power base zero = pos 1
power base (suc exponent) = base *ℤ power base exponent

-- the power of two whole numbers, where it is whole: an exponent below 0 is for 1 and -1 alone
abbrev pub power_row : ℤ → ℤ → AnswerOrFault ℤ
power_row base (pos exponent) = number_or_too_large (power base exponent)
power_row (pos zero) (negsuc exponent) = Err ZeroDivisor
power_row (pos (suc zero)) (negsuc exponent) = Ok (pos 1)
power_row (negsuc zero) (negsuc exponent) = Ok (power (negsuc zero) (suc exponent))
power_row base (negsuc exponent) = Err NotWhole

-- the power of two numbers
abbrev pub power_of_values : Val → Val → AnswerOrFault Val
power_of_values (NumberVal base) (NumberVal exponent) = number_answer (power_row base exponent)
power_of_values v w = Err TypeMismatch

-- whether a value is `undef`
abbrev pub is_undef : Val → Bool
is_undef UndefVal = true
is_undef v = false

-- whether a value is a number
abbrev pub is_num : Val → Bool
is_num (NumberVal n) = true
is_num v = false

-- whether a value is a truth
abbrev pub is_bool : Val → Bool
is_bool (TruthVal truth) = true
is_bool v = false

-- whether a value is a list
abbrev pub is_list : Val → Bool
is_list (ListVal items) = true
is_list v = false

-- of one value
abbrev pub of_one : (Val → AnswerOrFault Val) → Vals → AnswerOrFault Val
of_one row (and_val v no_vals) = row v
of_one row vs = Err TypeMismatch

-- of two values
abbrev pub of_two : (Val → Val → AnswerOrFault Val) → Vals → AnswerOrFault Val
of_two row (and_val v (and_val w no_vals)) = row v w
of_two row vs = Err TypeMismatch

-- the table, for as many values as the function takes
abbrev pub builtin_value : Builtin → Vals → AnswerOrFault Val
builtin_value Abs vs = of_one (of_number (λ n. number_or_too_large (pos (unsigned_abs n)))) vs
builtin_value Sign vs = of_one (of_number (λ n. Ok (sign_of n))) vs
builtin_value Floor vs = of_one (of_number (λ n. Ok n)) vs
builtin_value Ceil vs = of_one (of_number (λ n. Ok n)) vs
builtin_value Round vs = of_one (of_number (λ n. Ok n)) vs
builtin_value Min vs = best_among int_lt vs
builtin_value Max vs = best_among (λ a b. int_lt b a) vs
builtin_value Len vs = of_one length_of vs
builtin_value Concat vs = value_or_long_list (Ok (ListVal (vals_from (joined_items vs))))
builtin_value Pow vs = of_two power_of_values vs
builtin_value IsUndef vs = of_one (λ v. Ok (TruthVal (is_undef v))) vs
builtin_value IsNum vs = of_one (λ v. Ok (TruthVal (is_num v))) vs
builtin_value IsBool vs = of_one (λ v. Ok (TruthVal (is_bool v))) vs
builtin_value IsList vs = of_one (λ v. Ok (TruthVal (is_list v))) vs

-- each of the values is bounded
abbrev pub are_bounded : List Val → Bool
are_bounded [] = true
are_bounded (v ∷ vs) = is_bounded v && are_bounded vs
