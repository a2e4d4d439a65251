-- Worked rows of the table, which compute.
use Rattle.std.proofs.Common.{◌≡◌, ℤ, pos, negsuc, List, [], ◌∷◌, true, false, Some, None, refl, Ok, Err}
use Rattle.std.specs.Prelude.{codes}
use Rattle.text_place.specs.declared.fault.FaultKind.TheVariants.{TypeMismatch, ZeroDivisor, NotWhole, TooLarge}
use Rattle.scad_value.specs.Values.{Val, NumberVal, TruthVal, TextVal, ListVal, RangeVal, UndefVal, vals_from}
use Rattle.scad_value.specs.Operators.{AnswerOrFault}
use Rattle.scad_builtin.specs.declared.function.Builtin.{Builtin}
use Rattle.scad_builtin.specs.declared.function.Builtin.TheVariants.{Abs, Sign, Round, Min, Max, Len, Concat, Pow, IsUndef, IsNum, IsList}
use Rattle.scad_builtin.specs.Builtins.{builtin_of, is_left_out_function, takes_count, builtin_value}

abbrev num : ℤ → Val
num n = NumberVal n

abbrev listed : List Val → Val
listed vs = ListVal (vals_from vs)

abbrev given : Builtin → List Val → AnswerOrFault Val
given builtin vs = builtin_value builtin (vals_from vs)

-- abs(-5), sign(0), sign(-5), round(7), abs(undef)
size : given Abs (num (negsuc 4) ∷ []) ≡ Ok (num (pos 5))
size = refl

sign_of_zero : given Sign (num (pos 0) ∷ []) ≡ Ok (num (pos 0))
sign_of_zero = refl

sign_below : given Sign (num (negsuc 4) ∷ []) ≡ Ok (num (negsuc 0))
sign_below = refl

rounded : given Round (num (pos 7) ∷ []) ≡ Ok (num (pos 7))
rounded = refl

size_of_undef : given Abs (UndefVal ∷ []) ≡ Err TypeMismatch
size_of_undef = refl

-- min(3,1,2), max([3,1,2]), min(3), min([]), min([1],2), min(1,true)
least : given Min (num (pos 3) ∷ num (pos 1) ∷ num (pos 2) ∷ []) ≡ Ok (num (pos 1))
least = refl

greatest : given Max (listed (num (pos 3) ∷ num (pos 1) ∷ num (pos 2) ∷ []) ∷ []) ≡ Ok (num (pos 3))
greatest = refl

alone : given Min (num (pos 3) ∷ []) ≡ Ok (num (pos 3))
alone = refl

of_nothing : given Min (listed [] ∷ []) ≡ Err TypeMismatch
of_nothing = refl

of_a_list_and_a_number : given Min (listed (num (pos 1) ∷ []) ∷ num (pos 2) ∷ []) ≡ Err TypeMismatch
of_a_list_and_a_number = refl

of_a_truth : given Min (num (pos 1) ∷ TruthVal true ∷ []) ≡ Err TypeMismatch
of_a_truth = refl

-- len("ab"), len([]), len(1)
bytes : given Len (TextVal (codes "ab") ∷ []) ≡ Ok (num (pos 2))
bytes = refl

items : given Len (listed [] ∷ []) ≡ Ok (num (pos 0))
items = refl

no_length : given Len (num (pos 1) ∷ []) ≡ Err TypeMismatch
no_length = refl

-- concat(), concat([1],2,[[3]])
joined_nothing : given Concat [] ≡ Ok (listed [])
joined_nothing = refl

joined : given Concat (listed (num (pos 1) ∷ []) ∷ num (pos 2) ∷ listed (listed (num (pos 3) ∷ []) ∷ []) ∷ [])
    ≡ Ok (listed (num (pos 1) ∷ num (pos 2) ∷ listed (num (pos 3) ∷ []) ∷ []))
joined = refl

-- pow(2,52), pow(2,53), pow(-2,53), pow(0,0), pow(0,-1), pow(1,-5), pow(-1,-5), pow(-1,-4), pow(2,-1)
high_power : given Pow (num (pos 2) ∷ num (pos 52) ∷ []) ≡ Ok (num (pos 4503599627370496))
high_power = refl

higher_power : given Pow (num (pos 2) ∷ num (pos 53) ∷ []) ≡ Err TooLarge
higher_power = refl

lower_power : given Pow (num (negsuc 1) ∷ num (pos 53) ∷ []) ≡ Err TooLarge
lower_power = refl

empty_power : given Pow (num (pos 0) ∷ num (pos 0) ∷ []) ≡ Ok (num (pos 1))
empty_power = refl

inverse_of_zero : given Pow (num (pos 0) ∷ num (negsuc 0) ∷ []) ≡ Err ZeroDivisor
inverse_of_zero = refl

inverse_of_one : given Pow (num (pos 1) ∷ num (negsuc 4) ∷ []) ≡ Ok (num (pos 1))
inverse_of_one = refl

odd_inverse : given Pow (num (negsuc 0) ∷ num (negsuc 4) ∷ []) ≡ Ok (num (negsuc 0))
odd_inverse = refl

even_inverse : given Pow (num (negsuc 0) ∷ num (negsuc 3) ∷ []) ≡ Ok (num (pos 1))
even_inverse = refl

inverse_of_two : given Pow (num (pos 2) ∷ num (negsuc 0) ∷ []) ≡ Err NotWhole
inverse_of_two = refl

-- is_list([1:1:3]), is_num(0), is_undef(undef)
no_list : given IsList (RangeVal (pos 1) (pos 1) (pos 3) ∷ []) ≡ Ok (TruthVal false)
no_list = refl

a_number : given IsNum (num (pos 0) ∷ []) ≡ Ok (TruthVal true)
a_number = refl

no_value : given IsUndef (UndefVal ∷ []) ≡ Ok (TruthVal true)
no_value = refl

-- names, and how many values are taken
pow_is_known : builtin_of (codes "pow") ≡ Some Pow
pow_is_known = refl

power_is_unknown : builtin_of (codes "power") ≡ None
power_is_unknown = refl

norm_is_left_out : is_left_out_function (codes "norm") ≡ true
norm_is_left_out = refl

pow_is_not_left_out : is_left_out_function (codes "pow") ≡ false
pow_is_not_left_out = refl

takes_none : takes_count Min 0 ≡ false
takes_none = refl

takes_two : takes_count Pow 2 ≡ true
takes_two = refl
