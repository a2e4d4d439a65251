-- The table of operators, one equation a row (OpenSCAD User Manual, in the profile of this server).
use Rattle.std.specs.Prelude.{ℕ, zero, suc, ℤ, pos, negsuc, ◌+ℤ◌, ◌-ℤ◌, ◌*ℤ◌, neg_ℤ, Bool, not, ◌&&◌, ◌||◌, List, [], ◌∷◌, ◌++◌, Result, Ok, Err, nat_eq, int_div, int_rem, if◌then◌else◌}
use Rattle.std.specs.declared.cmp.Ordering.{Ordering}
use Rattle.std.specs.Ordering.{int_cmp, is_lt, is_le, is_gt, is_ge}
use Rattle.text_place.specs.declared.fault.FaultKind.{FaultKind}
use Rattle.text_place.specs.declared.fault.FaultKind.TheVariants.{TypeMismatch, ZeroDivisor, NotWhole, TooLarge, LongList}
use Rattle.scad_ast.specs.declared.operator.BinaryOp.{BinaryOp}
use Rattle.scad_ast.specs.declared.operator.BinaryOp.TheVariants.{Or, And, Equal, NotEqual, Less, LessEqual, Greater, GreaterEqual, Add, Subtract, Multiply, Divide, Remainder}
use Rattle.scad_ast.specs.declared.operator.UnaryOp.{UnaryOp}
use Rattle.scad_ast.specs.declared.operator.UnaryOp.TheVariants.{Negate, Keep, Not}
use Rattle.scad_value.specs.Values.{Val, NumberVal, TruthVal, TextVal, ListVal, UndefVal, Vals, no_vals, and_val, vals_from, count_of, is_too_long_or_deep, is_small, truth_of, are_same}

-- what an operator gives, or its first fault
abbrev pub AnswerOrFault : Type 0 → Type 0
AnswerOrFault A = Result A FaultKind

-- goes on with what was given
abbrev pub and_then : {A B : Type 0} → AnswerOrFault A → (A → AnswerOrFault B) → AnswerOrFault B
and_then (Ok x) go = go x
and_then (Err kind) go = Err kind

-- a number that is too large is a fault
abbrev pub number_or_too_large : ℤ → AnswerOrFault ℤ
number_or_too_large n = if is_small n then Ok n else Err TooLarge

-- the value of a number, or its fault
abbrev pub number_answer : AnswerOrFault ℤ → AnswerOrFault Val
number_answer (Ok n) = Ok (NumberVal n)
number_answer (Err kind) = Err kind

-- a list that is too long is a fault, after all others
abbrev pub value_or_long_list : AnswerOrFault Val → AnswerOrFault Val
value_or_long_list (Ok v) = if is_too_long_or_deep v then Err LongList else Ok v
value_or_long_list (Err kind) = Err kind

-- the list of values, or the first fault of one
abbrev pub list_or_fault : AnswerOrFault (List Val) → AnswerOrFault Val
list_or_fault (Ok vs) = Ok (ListVal (vals_from vs))
list_or_fault (Err kind) = Err kind

-- values that come before those of an answer
abbrev pub values_in_front : List Val → AnswerOrFault (List Val) → AnswerOrFault (List Val)
values_in_front vs (Ok ws) = Ok (vs ++ ws)
values_in_front vs (Err kind) = Err kind

-- what needs two equal lengths
abbrev pub if_equal : {A : Type 0} → ℕ → ℕ → AnswerOrFault A → AnswerOrFault A
if_equal m n answer = if nat_eq m n then answer else Err TypeMismatch

-- two numbers, or two lists of one length element by element, from the first on
abbrev mutual
  pub by_elements : (ℤ → ℤ → AnswerOrFault ℤ) → Val → Val → AnswerOrFault Val
  by_elements row (NumberVal a) (NumberVal b) = number_answer (row a b)
  by_elements row (ListVal vs) (ListVal ws) =
      list_or_fault (if_equal (count_of vs) (count_of ws) (pairs_by_elements row vs ws))
  by_elements row v w = Err TypeMismatch

  -- the values of two lists of one length, pair by pair
  pub pairs_by_elements : (ℤ → ℤ → AnswerOrFault ℤ) → Vals → Vals → AnswerOrFault (List Val)
  pairs_by_elements row (and_val v vs) (and_val w ws) =
      and_then (by_elements row v w) (λ x. values_in_front (x ∷ []) (pairs_by_elements row vs ws))
  pairs_by_elements row vs ws = Ok []

-- a number, or each element of a list, from the first on
abbrev mutual
  pub each_element : (ℤ → AnswerOrFault ℤ) → Val → AnswerOrFault Val
  each_element row (NumberVal a) = number_answer (row a)
  each_element row (ListVal vs) = list_or_fault (each_of_elements row vs)
  each_element row v = Err TypeMismatch

  -- the values of all items, in order
  pub each_of_elements : (ℤ → AnswerOrFault ℤ) → Vals → AnswerOrFault (List Val)
  each_of_elements row no_vals = Ok []
  each_of_elements row (and_val v vs) =
      and_then (each_element row v) (λ x. values_in_front (x ∷ []) (each_of_elements row vs))

-- the sum, within the profile
abbrev pub sum_row : ℤ → ℤ → AnswerOrFault ℤ
sum_row a b = number_or_too_large (a +ℤ b)

-- the first less the second, within the profile
abbrev pub difference_row : ℤ → ℤ → AnswerOrFault ℤ
difference_row a b = number_or_too_large (a -ℤ b)

-- the product, within the profile
abbrev pub product_row : ℤ → ℤ → AnswerOrFault ℤ
product_row a b = number_or_too_large (a *ℤ b)

-- a divisor, and what is done where it isn't 0
abbrev pub unless_zero : ℤ → AnswerOrFault ℤ → AnswerOrFault ℤ
unless_zero (pos zero) answer = Err ZeroDivisor
unless_zero (pos (suc n)) answer = answer
unless_zero (negsuc n) answer = answer

-- the exact quotient
abbrev pub whole_quotient : ℤ → ℤ → AnswerOrFault ℤ
whole_quotient (pos zero) quotient = number_or_too_large quotient
whole_quotient (pos (suc n)) quotient = Err NotWhole
whole_quotient (negsuc n) quotient = Err NotWhole

-- a whole quotient: a divisor of 0 is ZeroDivisor, a remainder NotWhole
abbrev pub quotient_row : ℤ → ℤ → AnswerOrFault ℤ
quotient_row a b = unless_zero b (whole_quotient (int_rem a b) (int_div a b))

-- the remainder, with the sign of the dividend
abbrev pub remainder_row : ℤ → ℤ → AnswerOrFault ℤ
remainder_row a b = unless_zero b (number_or_too_large (int_rem a b))

-- a number added to an answer
abbrev pub plus_answer : ℤ → AnswerOrFault ℤ → AnswerOrFault ℤ
plus_answer n (Ok m) = Ok (n +ℤ m)
plus_answer n (Err kind) = Err kind

-- the product of a pair of items, which must be numbers; only the sum of all must be within the profile
abbrev pub product_at : Val → Val → AnswerOrFault ℤ
product_at (NumberVal a) (NumberVal b) = Ok (a *ℤ b)
product_at v w = Err TypeMismatch

-- the dot product of two lists of numbers: the sum of the products, place by place
abbrev pub dot_of : Vals → Vals → AnswerOrFault ℤ
dot_of (and_val v vs) (and_val w ws) = and_then (product_at v w) (λ n. plus_answer n (dot_of vs ws))
dot_of vs ws = Ok (pos 0)

-- two lists of numbers of one length above 0
abbrev pub dot_row : Vals → Vals → AnswerOrFault Val
dot_row no_vals ws = Err TypeMismatch
dot_row (and_val v vs) ws =
    if_equal (count_of (and_val v vs)) (count_of ws) (number_answer (and_then (dot_of (and_val v vs) ws) number_or_too_large))

-- two numbers; a number and a list in either order, each element; two lists of numbers
abbrev pub product_of : Val → Val → AnswerOrFault Val
product_of (NumberVal a) (NumberVal b) = number_answer (product_row a b)
product_of (NumberVal a) (ListVal ws) = each_element (λ b. product_row b a) (ListVal ws)
product_of (ListVal vs) (NumberVal b) = each_element (λ a. product_row a b) (ListVal vs)
product_of (ListVal vs) (ListVal ws) = dot_row vs ws
product_of v w = Err TypeMismatch

-- a number or each element of a list, by a number
abbrev pub quotient_of : Val → Val → AnswerOrFault Val
quotient_of v (NumberVal b) = each_element (λ a. quotient_row a b) v
quotient_of v w = Err TypeMismatch

-- of two numbers alone
abbrev pub remainder_of : Val → Val → AnswerOrFault Val
remainder_of (NumberVal a) (NumberVal b) = number_answer (remainder_row a b)
remainder_of v w = Err TypeMismatch

-- the order of two numbers
abbrev pub order_of : Val → Val → AnswerOrFault Ordering
order_of (NumberVal a) (NumberVal b) = Ok (int_cmp a b)
order_of v w = Err TypeMismatch

-- whether the order of two numbers passes a test
abbrev pub truth_by_order : (Ordering → Bool) → AnswerOrFault Ordering → AnswerOrFault Val
truth_by_order test (Ok order) = Ok (TruthVal (test order))
truth_by_order test (Err kind) = Err kind

-- the table
abbrev pub binary_of : BinaryOp → Val → Val → AnswerOrFault Val
binary_of Or v w = Ok (TruthVal (truth_of v || truth_of w))
binary_of And v w = Ok (TruthVal (truth_of v && truth_of w))
binary_of Equal v w = Ok (TruthVal (are_same v w))
binary_of NotEqual v w = Ok (TruthVal (not (are_same v w)))
binary_of Less v w = truth_by_order is_lt (order_of v w)
binary_of LessEqual v w = truth_by_order is_le (order_of v w)
binary_of Greater v w = truth_by_order is_gt (order_of v w)
binary_of GreaterEqual v w = truth_by_order is_ge (order_of v w)
binary_of Add v w = value_or_long_list (by_elements sum_row v w)
binary_of Subtract v w = value_or_long_list (by_elements difference_row v w)
binary_of Multiply v w = value_or_long_list (product_of v w)
binary_of Divide v w = value_or_long_list (quotient_of v w)
binary_of Remainder v w = remainder_of v w

-- the operators before an operand: of numbers, and of lists element by element; `!` takes any value
abbrev pub unary_of : UnaryOp → Val → AnswerOrFault Val
unary_of Negate v = value_or_long_list (each_element (λ n. number_or_too_large (neg_ℤ n)) v)
unary_of Keep v = value_or_long_list (each_element number_or_too_large v)
unary_of Not v = Ok (TruthVal (not (truth_of v)))

-- the item at a place from 0, or undef
abbrev pub item_at : Vals → ℕ → Val
item_at no_vals n = UndefVal
item_at (and_val v vs) zero = v
item_at (and_val v vs) (suc n) = item_at vs n

-- the byte at a place from 0 as a text, or undef
abbrev pub byte_at : List ℕ → ℕ → Val
byte_at [] n = UndefVal
byte_at (byte ∷ bytes) zero = TextVal (byte ∷ [])
byte_at (byte ∷ bytes) (suc n) = byte_at bytes n

-- an item of a list, a byte of a text, or undef where there is none
abbrev pub index_of : Val → Val → AnswerOrFault Val
index_of (ListVal vs) (NumberVal (pos n)) = Ok (item_at vs n)
index_of (ListVal vs) (NumberVal (negsuc n)) = Ok UndefVal
index_of (TextVal bytes) (NumberVal (pos n)) = Ok (byte_at bytes n)
index_of (TextVal bytes) (NumberVal (negsuc n)) = Ok UndefVal
index_of v w = Err TypeMismatch
