-- What operators give is bounded.
use Rattle.std.proofs.Common.{◌≡◌, ℕ, zero, suc, ◌^◌, ◌≤◌, Bool, true, false, ◌||◌, cond, List, [], ◌∷◌, refl, subst, arith, ltb, eqb, Result, Ok, Err, ℤ, pos, negsuc, ◌+ℤ◌, ◌-ℤ◌, ◌*ℤ◌, neg_ℤ}
use Rattle.std.specs.Prelude.{IsTrue, int_div, int_rem}
use Rattle.std.proofs.lemmas.Bool.{and_parts, and_from, ltb-false, ltb-true, lt-ltb}
use Rattle.std.specs.declared.cmp.Ordering.{Ordering}
use Rattle.text_place.specs.declared.fault.FaultKind.TheVariants.{TypeMismatch, TooLarge, LongList}
use Rattle.scad_ast.specs.declared.operator.BinaryOp.{BinaryOp}
use Rattle.scad_ast.specs.declared.operator.BinaryOp.TheVariants.{Or, And, Equal, NotEqual, Less, LessEqual, Greater, GreaterEqual, Add, Subtract, Multiply, Divide, Remainder}
use Rattle.scad_ast.specs.declared.operator.UnaryOp.{UnaryOp}
use Rattle.scad_ast.specs.declared.operator.UnaryOp.TheVariants.{Negate, Keep, Not}
use Rattle.scad_value.specs.declared.value.Value.{Value}
use Rattle.scad_value.specs.declared.stop.ValueStop.{ValueStop}
use Rattle.scad_value.specs.Values.{Val, NumberVal, TextVal, ListVal, Vals, no_vals, and_val, vals_from, count_of, element_count, element_count_in, is_too_long_or_deep, is_small, has_small_numbers, have_small_numbers, is_bounded}
use Rattle.scad_value.specs.Operators.{AnswerOrFault, and_then, number_or_too_large, number_answer, value_or_long_list, list_or_fault, values_in_front, if_equal, by_elements, pairs_by_elements, each_element, each_of_elements, sum_row, difference_row, product_row, unless_zero, whole_quotient, quotient_row, remainder_row, dot_of, dot_row, product_of, quotient_of, remainder_of, order_of, truth_by_order, binary_of, unary_of, item_at, byte_at, index_of}
use Rattle.scad_value.specs.View.{MeetsAnswer, GivesBounded}

abbrev pub IsBoundedAnswer : AnswerOrFault Val → Type 0
IsBoundedAnswer (Ok v) = IsTrue (is_bounded v)
IsBoundedAnswer (Err kind) = Unit {0}

abbrev HasSmall : AnswerOrFault Val → Type 0
HasSmall (Ok v) = IsTrue (has_small_numbers v)
HasSmall (Err kind) = Unit {0}

abbrev AllSmall : AnswerOrFault (List Val) → Type 0
AllSmall (Ok vs) = IsTrue (have_small_numbers (vals_from vs))
AllSmall (Err kind) = Unit {0}

abbrev IsSmallAnswer : AnswerOrFault ℤ → Type 0
IsSmallAnswer (Ok n) = IsTrue (is_small n)
IsSmallAnswer (Err kind) = Unit {0}

-- what was told of a bounded answer
pub bounded_told : (r : Result Value ValueStop) (answer : AnswerOrFault Val) → MeetsAnswer r answer
    → IsBoundedAnswer answer → GivesBounded r
bounded_told (Ok v) answer t b = subst IsBoundedAnswer t b
bounded_told (Err stop) answer t b = tt

or_first : (x y : Bool) → (x || y) ≡ false → x ≡ false
or_first true y h = h
or_first false y h = refl

few_parts : (v : Val) → is_too_long_or_deep v ≡ false → ltb (element_count v) (2 ^ 20) ≡ true
few_parts v h = lt-ltb (element_count v) (2 ^ 20) (omega (arith, ltb-false 4096 (element_count v) (or_first _ _ h)))

made_bounded : (answer : AnswerOrFault Val) → HasSmall answer → IsBoundedAnswer (value_or_long_list answer)
made_bounded (Err kind) s = tt
made_bounded (Ok v) s = by_length (is_too_long_or_deep v) refl
  where
    by_length : (b : Bool) → is_too_long_or_deep v ≡ b → IsBoundedAnswer (cond b (Err LongList) (Ok v))
    by_length true e = tt
    by_length false e = and_from _ _ s (few_parts v e)

number_small : (answer : AnswerOrFault ℤ) → IsSmallAnswer answer → HasSmall (number_answer answer)
number_small (Ok n) s = s
number_small (Err kind) s = tt

number_bounded : (answer : AnswerOrFault ℤ) → IsSmallAnswer answer → IsBoundedAnswer (number_answer answer)
number_bounded (Ok n) s = and_from _ _ s refl
number_bounded (Err kind) s = tt

sized_small : (n : ℤ) → IsSmallAnswer (number_or_too_large n)
sized_small n = by_size (is_small n) refl
  where
    by_size : (b : Bool) → is_small n ≡ b → IsSmallAnswer (cond b (Ok n) (Err TooLarge))
    by_size true e = e
    by_size false e = tt

unless_zero_small : (d : ℤ) (answer : AnswerOrFault ℤ) → IsSmallAnswer answer
    → IsSmallAnswer (unless_zero d answer)
unless_zero_small (pos zero) answer s = tt
unless_zero_small (pos (suc n)) answer s = s
unless_zero_small (negsuc n) answer s = s

exact_small : (r q : ℤ) → IsSmallAnswer (whole_quotient r q)
exact_small (pos zero) q = sized_small q
exact_small (pos (suc n)) q = tt
exact_small (negsuc n) q = tt

quotient_small : (a b : ℤ) → IsSmallAnswer (quotient_row a b)
quotient_small a b = unless_zero_small b (whole_quotient (int_rem a b) (int_div a b)) (exact_small (int_rem a b)
    (int_div a b))

remainder_small : (a b : ℤ) → IsSmallAnswer (remainder_row a b)
remainder_small a b = unless_zero_small b (number_or_too_large (int_rem a b)) (sized_small (int_rem a b))

listed_small : (answer : AnswerOrFault (List Val)) → AllSmall answer → HasSmall (list_or_fault answer)
listed_small (Ok vs) s = s
listed_small (Err kind) s = tt

front_small : (answer : AnswerOrFault Val) (rest : AnswerOrFault (List Val)) → HasSmall answer → AllSmall rest
    → AllSmall (and_then answer (λ x. values_in_front (x ∷ []) rest))
front_small (Ok x) (Ok xs) s t = and_from _ _ s t
front_small (Ok x) (Err kind) s t = tt
front_small (Err kind) rest s t = tt

if_equal_small : (m n : ℕ) (answer : AnswerOrFault (List Val)) → AllSmall answer → AllSmall (if_equal m n answer)
if_equal_small m n answer s = by_test (eqb m n)
  where
    by_test : (b : Bool) → AllSmall (cond b answer (Err TypeMismatch))
    by_test true = s
    by_test false = tt

module _ (row : ℤ → ℤ → AnswerOrFault ℤ) (small : (a b : ℤ) → IsSmallAnswer (row a b)) where
  mutual
    by_parts_small : (v w : Val) → HasSmall (by_elements row v w)
    by_parts_small (NumberVal a) (NumberVal b) = number_small (row a b) (small a b)
    by_parts_small (ListVal vs) (ListVal ws) =
        listed_small _ (if_equal_small (count_of vs) (count_of ws) (pairs_by_elements row vs ws)
        (pairs_small vs ws))
    by_parts_small v w = tt

    pairs_small : (vs ws : Vals) → AllSmall (pairs_by_elements row vs ws)
    pairs_small (and_val v vs) (and_val w ws) =
        front_small (by_elements row v w) (pairs_by_elements row vs ws) (by_parts_small v w) (pairs_small vs ws)
    pairs_small no_vals ws = refl
    pairs_small (and_val v vs) no_vals = refl

module _ (row : ℤ → AnswerOrFault ℤ) (small : (a : ℤ) → IsSmallAnswer (row a)) where
  mutual
    each_part_small : (v : Val) → HasSmall (each_element row v)
    each_part_small (NumberVal a) = number_small (row a) (small a)
    each_part_small (ListVal vs) = listed_small _ (each_of_small vs)
    each_part_small v = tt

    each_of_small : (vs : Vals) → AllSmall (each_of_elements row vs)
    each_of_small no_vals = refl
    each_of_small (and_val v vs) =
        front_small (each_element row v) (each_of_elements row vs) (each_part_small v) (each_of_small vs)

dot_small : (answer : AnswerOrFault ℤ) → HasSmall (number_answer (and_then answer number_or_too_large))
dot_small (Ok n) = number_small (number_or_too_large n) (sized_small n)
dot_small (Err kind) = tt

dot_row_small : (vs ws : Vals) → HasSmall (dot_row vs ws)
dot_row_small no_vals ws = tt
dot_row_small (and_val v vs) ws = by_test (eqb (count_of (and_val v vs)) (count_of ws))
  where
    by_test : (b : Bool) → HasSmall (cond b (number_answer (and_then (dot_of (and_val v vs) ws) number_or_too_large))
        (Err TypeMismatch))
    by_test true = dot_small (dot_of (and_val v vs) ws)
    by_test false = tt

product_small : (v w : Val) → HasSmall (product_of v w)
product_small (NumberVal a) (NumberVal b) = number_small (product_row a b) (sized_small (a *ℤ b))
product_small (NumberVal a) (ListVal ws) =
    each_part_small (λ b. product_row b a) (λ b. sized_small (b *ℤ a)) (ListVal ws)
product_small (ListVal vs) (NumberVal b) =
    each_part_small (λ a. product_row a b) (λ a. sized_small (a *ℤ b)) (ListVal vs)
product_small (ListVal vs) (ListVal ws) = dot_row_small vs ws
product_small v w = tt

quotient_of_small : (v w : Val) → HasSmall (quotient_of v w)
quotient_of_small v (NumberVal b) = each_part_small (λ a. quotient_row a b) (λ a. quotient_small a b) v
quotient_of_small v w = tt

remainder_bounded : (v w : Val) → IsBoundedAnswer (remainder_of v w)
remainder_bounded (NumberVal a) (NumberVal b) = number_bounded (remainder_row a b) (remainder_small a b)
remainder_bounded v w = tt

tested_bounded : (test : Ordering → Bool) (answer : AnswerOrFault Ordering) → IsBoundedAnswer (truth_by_order test answer)
tested_bounded test (Ok order) = refl
tested_bounded test (Err kind) = tt

pub binary_bounded : (op : BinaryOp) (v w : Val) → IsBoundedAnswer (binary_of op v w)
binary_bounded Or v w = refl
binary_bounded And v w = refl
binary_bounded Equal v w = refl
binary_bounded NotEqual v w = refl
binary_bounded Less v w = tested_bounded _ (order_of v w)
binary_bounded LessEqual v w = tested_bounded _ (order_of v w)
binary_bounded Greater v w = tested_bounded _ (order_of v w)
binary_bounded GreaterEqual v w = tested_bounded _ (order_of v w)
binary_bounded Add v w = made_bounded (by_elements sum_row v w) (by_parts_small sum_row (λ a b. sized_small
    (a +ℤ b)) v w)
binary_bounded Subtract v w =
    made_bounded (by_elements difference_row v w) (by_parts_small difference_row (λ a b. sized_small
    (a -ℤ b)) v w)
binary_bounded Multiply v w = made_bounded (product_of v w) (product_small v w)
binary_bounded Divide v w = made_bounded (quotient_of v w) (quotient_of_small v w)
binary_bounded Remainder v w = remainder_bounded v w

pub unary_bounded : (op : UnaryOp) (v : Val) → IsBoundedAnswer (unary_of op v)
unary_bounded Negate v = made_bounded (each_element (λ n. number_or_too_large (neg_ℤ n)) v) (each_part_small (λ n. number_or_too_large
    (neg_ℤ n)) (λ a. sized_small (neg_ℤ a)) v)
unary_bounded Keep v = made_bounded (each_element number_or_too_large v) (each_part_small number_or_too_large (λ a. sized_small a) v)
unary_bounded Not v = refl

item_small : (vs : Vals) (n : ℕ) → IsTrue (have_small_numbers vs)
    → IsTrue (has_small_numbers (item_at vs n))
item_small no_vals n s = refl
item_small (and_val v vs) zero s = (and_parts _ _ s).0
item_small (and_val v vs) (suc n) s = item_small vs n (and_parts _ _ s).1

item_parts : (vs : Vals) (n : ℕ) → element_count (item_at vs n) ≤ suc (element_count_in vs)
item_parts no_vals n = omega arith
item_parts (and_val v vs) zero = omega arith
item_parts (and_val v vs) (suc n) = omega (arith, item_parts vs n)

byte_bounded : (bytes : List ℕ) (n : ℕ) → IsTrue (is_bounded (byte_at bytes n))
byte_bounded [] n = refl
byte_bounded (byte ∷ bytes) zero = refl
byte_bounded (byte ∷ bytes) (suc n) = byte_bounded bytes n

pub index_bounded : (v w : Val) → IsTrue (is_bounded v) → IsBoundedAnswer (index_of v w)
index_bounded (ListVal vs) (NumberVal (pos n)) b =
    let p = and_parts _ _ b in
    and_from _ _ (item_small vs n p.0) (lt-ltb _ (2 ^ 20) (omega (
      arith,
      item_parts vs n,
      ltb-true _
          (2 ^ 20) p.1,
    )))
index_bounded (ListVal vs) (NumberVal (negsuc n)) b = refl
index_bounded (TextVal bytes) (NumberVal (pos n)) b = byte_bounded bytes n
index_bounded (TextVal bytes) (NumberVal (negsuc n)) b = refl
index_bounded v w b = tt
