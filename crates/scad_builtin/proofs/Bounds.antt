-- What the built-in functions give of bounded values is bounded.
use Rattle.std.proofs.Common.{◌≡◌, zero, suc, ◌^◌, Bool, true, false, ◌||◌, cond, List, [], ◌∷◌, ◌++◌, length, refl, subst, arith, ltb, Result, Ok, Err, ℤ, pos, negsuc}
use Rattle.std.specs.Prelude.{IsTrue, int_lt, unsigned_abs}
use Rattle.std.proofs.lemmas.Bool.{and_parts, and_from, ltb-false, lt-ltb}
use Rattle.text_place.specs.declared.fault.FaultKind.TheVariants.{TooLarge, LongList}
use Rattle.scad_value.specs.declared.value.Value.{Value}
use Rattle.scad_value.specs.declared.stop.ValueStop.{ValueStop}
use Rattle.scad_value.specs.Values.{Val, NumberVal, TruthVal, TextVal, ListVal, Vals, no_vals, and_val, vals_from, count_of, element_count, is_too_long_or_deep, is_small, has_small_numbers, have_small_numbers, is_bounded}
use Rattle.scad_value.specs.Operators.{AnswerOrFault, number_or_too_large, number_answer, value_or_long_list}
use Rattle.scad_value.specs.View.{MeetsAnswer, GivesBounded}
use Rattle.scad_builtin.specs.declared.function.Builtin.{Builtin}
use Rattle.scad_builtin.specs.declared.function.Builtin.TheVariants.{Abs, Sign, Floor, Ceil, Round, Min, Max, Len, Concat, Pow, IsUndef, IsNum, IsBool, IsList}
use Rattle.scad_builtin.specs.Builtins.{of_number, sign_of, better_number, best_of, best_number, best_among, length_of, list_of, items_as, joined_items, power, power_row, power_of_values, is_undef, is_num, is_bool, is_list, of_one, of_two, builtin_value, are_bounded}
use Rattle.scad_builtin.proofs.Powers.{by_sign}

abbrev IsBoundedAnswer : AnswerOrFault Val → Type 0
IsBoundedAnswer (Ok v) = IsTrue (is_bounded v)
IsBoundedAnswer (Err kind) = Unit {0}

abbrev IsSmallAnswer : AnswerOrFault ℤ → Type 0
IsSmallAnswer (Ok n) = IsTrue (is_small n)
IsSmallAnswer (Err kind) = Unit {0}

told : (r : Result Value ValueStop) (answer : AnswerOrFault Val) → MeetsAnswer r answer → IsBoundedAnswer answer
    → GivesBounded r
told (Ok v) answer t b = subst IsBoundedAnswer t b
told (Err stop) answer t b = tt

-- numbers
sized_small : (n : ℤ) → IsSmallAnswer (number_or_too_large n)
sized_small n = by_size (is_small n) refl
  where
    by_size : (b : Bool) → is_small n ≡ b → IsSmallAnswer (cond b (Ok n) (Err TooLarge))
    by_size true e = e
    by_size false e = tt

number_bounded : (answer : AnswerOrFault ℤ) → IsSmallAnswer answer → IsBoundedAnswer (number_answer answer)
number_bounded (Ok n) s = and_from _ _ s refl
number_bounded (Err kind) s = tt

of_number_bounded : (row : ℤ → AnswerOrFault ℤ) → ((n : ℤ) → IsTrue (is_small n) → IsSmallAnswer (row n)) → (v : Val)
    → IsTrue (has_small_numbers v) → IsBoundedAnswer (of_number row v)
of_number_bounded row small (NumberVal n) s = number_bounded (row n) (small n s)
of_number_bounded row small v s = tt

sign_small : (n : ℤ) → IsTrue (is_small (sign_of n))
sign_small (pos zero) = refl
sign_small (pos (suc n)) = refl
sign_small (negsuc n) = refl

power_small : (b e : ℤ) → IsSmallAnswer (power_row b e)
power_small b (pos e) = sized_small (power b e)
power_small (pos zero) (negsuc e) = tt
power_small (pos (suc zero)) (negsuc e) = refl
power_small (pos (suc (suc n))) (negsuc e) = tt
power_small (negsuc zero) (negsuc e) = by_sign (λ n. IsTrue (is_small n)) refl refl (suc e)
power_small (negsuc (suc n)) (negsuc e) = tt

power_bounded : (v w : Val) → IsBoundedAnswer (power_of_values v w)
power_bounded (NumberVal b) (NumberVal e) = number_bounded (power_row b e) (power_small b e)
power_bounded v w = tt

length_bounded : (v : Val) → IsBoundedAnswer (length_of v)
length_bounded (ListVal items) =
    number_bounded (number_or_too_large (pos (count_of items))) (sized_small (pos (count_of items)))
length_bounded (TextVal bytes) =
    number_bounded (number_or_too_large (pos (length bytes))) (sized_small (pos (length bytes)))
length_bounded v = tt

-- the best number
better_small : (before : ℤ → ℤ → Bool) (a b : ℤ) → IsTrue (is_small a) → IsTrue (is_small b)
    → IsTrue (is_small (better_number before a b))
better_small before a b s t = by_test (before b a)
  where
    by_test : (x : Bool) → IsTrue (is_small (cond x b a))
    by_test true = t
    by_test false = s

best_of_bounded : (before : ℤ → ℤ → Bool) (m : ℤ) (vs : Vals) → IsTrue (is_small m)
    → IsTrue (have_small_numbers vs) → IsBoundedAnswer (best_of before m vs)
best_of_bounded before m no_vals s t = and_from _ _ s refl
best_of_bounded before m (and_val (NumberVal n) vs) s t = let p = and_parts _ _ t in
    best_of_bounded before (better_number before m n) vs (better_small before m n s p.0) p.1
best_of_bounded before m (and_val v vs) s t = tt

best_bounded : (before : ℤ → ℤ → Bool) (vs : Vals) → IsTrue (have_small_numbers vs)
    → IsBoundedAnswer (best_number before vs)
best_bounded before (and_val (NumberVal n) vs) t = let p = and_parts _ _ t in
    best_of_bounded before n vs p.0 p.1
best_bounded before vs t = tt

best_among_bounded : (before : ℤ → ℤ → Bool) (vs : Vals) → IsTrue (have_small_numbers vs)
    → IsBoundedAnswer (best_among before vs)
best_among_bounded before (and_val (ListVal items) no_vals) t = best_bounded before items (and_parts _ _ t).0
best_among_bounded before vs t = best_bounded before vs t

-- joined lists
append_small : (vs ws : List Val) → IsTrue (have_small_numbers (vals_from vs))
    → IsTrue (have_small_numbers (vals_from ws)) → IsTrue (have_small_numbers (vals_from (vs ++ ws)))
append_small [] ws s t = t
append_small (v ∷ vs) ws s t = let p = and_parts _ _ s in and_from _ _ p.0 (append_small vs ws p.1 t)

list_small : (items : Vals) → IsTrue (have_small_numbers items)
    → IsTrue (have_small_numbers (vals_from (list_of items)))
list_small no_vals s = s
list_small (and_val v vs) s = let p = and_parts _ _ s in and_from _ _ p.0 (list_small vs p.1)

items_small : (v : Val) → IsTrue (has_small_numbers v) → IsTrue (have_small_numbers (vals_from (items_as v)))
items_small (ListVal items) s = list_small items s
items_small v s = and_from _ _ s refl

joined_small : (vs : Vals) → IsTrue (have_small_numbers vs)
    → IsTrue (have_small_numbers (vals_from (joined_items vs)))
joined_small no_vals s = refl
joined_small (and_val v vs) s = let p = and_parts _ _ s in
    append_small (items_as v) (joined_items vs) (items_small v p.0) (joined_small vs p.1)

or_first : (x y : Bool) → (x || y) ≡ false → x ≡ false
or_first true y h = h
or_first false y h = refl

made_bounded : (v : Val) → IsTrue (has_small_numbers v) → IsBoundedAnswer (value_or_long_list (Ok v))
made_bounded v s = by_length (is_too_long_or_deep v) refl
  where
    few : is_too_long_or_deep v ≡ false → ltb (element_count v) (2 ^ 20) ≡ true
    few h = lt-ltb (element_count v) (2 ^ 20) (omega (arith, ltb-false 4096 (element_count v) (or_first _ _ h)))

    by_length : (b : Bool) → is_too_long_or_deep v ≡ b → IsBoundedAnswer (cond b (Err LongList) (Ok v))
    by_length true e = tt
    by_length false e = and_from _ _ s (few e)

-- functions of one value and of two
of_one_bounded : (row : Val → AnswerOrFault Val)
    → ((v : Val) → IsTrue (has_small_numbers v) → IsBoundedAnswer (row v)) → (vs : Vals) → IsTrue (have_small_numbers vs) → IsBoundedAnswer (of_one row vs)
of_one_bounded row bounded no_vals s = tt
of_one_bounded row bounded (and_val v no_vals) s = bounded v (and_parts _ _ s).0
of_one_bounded row bounded (and_val v (and_val w vs)) s = tt

of_two_bounded : (row : Val → Val → AnswerOrFault Val) → ((v w : Val) → IsBoundedAnswer (row v w)) → (vs : Vals)
    → IsBoundedAnswer (of_two row vs)
of_two_bounded row bounded no_vals = tt
of_two_bounded row bounded (and_val v no_vals) = tt
of_two_bounded row bounded (and_val v (and_val w no_vals)) = bounded v w
of_two_bounded row bounded (and_val u (and_val v (and_val w vs))) = tt

applied_bounded : (builtin : Builtin) (vs : Vals) → IsTrue (have_small_numbers vs)
    → IsBoundedAnswer (builtin_value builtin vs)
applied_bounded Abs vs s =
    of_one_bounded (of_number (λ n. number_or_too_large (pos (unsigned_abs n))))
    (of_number_bounded (λ n. number_or_too_large (pos (unsigned_abs n))) (λ n t. sized_small (pos (unsigned_abs n)))) vs s
applied_bounded Sign vs s =
    of_one_bounded (of_number (λ n. Ok (sign_of n)))
    (of_number_bounded (λ n. Ok (sign_of n)) (λ n t. sign_small n)) vs s
applied_bounded Floor vs s =
    of_one_bounded (of_number (λ n. Ok n))
    (of_number_bounded (λ n. Ok n) (λ n t. t)) vs s
applied_bounded Ceil vs s =
    of_one_bounded (of_number (λ n. Ok n))
    (of_number_bounded (λ n. Ok n) (λ n t. t)) vs s
applied_bounded Round vs s =
    of_one_bounded (of_number (λ n. Ok n))
    (of_number_bounded (λ n. Ok n) (λ n t. t)) vs s
applied_bounded Min vs s = best_among_bounded int_lt vs s
applied_bounded Max vs s = best_among_bounded (λ a b. int_lt b a) vs s
applied_bounded Len vs s = of_one_bounded length_of (λ v t. length_bounded v) vs s
applied_bounded Concat vs s = made_bounded (ListVal (vals_from (joined_items vs))) (joined_small vs s)
applied_bounded Pow vs s = of_two_bounded power_of_values power_bounded vs
applied_bounded IsUndef vs s = of_one_bounded (λ v. Ok (TruthVal (is_undef v))) (λ v t. refl) vs s
applied_bounded IsNum vs s = of_one_bounded (λ v. Ok (TruthVal (is_num v))) (λ v t. refl) vs s
applied_bounded IsBool vs s = of_one_bounded (λ v. Ok (TruthVal (is_bool v))) (λ v t. refl) vs s
applied_bounded IsList vs s = of_one_bounded (λ v. Ok (TruthVal (is_list v))) (λ v t. refl) vs s

all_small : (vs : List Val) → IsTrue (are_bounded vs) → IsTrue (have_small_numbers (vals_from vs))
all_small [] b = refl
all_small (v ∷ vs) b = let p = and_parts _ _ b in and_from _ _ (and_parts _ _ p.0).0 (all_small vs p.1)

pub gives_bounded : (builtin : Builtin) (vs : List Val) (r : Result Value ValueStop)
    → MeetsAnswer r (builtin_value builtin (vals_from vs)) → IsTrue (are_bounded vs) → GivesBounded r
gives_bounded builtin vs r t b = told r _ t (applied_bounded builtin (vals_from vs) (all_small vs b))
