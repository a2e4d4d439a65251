-- How many values a variable of a loop has at most.
use Rattle.std.proofs.Common.{◌≡◌, ℕ, zero, suc, ◌+◌, ◌/◌, ◌<◌, ◌≤◌, ℤ, pos, negsuc, ◌+ℤ◌, ◌-ℤ◌, Bool, true, false, ◌&&◌, ltb, Some, refl, ap, arith}
use Rattle.std.specs.Prelude.{IsTrue, unsigned_abs, int_lt, if◌then◌else◌}
use Rattle.std.proofs.lemmas.Bool.{and_parts, ltb-true}
use Rattle.std.proofs.Math.Nat.{div-le_self}
use Rattle.std.proofs.lemmas.Int.{ints}
use Rattle.plain_text.specs.Decimals.{least_too_large}
use Rattle.scad_value.specs.Values.{Val, NumberVal, TruthVal, TextVal, ListVal, RangeVal, UndefVal, Vals, no_vals, and_val, count_of, element_count, element_count_in, is_small, has_small_numbers, have_small_numbers, is_bounded, least_too_many_elements}
use Rattle.scad_meaning.specs.Loops.{iterated_values, numbers_by, number_vals, numbers_of_range, count_of_range}
use Rattle.scad_eval.specs.Variables.{most_values}

some_element : (value : Val) → 1 ≤ element_count value
some_element (NumberVal n) = omega arith
some_element (TruthVal truth) = omega arith
some_element (TextVal bytes) = omega arith
some_element (ListVal items) = omega arith
some_element (RangeVal from step to) = omega arith
some_element UndefVal = omega arith

no_more_values : (values : Vals) → count_of values ≤ element_count_in values
no_more_values no_vals = omega arith
no_more_values (and_val value values) = omega (arith, some_element value, no_more_values values)

numbers_count : (count : ℕ) (from step : ℤ) → count_of (number_vals (numbers_by count from step)) ≡ count
numbers_count zero from step = refl
numbers_count (suc count) from step = omega (arith, numbers_count count (from +ℤ step) step)

one_of_two : (b : Bool) (n m : ℕ) → n ≤ m → (if b then zero else n) ≤ m
one_of_two true n m h = omega arith
one_of_two false n m h = h

steps_fit : (a b : ℤ) (n : ℕ) → unsigned_abs a < least_too_large → unsigned_abs b < least_too_large → suc (unsigned_abs (a -ℤ b) / suc n) ≤ most_values
steps_fit a b n f g =
    let fewer = div-le_self (unsigned_abs (a -ℤ b)) (suc n) in
    let near : unsigned_abs (a -ℤ b) ≤ unsigned_abs a + unsigned_abs b = omega (arith, ints) in
    omega (arith, fewer, near, f, g)

range_count : (from step to : ℤ) → unsigned_abs from < least_too_large → unsigned_abs to < least_too_large → count_of_range from step to ≤ most_values
range_count from (pos zero) to f t = omega arith
range_count from (pos (suc n)) to f t = one_of_two (int_lt to from) _ most_values (steps_fit to from n t f)
range_count from (negsuc n) to f t = one_of_two (int_lt from to) _ most_values (steps_fit from to n f t)

-- the values of what is bounded are no more than there may be
pub few_values : (value : Val) (values : Vals) → Some values ≡ iterated_values value → IsTrue (is_bounded value) → count_of values ≤ most_values
few_values (ListVal items) values same bounded =
    let parts = and_parts (have_small_numbers items) (ltb (suc (element_count_in items)) least_too_many_elements) bounded in
    let few = ltb-true (suc (element_count_in items)) least_too_many_elements parts.1 in
    let is : values ≡ items = cc in
    omega (arith, few, no_more_values items, ap count_of is)
few_values (RangeVal from step to) values same bounded =
    let small = (and_parts (has_small_numbers (RangeVal from step to)) (ltb 1 least_too_many_elements) bounded).0 in
    let parts = and_parts (is_small from) (is_small step && is_small to) small in
    let first = ltb-true (unsigned_abs from) least_too_large parts.0 in
    let last = ltb-true (unsigned_abs to) least_too_large (and_parts (is_small step) (is_small to) parts.1).1 in
    let is : values ≡ number_vals (numbers_of_range from step to) = cc in
    omega (arith, range_count from step to first last, numbers_count (count_of_range from step to) from step, ap count_of is)
few_values (NumberVal n) values same bounded = absurd (cc)
few_values (TruthVal truth) values same bounded = absurd (cc)
few_values (TextVal bytes) values same bounded = absurd (cc)
few_values UndefVal values same bounded = absurd (cc)
