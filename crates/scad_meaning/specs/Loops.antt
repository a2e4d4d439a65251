-- What a loop goes through.
use Rattle.std.specs.Prelude.{ℕ, zero, suc, ◌/◌, ℤ, pos, negsuc, ◌+ℤ◌, ◌-ℤ◌, unsigned_abs, List, [], ◌∷◌, ◌++◌, Option, Some, None, int_lt, if◌then◌else◌}
use Rattle.scad_value.specs.Values.{Val, NumberVal, ListVal, RangeVal, Vals, no_vals, and_val}
use Rattle.scad_modules.specs.Effects.{ChosenCall, all_children, numbered_children, ranged_children}

-- how many numbers a range has: none where its step leads away from its end
abbrev pub count_of_range : ℤ → ℤ → ℤ → ℕ
count_of_range from (pos zero) upto = zero
count_of_range from (pos (suc n)) upto = if int_lt upto from then zero else suc (unsigned_abs (upto -ℤ from) / suc n)
count_of_range from (negsuc n) upto = if int_lt from upto then zero else suc (unsigned_abs (from -ℤ upto) / suc n)

-- the given number of numbers from one on, by a step
abbrev pub numbers_by : ℕ → ℤ → ℤ → List ℤ
numbers_by zero from step = []
numbers_by (suc count) from step = from ∷ numbers_by count (from +ℤ step) step

-- the numbers of a range
abbrev pub numbers_of_range : ℤ → ℤ → ℤ → List ℤ
numbers_of_range from step upto = numbers_by (count_of_range from step upto) from step

-- numbers as values
abbrev pub number_vals : List ℤ → Vals
number_vals [] = no_vals
number_vals (number ∷ numbers) = and_val (NumberVal number) (number_vals numbers)

-- the items of a list, or the numbers of a range
abbrev pub iterated_values : Val → Option Vals
iterated_values (ListVal items) = Some items
iterated_values (RangeVal from step upto) = Some (number_vals (numbers_of_range from step upto))
iterated_values value = None

-- the item of a number, where there is one
abbrev pub nth_item : {A : Type 0} → List A → ℕ → List A
nth_item [] n = []
nth_item (x ∷ xs) zero = x ∷ []
nth_item (x ∷ xs) (suc n) = nth_item xs n

-- the item of a whole number, where there is one: a number below 0 has none
abbrev pub item_numbered : {A : Type 0} → List A → ℤ → List A
item_numbered xs (pos n) = nth_item xs n
item_numbered xs (negsuc n) = []

-- the items of numbers, in the order of the numbers
abbrev pub items_numbered : {A : Type 0} → List A → List ℤ → List A
items_numbered xs [] = []
items_numbered xs (number ∷ numbers) = item_numbered xs number ++ items_numbered xs numbers

-- the chosen ones of some children, in the order in which they are chosen; a number that none has chooses nothing
abbrev pub chosen_among : {A : Type 0} → List A → ChosenCall → List A
chosen_among xs all_children = xs
chosen_among xs (numbered_children numbers) = items_numbered xs numbers
chosen_among xs (ranged_children from step upto) = items_numbered xs (numbers_of_range from step upto)
