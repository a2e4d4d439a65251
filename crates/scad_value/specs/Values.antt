-- Values as plain trees, without memory (OpenSCAD User Manual, in the profile of this server).
use Rattle.std.specs.Prelude.{ℕ, suc, ◌+◌, ◌^◌, max, ℤ, Bool, true, false, not, ◌&&◌, ◌||◌, List, [], ◌∷◌, nat_lt, unsigned_abs}
use Rattle.std.specs.Ordering.{int_eq}
use Rattle.std.specs.Str.{bytes_eq}
use Rattle.plain_text.specs.Decimals.{least_too_large}

mutual
  -- a number, a truth, the bytes of a text, a list, a range from one number by a step to another one, or `undef`
  pub data Val : Type 0 where
    NumberVal : (n : ℤ) → Val
    TruthVal : (truth : Bool) → Val
    TextVal : (bytes : List ℕ) → Val
    ListVal : (items : Vals) → Val
    RangeVal : (from step to : ℤ) → Val
    UndefVal : Val

  -- the items of a list in order
  pub data Vals : Type 0 where
    no_vals : Vals
    and_val : (first : Val) → (rest : Vals) → Vals

-- the values of a list
abbrev pub vals_from : List Val → Vals
vals_from [] = no_vals
vals_from (v ∷ vs) = and_val v (vals_from vs)

-- how many items there are
abbrev pub count_of : Vals → ℕ
count_of no_vals = 0
count_of (and_val v vs) = suc (count_of vs)

-- the value itself and all values in it, in lists within lists too: `[1, 2]` has 3
abbrev mutual
  pub element_count : Val → ℕ
  element_count (ListVal items) = suc (element_count_in items)
  element_count v = 1

  -- the elements of all items together
  pub element_count_in : Vals → ℕ
  element_count_in no_vals = 0
  element_count_in (and_val v vs) = element_count v + element_count_in vs

-- how many lists are in one another
abbrev mutual
  pub nesting_of : Val → ℕ
  nesting_of (ListVal items) = suc (nesting_in items)
  nesting_of v = 0

  -- how deep the deepest item is
  pub nesting_in : Vals → ℕ
  nesting_in no_vals = 0
  nesting_in (and_val v vs) = max (nesting_of v) (nesting_in vs)

-- the most elements of a value that an operator, a call or a bracket makes
abbrev pub most_elements : ℕ
most_elements = 4096

-- how deep its lists are in one another at most
abbrev pub most_nesting : ℕ
most_nesting = 64

-- a list that none of them may make: of more elements, or deeper
abbrev pub is_too_long_or_deep : Val → Bool
is_too_long_or_deep v = nat_lt most_elements (element_count v) || nat_lt most_nesting (nesting_of v)

-- a number of the profile: one that isn't too large
abbrev pub is_small : ℤ → Bool
is_small n = nat_lt (unsigned_abs n) least_too_large

-- each number in it is one of the profile
abbrev mutual
  pub has_small_numbers : Val → Bool
  has_small_numbers (NumberVal n) = is_small n
  has_small_numbers (RangeVal from step to) = is_small from && (is_small step && is_small to)
  has_small_numbers (ListVal items) = have_small_numbers items
  has_small_numbers v = true

  -- each item has only such numbers
  pub have_small_numbers : Vals → Bool
  have_small_numbers no_vals = true
  have_small_numbers (and_val v vs) = has_small_numbers v && have_small_numbers vs

-- the least number of elements that is too many for what an operator is given
abbrev pub least_too_many_elements : ℕ
least_too_many_elements = 2 ^ 20

-- numbers of the profile, and not too many elements
abbrev pub is_bounded : Val → Bool
is_bounded v = has_small_numbers v && nat_lt (element_count v) least_too_many_elements

-- what counts as true: all but false, 0, the empty text, the empty list and undef
abbrev pub truth_of : Val → Bool
truth_of (NumberVal n) = nat_lt 0 (unsigned_abs n)
truth_of (TruthVal truth) = truth
truth_of (TextVal []) = false
truth_of (TextVal (byte ∷ bytes)) = true
truth_of (ListVal no_vals) = false
truth_of (ListVal (and_val v vs)) = true
truth_of (RangeVal from step to) = true
truth_of UndefVal = false

-- equal truths
abbrev pub same_truth : Bool → Bool → Bool
same_truth true b = b
same_truth false b = not b

abbrev mutual
  -- equal kind and elements
  pub are_same : Val → Val → Bool
  are_same (NumberVal a) (NumberVal b) = int_eq a b
  are_same (TruthVal a) (TruthVal b) = same_truth a b
  are_same (TextVal a) (TextVal b) = bytes_eq a b
  are_same (ListVal as_) (ListVal bs) = all_same as_ bs
  are_same (RangeVal from step to) (RangeVal other_from other_step other_to) =
      int_eq from other_from && (int_eq step other_step && int_eq to other_to)
  are_same UndefVal UndefVal = true
  are_same v w = false

  -- lists of one length whose items are equal, each to its own
  pub all_same : Vals → Vals → Bool
  all_same no_vals no_vals = true
  all_same (and_val v vs) (and_val w ws) = are_same v w && all_same vs ws
  all_same vs ws = false
