-- The items of some numbers.
use Rattle.std.proofs.Common.{◌≡◌, ℕ, zero, suc, ◌+◌, ◌<◌, ◌≤◌, List, [], ◌∷◌, ◌++◌, length, get_or, ℤ, pos, negsuc, ◌+ℤ◌, ◌*ℤ◌, ◌<ℤ◌, ◌≤ℤ◌, refl, sym, ap, ap₂, ◌∙◌, append_assoc, arith}
use Rattle.std.proofs.lemmas.Int.{ints}
use lib.IntN.{nat_abs}
use Rattle.scad_meaning.specs.Loops.{numbers_by, nth_item, item_numbered, items_numbered}

-- of two lists of numbers, one after the other
pub items_of_both : {A : Type 0} (xs : List A) (ms ns : List ℤ) → items_numbered xs (ms ++ ns)
    ≡ items_numbered xs ms ++ items_numbered xs ns
items_of_both xs [] ns = refl
items_of_both xs (m ∷ ms) ns = ap (λ zs. item_numbered xs m ++ zs) (items_of_both xs ms ns)
    ∙ sym (append_assoc (item_numbered xs m) (items_numbered xs ms) (items_numbered xs ns))

nth_past : {A : Type 0} (xs : List A) (n : ℕ) → length xs ≤ n → nth_item xs n ≡ []
nth_past [] n h = refl
nth_past (x ∷ xs) zero h = absurd (omega arith)
nth_past (x ∷ xs) (suc n) h = nth_past xs n (omega arith)

nth_there : {A : Type 0} (xs : List A) (n : ℕ) (d : A) → n < length xs → nth_item xs n ≡ get_or xs n d ∷ []
nth_there [] n d h = absurd (omega arith)
nth_there (x ∷ xs) zero d h = refl
nth_there (x ∷ xs) (suc n) d h = nth_there xs n d (omega arith)

-- a number below 0 has none
pub none_below : {A : Type 0} (xs : List A) (z : ℤ) → z <ℤ pos 0 → item_numbered xs z ≡ []
none_below xs (pos n) h = absurd (omega (arith, ints))
none_below xs (negsuc n) h = refl

-- nor has one past the last
pub none_past : {A : Type 0} (xs : List A) (z : ℤ) → pos (length xs) ≤ℤ z → item_numbered xs z ≡ []
none_past xs (pos n) h = nth_past xs n (omega (arith, ints))
none_past xs (negsuc n) h = refl

-- one between has the item at its place
pub one_there : {A : Type 0} (xs : List A) (z : ℤ) (d : A) → pos 0 ≤ℤ z → z <ℤ pos (length xs)
    → item_numbered xs z ≡ get_or xs (nat_abs z) d ∷ []
one_there xs (pos n) d h k = nth_there xs n d (omega (arith, ints))
one_there xs (negsuc n) d h k = absurd (omega (arith, ints))

-- where there is none, the number is outside
pub outside_where_none : {A : Type 0} (xs : List A) (z : ℤ) → item_numbered xs z ≡ [] → pos 0 ≤ℤ z
    → pos (length xs) ≤ℤ z
outside_where_none [] z e h = h
outside_where_none (x ∷ xs) (negsuc n) e h = absurd (omega (arith, ints))
outside_where_none (x ∷ xs) (pos zero) e h = cc
outside_where_none (x ∷ xs) (pos (suc n)) e h = let k : pos (length xs) ≤ℤ pos n = outside_where_none xs (pos n) e (omega (arith, ints)) in omega (arith, ints)

-- the number after the given number of steps more
pub after_one : (n by : ℤ) (j : ℕ) → (n +ℤ by) +ℤ (pos j *ℤ by) ≡ n +ℤ (pos (suc j) *ℤ by)
after_one n (pos s) j = omega (arith, ints)
after_one n (negsuc s) j = omega (arith, ints)

pub after_none : (n by : ℤ) → n +ℤ (pos 0 *ℤ by) ≡ n
after_none n (pos s) = omega (arith, ints)
after_none n (negsuc s) = omega (arith, ints)

pub after_both : (n by : ℤ) (k j : ℕ) → (n +ℤ (pos k *ℤ by)) +ℤ (pos j *ℤ by) ≡ n +ℤ (pos (k + j) *ℤ by)
after_both n (pos s) k j = omega (arith, ints)
after_both n (negsuc s) k j = omega (arith, ints)

-- the given number of numbers and a given number more
pub numbers_split : (j m : ℕ) (n by : ℤ) → numbers_by (j + m) n by
    ≡ numbers_by j n by ++ numbers_by m (n +ℤ (pos j *ℤ by)) by
numbers_split zero m n by = ap₂ (λ c z. numbers_by c z by) (omega arith) (sym (after_none n by))
numbers_split (suc j) m n by =
    let count : suc (j + m) ≡ suc j + m = omega arith in
    let rest = numbers_split j m (n +ℤ by) by ∙ ap (λ z. numbers_by j (n +ℤ by) by ++ numbers_by m z by) (after_one n by j) in
    ap (λ c. numbers_by c n by) (sym count) ∙ ap (λ ns. n ∷ ns) rest

-- numbers of which none has an item
pub none_of : {A : Type 0} (xs : List A) (c : ℕ) (n by : ℤ)
    → ((j : ℕ) → j < c → item_numbered xs (n +ℤ (pos j *ℤ by)) ≡ []) → items_numbered xs (numbers_by c n by) ≡ []
none_of xs zero n by none = refl
none_of xs (suc c) n by none = ap₂ (λ ys zs. ys ++ zs) (ap (item_numbered xs) (sym (after_none n by)) ∙ none 0 (omega arith))
    (none_of xs c (n +ℤ by) by (λ j h. ap (item_numbered xs) (after_one n by j) ∙ none (suc j) (omega arith)))
