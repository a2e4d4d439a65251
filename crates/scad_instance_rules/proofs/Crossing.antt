-- The numbers of a range against the places of a list.
use Rattle.std.proofs.Common.{◌≡◌, ℕ, zero, suc, ◌+◌, ◌-◌, ◌*◌, ◌<◌, ◌≤◌, List, [], ◌∷◌, ◌++◌, length, take, get_or, ℤ, pos, negsuc, ◌+ℤ◌, ◌*ℤ◌, ◌≤ℤ◌, refl, sym, ap, ◌∙◌, arith}
use Rattle.std.specs.Prelude.{unsigned_abs}
use Rattle.std.specs.Int.{div_ceil}
use Rattle.std.proofs.lemmas.Int.{ints, by_lt_z}
use Rattle.std.proofs.lemmas.Grind.{div_ceil_times}
use Rattle.std.proofs.lemmas.List.{take_more, append-nil}
use Rattle.std.proofs.Math.Nat.{mul-le-mul_right}
use Rattle.scad_meaning.specs.Loops.{numbers_by, item_numbered, items_numbered}
use Rattle.scad_instance_rules.specs.Choosing.{distance_before}
use Rattle.scad_instance_rules.proofs.NumberedItems.{items_of_both, none_below, none_past, outside_where_none, numbers_split, none_of, after_both}

-- the given number of steps fall short of a length
short_of : (a b f j : ℕ) → f * b < a + b → j < f → j * b < a
short_of a b f j h k = let m : suc j * b ≤ f * b = mul-le-mul_right b k in omega (arith, m)

steps_short : (a b j : ℕ) → 0 < b → j < div_ceil a b → j * b < a
steps_short a b j p h = short_of a b (div_ceil a b) j ((div_ceil_times a b p).1) h

-- the given number of steps reach it
reach_of : (a b f j : ℕ) → a ≤ f * b → f ≤ j → a ≤ j * b
reach_of a b f j h k = let m : f * b ≤ j * b = mul-le-mul_right b k in omega (arith, m)

steps_reach : (a b j : ℕ) → 0 < b → div_ceil a b ≤ j → a ≤ j * b
steps_reach a b j p h = reach_of a b (div_ceil a b) j ((div_ceil_times a b p).0) h

-- the first numbers of a range, before the list, have no items
pub none_before : {A : Type 0} (xs : List A) (from by : ℤ) (j : ℕ) → (by ≡ pos 0 → ⊥)
    → j < div_ceil (distance_before from by (length xs)) (unsigned_abs by) → item_numbered xs (from +ℤ (pos j *ℤ by)) ≡ []
none_before xs (pos n) (pos zero) j z h = absurd (z refl)
none_before xs (negsuc n) (pos zero) j z h = absurd (z refl)
none_before xs (pos n) (pos (suc s)) j z h = let k : j * suc s < 0 = steps_short 0 (suc s) j (omega arith) h in absurd (omega arith)
none_before xs (negsuc n) (negsuc s) j z h = let k : j * suc s < 0 = steps_short 0 (suc s) j (omega arith) h in absurd (omega arith)
none_before xs (negsuc n) (pos (suc s)) j z h =
    let k : j * suc s < suc n = steps_short (suc n) (suc s) j (omega arith) h in none_below xs (negsuc n +ℤ (pos j *ℤ pos (suc s))) (omega (arith, ints))
none_before xs (pos n) (negsuc s) j z h =
    let k : j * suc s < suc n - length xs = steps_short (suc n - length xs) (suc s) j (omega arith) h in none_past xs (pos n +ℤ (pos j *ℤ negsuc s)) (omega (arith, ints))

-- once the range has come to the list, a number that has no item is behind it, and so are the later ones
pub none_behind : {A : Type 0} (xs : List A) (from by : ℤ) (k j : ℕ) → (by ≡ pos 0 → ⊥)
    → div_ceil (distance_before from by (length xs)) (unsigned_abs by) ≤ k → item_numbered xs (from +ℤ (pos k *ℤ by)) ≡ []
    → k ≤ j → item_numbered xs (from +ℤ (pos j *ℤ by)) ≡ []
none_behind xs (pos n) (pos zero) k j z h e l = absurd (z refl)
none_behind xs (negsuc n) (pos zero) k j z h e l = absurd (z refl)
none_behind xs (pos n) (pos (suc s)) k j z h e l =
    let m : k * suc s ≤ j * suc s = mul-le-mul_right (suc s) l in
    let past : pos (length xs) ≤ℤ (pos n +ℤ (pos k *ℤ pos (suc s))) = outside_where_none xs (pos n +ℤ (pos k *ℤ pos (suc s))) e (omega (arith, ints)) in
    none_past xs (pos n +ℤ (pos j *ℤ pos (suc s))) (omega (arith, ints))
none_behind xs (negsuc n) (pos (suc s)) k j z h e l =
    let m : k * suc s ≤ j * suc s = mul-le-mul_right (suc s) l in
    let there : suc n ≤ k * suc s = steps_reach (suc n) (suc s) k (omega arith) h in
    let past : pos (length xs) ≤ℤ (negsuc n +ℤ (pos k *ℤ pos (suc s))) = outside_where_none xs (negsuc n +ℤ (pos k *ℤ pos (suc s))) e (omega (arith, ints)) in
    none_past xs (negsuc n +ℤ (pos j *ℤ pos (suc s))) (omega (arith, ints))
none_behind xs (negsuc n) (negsuc s) k j z h e l = none_below xs (negsuc n +ℤ (pos j *ℤ negsuc s)) (omega (arith, ints))
none_behind xs (pos n) (negsuc s) k j z h e l =
    let m : k * suc s ≤ j * suc s = mul-le-mul_right (suc s) l in
    let there : suc n - length xs ≤ k * suc s = steps_reach (suc n - length xs) (suc s) k (omega arith) h in
    by_lt_z (pos n +ℤ (pos k *ℤ negsuc s)) (pos 0)
    (λ below. none_below xs (pos n +ℤ (pos j *ℤ negsuc s)) (omega (arith, ints)))
    (λ above. let past : pos (length xs) ≤ℤ (pos n +ℤ (pos k *ℤ negsuc s)) = outside_where_none xs (pos n +ℤ (pos k *ℤ negsuc s)) e above in absurd (omega (arith, ints)))

-- the items of the first numbers, which are before the list
pub none_at_first : {A : Type 0} (xs : List A) (from by : ℤ) (c : ℕ) → (by ≡ pos 0 → ⊥)
    → c ≤ div_ceil (distance_before from by (length xs)) (unsigned_abs by) → items_numbered xs (numbers_by c from by) ≡ []
none_at_first xs from by c z h = none_of xs c from by (λ j k. none_before xs from by j z (omega arith))

-- one number more
pub one_more : {A : Type 0} (xs : List A) (from by : ℤ) (k : ℕ) → items_numbered xs (numbers_by (k + 1) from by)
    ≡ items_numbered xs (numbers_by k from by) ++ item_numbered xs (from +ℤ (pos k *ℤ by))
one_more xs from by k = ap (items_numbered xs) (numbers_split k 1 from by) ∙ items_of_both xs (numbers_by k from by) ((from +ℤ (pos k *ℤ by)) ∷ [])
    ∙ ap (λ ys. items_numbered xs (numbers_by k from by) ++ ys) (append-nil (item_numbered xs (from +ℤ (pos k *ℤ by))))

-- none of the later ones counts
pub no_more : {A : Type 0} (xs : List A) (from by : ℤ) (k c : ℕ) → (by ≡ pos 0 → ⊥)
    → div_ceil (distance_before from by (length xs)) (unsigned_abs by) ≤ k → item_numbered xs (from +ℤ (pos k *ℤ by)) ≡ [] → k ≤ c
    → items_numbered xs (numbers_by c from by) ≡ items_numbered xs (numbers_by k from by)
no_more xs from by k c z h e l =
    let count : c ≡ k + (c - k) = omega arith in
    let rest = none_of xs (c - k) (from +ℤ (pos k *ℤ by)) by (λ j m. ap (item_numbered xs) (after_both from by k j) ∙ none_behind xs from by k (k + j) z h e (omega arith)) in
    ap (λ m. items_numbered xs (numbers_by m from by)) count ∙ ap (items_numbered xs) (numbers_split k (c - k) from by)
    ∙ items_of_both xs (numbers_by k from by) (numbers_by (c - k) (from +ℤ (pos k *ℤ by)) by)
    ∙ ap (λ ys. items_numbered xs (numbers_by k from by) ++ ys) rest ∙ append-nil (items_numbered xs (numbers_by k from by))

-- one number more of a list of numbers
pub one_taken : {A : Type 0} (xs : List A) (ns : List ℤ) (i : ℕ) (found : List A) (d : ℤ) → i < length ns
    → found ≡ items_numbered xs (take i ns)
    → found ++ item_numbered xs (get_or ns i d) ≡ items_numbered xs (take (i + 1) ns)
one_taken xs ns i found d h e =
    let z = get_or ns i d in
    ap (λ ys. ys ++ item_numbered xs z) e
    ∙ sym (ap (items_numbered xs) (take_more ns i d h) ∙ items_of_both xs (take i ns) (z ∷ [])
    ∙ ap (λ ys. items_numbered xs (take i ns) ++ ys) (append-nil (item_numbered xs z)))
