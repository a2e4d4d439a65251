-- Lists of values of another length than the wanted one.
use Rattle.std.proofs.Common.{◌≡◌, ℕ, suc, ℤ, Bool, true, false, cond, List, [], ◌∷◌, length, Option, Some, None, refl, sym, ◌∙◌, ap, nat_eq}
use Rattle.std.proofs.lemmas.Bool.{eqb-true}
use Rattle.scad_value.specs.declared.value.Value.{Value}
use Rattle.scad_value.specs.Values.{Val, vals_from}
use Rattle.scad_value.specs.View.{val_of, vals_in}
use Rattle.scad_modules.specs.Reading.{number_in_value, with_first, each_in, of_length, with_third_from}

-- what is read has the given number of items
abbrev pub IsAsLong : {A : Type 0} → ℕ → Option (List A) → Type 0
IsAsLong n None = Unit {0}
IsAsLong n (Some xs) = length xs ≡ n

one_longer : {A : Type 0} (n : ℕ) (x : Option A) (xs : Option (List A)) → IsAsLong n xs
    → IsAsLong (suc n) (with_first x xs)
one_longer n None xs h = tt
one_longer n (Some x) None h = tt
one_longer n (Some x) (Some xs) h = ap suc h

pub as_long : {A : Type 0} (read : Val → Option A) (vs : List Value)
    → IsAsLong (length vs) (each_in read (vals_from (vals_in vs)))
as_long read [] = refl
as_long read (v ∷ vs) = one_longer (length vs) (read (val_of v)) _ (as_long read vs)

no_length : {A : Type 0} (n m : ℕ) (xs : Option (List A)) → IsAsLong m xs → (m ≡ n → ⊥) → None ≡ of_length n xs
no_length n m None a h = refl
no_length n m (Some xs) a h = by_test (nat_eq (length xs) n) refl
  where
    by_test : (b : Bool) → nat_eq (length xs) n ≡ b → None ≡ cond b (Some xs) None
    by_test true e = absurd (h (sym a ∙ eqb-true (length xs) n e))
    by_test false e = refl

pub other_length : {A : Type 0} (read : Val → Option A) (n : ℕ) (vs : List Value) → (length vs ≡ n → ⊥)
    → None ≡ of_length n (each_in read (vals_from (vals_in vs)))
other_length read n vs h = no_length n (length vs) _ (as_long read vs) h

none_filled : (third : ℤ) (m : ℕ) (xs : Option (List ℤ)) → IsAsLong m xs → (m ≡ 2 → ⊥) → (m ≡ 3 → ⊥)
    → None ≡ with_third_from third xs
none_filled third m None a h k = refl
none_filled third m (Some []) a h k = refl
none_filled third m (Some (x ∷ [])) a h k = refl
none_filled third m (Some (x ∷ y ∷ [])) a h k = absurd (h (sym a))
none_filled third m (Some (x ∷ y ∷ z ∷ [])) a h k = absurd (k (sym a))
none_filled third m (Some (x ∷ y ∷ z ∷ w ∷ xs)) a h k = refl

pub no_coordinates : (third : ℤ) (vs : List Value) → (length vs ≡ 2 → ⊥) → (length vs ≡ 3 → ⊥)
    → None ≡ with_third_from third (each_in number_in_value (vals_from (vals_in vs)))
no_coordinates third vs h k = none_filled third (length vs) _ (as_long number_in_value vs) h k
