-- A table of names with one name more.
use Rattle.std.proofs.Common.{◌≡◌, ℕ, zero, suc, ◌<◌, ◌≤◌, List, [], ◌∷◌, ◌++◌, length, take, reverse, Bool, true, false, cond, Option, Some, None, refl, sym, ap, ◌∙◌, arith, length-append}
use Rattle.std.specs.Prelude.{nat_lt}
use Rattle.std.specs.Str.{bytes_eq}
use Rattle.std.specs.Cmp.Lexicographic.{bytes_decides}
use Rattle.std.proofs.lemmas.Bool.{cases_Bool, cond-true, cond-false, ltb-true, ltb-false}
use Rattle.std.proofs.lemmas.List.{reverse-append, take-append-le, length-reverse}
use mathlib.Core.Logic.{⊎_elim}
use Rattle.scad_definitions.specs.Expected.{newest_place, place_if_before}

take_all : {A : Type 0} (k : ℕ) (xs : List A) → length xs ≤ k → take k xs ≡ xs
take_all zero [] h = refl
take_all zero (x ∷ xs) h = absurd (omega arith)
take_all (suc k) [] h = refl
take_all (suc k) (x ∷ xs) h = ap (λ l. x ∷ l) (take_all k xs (omega (arith, h)))

-- no name has a place in no names
pub nothing_placed : (xs : List (List ℕ)) (f : List ℕ → Option ℕ) → xs ≡ [] → ((name : List ℕ) → f name ≡ None)
    → (k : ℕ) (name : List ℕ) → newest_place (reverse (take k xs)) name ≡ place_if_before k (f name)
nothing_placed xs f e none k name =
    ap (λ (l : List (List ℕ)). newest_place (reverse (take k l)) name) e
    ∙ ap (λ (l : List (List ℕ)). newest_place (reverse l) name) (take_all k [] (omega arith))
    ∙ ap (place_if_before k) (sym (none name))

-- a new name has the place behind all others
module _ (xs : List (List ℕ)) (x : List ℕ) (f : List ℕ → Option ℕ)
    (old : (k : ℕ) (name : List ℕ) → newest_place (reverse (take k xs)) name ≡ place_if_before k (f name))
    (none : f x ≡ None) where
  early : (k : ℕ) (name : List ℕ) → nat_lt (length xs) k ≡ false
      → place_if_before k (f name) ≡ place_if_before k (cond (bytes_eq x name) (Some (length xs)) (f name))
  early k name e = ⊎_elim
      (λ y. ap (λ n. place_if_before k (f n)) (sym ((bytes_decides x name).0 y)) ∙ ap (place_if_before k) none
      ∙ sym (cond-false (nat_lt (length xs) k) (Some (length xs)) None e)
      ∙ ap (place_if_before k) (sym (cond-true (bytes_eq x name) (Some (length xs)) (f name) y)))
      (λ n. ap (place_if_before k) (sym (cond-false (bytes_eq x name) (Some (length xs)) (f name) n)))
      (cases_Bool (bytes_eq x name))

  late : (k : ℕ) (name : List ℕ) → nat_lt (length xs) k ≡ true
      → cond (bytes_eq x name) (Some (length (reverse xs))) (newest_place (reverse xs) name)
      ≡ place_if_before k (cond (bytes_eq x name) (Some (length xs)) (f name))
  late k name e = ⊎_elim
      (λ y. cond-true (bytes_eq x name) _ _ y ∙ ap (λ n. Some n) (length-reverse xs)
      ∙ sym (cond-true (nat_lt (length xs) k) (Some (length xs)) None e)
      ∙ ap (place_if_before k) (sym (cond-true (bytes_eq x name) (Some (length xs)) (f name) y)))
      (λ n. cond-false (bytes_eq x name) _ _ n
      ∙ ap (λ (l : List (List ℕ)). newest_place (reverse l) name)
      (sym (take_all k xs (omega (arith, ltb-true (length xs) k e))))
      ∙ old k name
      ∙ ap (place_if_before k) (sym (cond-false (bytes_eq x name) (Some (length xs)) (f name) n)))
      (cases_Bool (bytes_eq x name))

  pub placed_more : (g : List ℕ → Option ℕ)
      → ((name : List ℕ) → g name ≡ cond (bytes_eq x name) (Some (length xs)) (f name))
      → (k : ℕ) (name : List ℕ) → newest_place (reverse (take k (xs ++ x ∷ []))) name ≡ place_if_before k (g name)
  placed_more g put k name = ⊎_elim
      (λ t. ap (λ (l : List (List ℕ)). newest_place (reverse l) name)
      (take_all k (xs ++ x ∷ []) (omega (arith, length-append xs (x ∷ []), ltb-true (length xs) k t)))
      ∙ ap (λ (l : List (List ℕ)). newest_place l name) (reverse-append xs (x ∷ []))
      ∙ late k name t ∙ ap (place_if_before k) (sym (put name)))
      (λ n. ap (λ (l : List (List ℕ)). newest_place (reverse l) name)
      (take-append-le k xs (x ∷ []) (ltb-false (length xs) k n))
      ∙ old k name ∙ early k name n ∙ ap (place_if_before k) (sym (put name)))
      (cases_Bool (nat_lt (length xs) k))
