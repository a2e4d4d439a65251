-- What tests do to lists and to their maps.
use Rattle.std.proofs.Common.{◌≡◌, ℕ, Bool, true, false, List, [], ◌∷◌, map, refl, ap, sym, ◌∙◌, cond, arith, Some, None, option_map, ◌+◌, length}
use Rattle.std.specs.Prelude.{Option, IfSome, sum_by}
use Rattle.std.specs.Option.{option_map_or}
use Rattle.std.specs.List.{AllByRecursion}
use Rattle.std.proofs.lemmas.List.Sums.{sum_by-cons}
use Rattle.memo_core.specs.Memo.{first_with, without_first, brought_to_front}

pub cond_through : {A B : Type 0} (f : A → B) (b : Bool) (x y : A) → f (cond b x y) ≡ cond b (f x) (f y)
cond_through f true x y = refl
cond_through f false x y = refl

module _ {A B : Type 0} (f : A → B) (S : B → Bool) where
  pub first_map : (es : List A) → first_with S (map f es) ≡ option_map f (first_with (λ e. S (f e)) es)
  first_map [] = refl
  first_map (e ∷ es) = ap (cond (S (f e)) (Some (f e))) (first_map es) ∙ sym (cond_through (option_map f) (S (f e)) (Some e) (first_with (λ e. S (f e)) es))

  pub without_map : (es : List A) → without_first S (map f es) ≡ map f (without_first (λ e. S (f e)) es)
  without_map [] = refl
  without_map (e ∷ es) = ap (λ r. cond (S (f e)) (map f es) (f e ∷ r)) (without_map es) ∙ sym (cond_through (map f) (S (f e)) es (e ∷ without_first (λ e. S (f e)) es))

  through : (es rest : List A) (o : Option A) → option_map_or (λ e. e ∷ map f rest) (option_map f o) (map f es) ≡ map f (option_map_or (λ e. e ∷ rest) o es)
  through es rest None = refl
  through es rest (Some x) = refl

  pub brought_map : (es : List A) → brought_to_front S (map f es) ≡ map f (brought_to_front (λ e. S (f e)) es)
  brought_map es =
      ap (λ o. option_map_or (λ e. e ∷ without_first S (map f es)) o (map f es)) (first_map es)
      ∙ ap (λ r. option_map_or (λ e. e ∷ r) (option_map f (first_with (λ e. S (f e)) es)) (map f es)) (without_map es)
      ∙ through es (without_first (λ e. S (f e)) es) (first_with (λ e. S (f e)) es)

module _ {A : Type 0} (S T : A → Bool) where
  -- tests that agree on a list
  abbrev pub Agree : List A → Type 0
  Agree es = AllByRecursion (λ e. S e ≡ T e) es

  pub first_agree : (es : List A) → Agree es → first_with S es ≡ first_with T es
  first_agree [] a = refl
  first_agree (e ∷ es) a = ap (λ b. cond b (Some e) (first_with S es)) a.0 ∙ ap (cond (T e) (Some e)) (first_agree es a.1)

  pub without_agree : (es : List A) → Agree es → without_first S es ≡ without_first T es
  without_agree [] a = refl
  without_agree (e ∷ es) a = ap (λ b. cond b es (e ∷ without_first S es)) a.0 ∙ ap (λ r. cond (T e) es (e ∷ r)) (without_agree es a.1)

  pub brought_agree : (es : List A) → Agree es → brought_to_front S es ≡ brought_to_front T es
  brought_agree es a =
      ap (λ o. option_map_or (λ e. e ∷ without_first S es) o es) (first_agree es a)
      ∙ ap (λ r. option_map_or (λ e. e ∷ r) (first_with T es) es) (without_agree es a)

module _ {A : Type 0} (S : A → Bool) where
  module _ (P : A → Type 0) where
    pub all_without : (es : List A) → AllByRecursion P es → AllByRecursion P (without_first S es)
    all_without [] a = tt
    all_without (e ∷ es) a = go (S e) (all_without es a.1) where
      go : (b : Bool) → AllByRecursion P (without_first S es) → AllByRecursion P (cond b es (e ∷ without_first S es))
      go true r = a.1
      go false r = (a.0, r)

    pub all_first : (es : List A) → AllByRecursion P es → IfSome (first_with S es) P
    all_first [] a = tt
    all_first (e ∷ es) a = go (S e) (all_first es a.1) where
      go : (b : Bool) → IfSome (first_with S es) P → IfSome (cond b (Some e) (first_with S es)) P
      go true r = a.0
      go false r = r

    pub all_brought : (es : List A) → AllByRecursion P es → AllByRecursion P (brought_to_front S es)
    all_brought es a = go (first_with S es) (all_first es a) where
      go : (o : Option A) → IfSome o P → AllByRecursion P (option_map_or (λ e. e ∷ without_first S es) o es)
      go None h = a
      go (Some x) h = (h, all_without es a)

  module _ (w : A → ℕ) where
    pub sum_without : (es : List A) → sum_by w es ≡ option_map_or w (first_with S es) 0 + sum_by w (without_first S es)
    sum_without [] = refl
    sum_without (e ∷ es) = sum_by-cons w e es ∙ go (S e) (sum_without es) where
      go : (b : Bool) → sum_by w es ≡ option_map_or w (first_with S es) 0 + sum_by w (without_first S es)
          → w e + sum_by w es ≡ option_map_or w (cond b (Some e) (first_with S es)) 0 + sum_by w (cond b es (e ∷ without_first S es))
      go true h = refl
      go false h = let l = sum_by-cons w e (without_first S es) in let o : option_map_or w (cond false (Some e) (first_with S es)) 0 ≡ option_map_or w (first_with S es) 0 = refl in let p : sum_by w (cond false es (e ∷ without_first S es)) ≡ sum_by w (e ∷ without_first S es) = refl in omega (arith, h, l, o, p)

    pub sum_brought : (es : List A) → sum_by w (brought_to_front S es) ≡ sum_by w es
    sum_brought es = go (first_with S es) (sum_without es) where
      go : (o : Option A) → sum_by w es ≡ option_map_or w o 0 + sum_by w (without_first S es) → sum_by w (option_map_or (λ e. e ∷ without_first S es) o es) ≡ sum_by w es
      go None h = refl
      go (Some x) h = sum_by-cons w x (without_first S es) ∙ sym h

  pub length_without : (es : List A) → length es ≡ option_map_or (λ _. 1) (first_with S es) 0 + length (without_first S es)
  length_without [] = refl
  length_without (e ∷ es) = go (S e) (length_without es) where
    go : (b : Bool) → length es ≡ option_map_or (λ _. 1) (first_with S es) 0 + length (without_first S es)
        → length (e ∷ es) ≡ option_map_or (λ _. 1) (cond b (Some e) (first_with S es)) 0 + length (cond b es (e ∷ without_first S es))
    go true h = omega arith
    go false h = omega (arith, h)

  pub length_brought : (es : List A) → length (brought_to_front S es) ≡ length es
  length_brought es = go (first_with S es) (length_without es) where
    go : (o : Option A) → length es ≡ option_map_or (λ _. 1) o 0 + length (without_first S es) → length (option_map_or (λ e. e ∷ without_first S es) o es) ≡ length es
    go None h = refl
    go (Some x) h = omega (arith, h)

  pub brought_none : (es : List A) → first_with S es ≡ None → brought_to_front S es ≡ es
  brought_none es n = ap (λ o. option_map_or (λ e. e ∷ without_first S es) o es) n
