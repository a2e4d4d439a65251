-- What is chosen among some things is chosen among what they stand for.
use Rattle.std.proofs.Common.{◌≡◌, ℕ, zero, suc, List, [], ◌∷◌, ◌++◌, map, ℤ, pos, negsuc, refl, ap₂, ◌∙◌}
use Rattle.std.specs.Prelude.{All}
use Rattle.std.proofs.lemmas.List.{map-append}
use Rattle.std.proofs.lemmas.List.Elements.{All-nil, All-cons, All-head, All-tail, All-append, All-filter}
use Rattle.scad_ast.specs.Terms.{InstanceTerm, StatementTerms}
use Rattle.scad_func.specs.Meaning.{Env}
use Rattle.scad_modules.specs.Effects.{ChosenCall, all_children, numbered_children, ranged_children}
use Rattle.scad_meaning.specs.Bodies.{evaluated_instances, is_child}
use Rattle.scad_meaning.specs.Loops.{numbers_of_range, nth_item, item_numbered, items_numbered, chosen_among}
use Rattle.scad_meaning.specs.Meaning.{candidates_of}

module _ {A B : Type 0} (f : A → B) where
  map_nth : (xs : List A) (n : ℕ) → map f (nth_item xs n) ≡ nth_item (map f xs) n
  map_nth [] n = refl
  map_nth (x ∷ xs) zero = refl
  map_nth (x ∷ xs) (suc n) = map_nth xs n

  map_item : (xs : List A) (z : ℤ) → map f (item_numbered xs z) ≡ item_numbered (map f xs) z
  map_item xs (pos n) = map_nth xs n
  map_item xs (negsuc n) = refl

  map_items : (xs : List A) (ns : List ℤ) → map f (items_numbered xs ns) ≡ items_numbered (map f xs) ns
  map_items xs [] = refl
  map_items xs (n ∷ ns) = map-append f (item_numbered xs n) (items_numbered xs ns)
      ∙ ap₂ (λ ys zs. ys ++ zs) (map_item xs n) (map_items xs ns)

  pub map_chosen : (xs : List A) (chosen : ChosenCall) → map f (chosen_among xs chosen) ≡ chosen_among (map f xs) chosen
  map_chosen xs all_children = refl
  map_chosen xs (numbered_children numbers) = map_items xs numbers
  map_chosen xs (ranged_children from step upto) = map_items xs (numbers_of_range from step upto)

-- what holds of each thing holds of each that is chosen
module _ {A : Type 0} (P : A → Type 0) where
  all_nth : (xs : List A) (n : ℕ) → All P xs → All P (nth_item xs n)
  all_nth [] n h = All-nil P
  all_nth (x ∷ xs) zero h = All-cons P x [] (All-head P x xs h) (All-nil P)
  all_nth (x ∷ xs) (suc n) h = all_nth xs n (All-tail P x xs h)

  all_item : (xs : List A) (z : ℤ) → All P xs → All P (item_numbered xs z)
  all_item xs (pos n) h = all_nth xs n h
  all_item xs (negsuc n) h = All-nil P

  all_items : (xs : List A) (ns : List ℤ) → All P xs → All P (items_numbered xs ns)
  all_items xs [] h = All-nil P
  all_items xs (n ∷ ns) h = All-append P (item_numbered xs n) (items_numbered xs ns) (all_item xs n h) (all_items xs ns h)

  pub all_chosen : (xs : List A) (chosen : ChosenCall) → All P xs → All P (chosen_among xs chosen)
  all_chosen xs all_children h = h
  all_chosen xs (numbered_children numbers) h = all_items xs numbers h
  all_chosen xs (ranged_children from step upto) h = all_items xs (numbers_of_range from step upto) h

-- what holds of each instance that is evaluated holds of each among which a call of `children` chooses
pub candidates_all : (P : InstanceTerm → Type 0) (env : Env) (chosen : ChosenCall) (statements : StatementTerms)
    → All P (evaluated_instances statements) → All P (candidates_of env chosen statements)
candidates_all P env all_children statements h = h
candidates_all P env (numbered_children numbers) statements h = All-filter (is_child env) P (evaluated_instances statements) h
candidates_all P env (ranged_children from step upto) statements h = All-filter (is_child env) P (evaluated_instances statements) h
