-- Two lists that are equally long, place by place.
use Rattle.std.specs.Prelude.{List, [], ◌∷◌}

module _ {A B : Type 0} where
  -- at each place of both lists
  abbrev pub EachReady : (A → B → Type 0) → List A → List B → Type 0
  EachReady P [] [] = Unit {0}
  EachReady P (a ∷ xs) (b ∷ ys) = P a b × EachReady P xs ys
  EachReady P [] (b ∷ ys) = ⊥
  EachReady P (a ∷ xs) [] = ⊥

  -- at each place of both lists, before and after
  abbrev pub EachWorked : (A → B → A → B → Type 0) → List A → List B → List A → List B → Type 0
  EachWorked P [] [] [] [] = Unit {0}
  EachWorked P (a ∷ xs) (b ∷ ys) (c ∷ zs) (d ∷ ws) = P a b c d × EachWorked P xs ys zs ws
  EachWorked P xs ys zs ws = ⊥
