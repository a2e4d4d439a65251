-- The index by which the names of a call's arguments are found.
use Rattle.std.specs.Prelude.{ℕ, ◌+◌, List, [], ◌∷◌, map}
use Rattle.scad_definitions.specs.Newest.{Pairs}
use Rattle.scad_definitions.specs.declared.parameters.Destination.{Destination}
use Rattle.scad_definitions.specs.declared.parameters.Destination.TheVariants.{Parameter, Special}

-- names with their numbers, from a number on
abbrev pub numbered_from : ℕ → List (List ℕ) → Pairs ℕ
numbered_from number [] = []
numbered_from number (name ∷ names) = (name, number) ∷ numbered_from (number + 1) names

-- the names of pairs
abbrev pub names_of_pairs : {A : Type 0} → Pairs A → List (List ℕ)
names_of_pairs pairs = map (λ pair. pair.0) pairs

-- special names behind an argument that something takes
abbrev pub names_after : List (List ℕ) → Destination → List (List ℕ)
names_after names (Parameter number) = names
names_after names (Special name) = name.now ∷ names
