-- Pairs of a name and what it stands for, searched from the newest.
use Rattle.std.specs.Prelude.{ℕ, suc, ◌-◌, List, [], ◌∷◌, length, drop, Option, Some, None, if◌then◌else◌}
use Rattle.std.specs.Str.{bytes_eq}

-- pairs of a name and what it stands for, the newest first
abbrev pub Pairs : Type 0 → Type 0
Pairs A = List (List ℕ × A)

-- what the newest pair of a name has
abbrev pub find_in : {A : Type 0} → Pairs A → List ℕ → Option A
find_in [] name = None
find_in (p ∷ ps) name = if bytes_eq p.0 name then Some p.1 else find_in ps name

-- the given number of the oldest pairs, where the newest stands first
abbrev pub oldest_pairs : {A : Type 0} → ℕ → List A → List A
oldest_pairs n xs = drop (length xs - n) xs

-- the place of the newest pair of a name, where the oldest pair has the place 0
abbrev pub place_of_newest : {A : Type 0} → Pairs A → List ℕ → Option ℕ
place_of_newest [] name = None
place_of_newest (p ∷ ps) name = if bytes_eq p.0 name then Some (length ps) else place_of_newest ps name

-- for each pair the place of the newest one of its name that is older
abbrev pub hidden_places : {A : Type 0} → Pairs A → List (Option ℕ)
hidden_places [] = []
hidden_places (p ∷ ps) = place_of_newest ps p.0 ∷ hidden_places ps

-- a number further, where there is one
abbrev pub one_further : Option ℕ → Option ℕ
one_further (Some k) = Some (suc k)
one_further None = None
