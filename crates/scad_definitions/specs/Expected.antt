-- The names that a scope is expected to bind, in order.
use Rattle.std.specs.Prelude.{ℕ, List, [], ◌∷◌, length, Option, Some, None, nat_lt, if◌then◌else◌}
use Rattle.std.specs.Str.{bytes_eq}

-- the place of the newest of some names that is a name, where the newest stands first and the oldest has the place 0
abbrev pub newest_place : List (List ℕ) → List ℕ → Option ℕ
newest_place [] name = None
newest_place (known ∷ older) name = if bytes_eq known name then Some (length older)
    else newest_place older name

-- a place, where it is before another one
abbrev pub place_if_before : ℕ → Option ℕ → Option ℕ
place_if_before end None = None
place_if_before end (Some place) = if nat_lt place end then Some place else None
