-- The bytes between words and lines.
use Rattle.std.specs.Prelude.{ℕ, List, [], ◌∷◌}

-- the byte of a space
abbrev pub space : List ℕ
space = 32 ∷ []

-- the byte of a line's end
abbrev pub newline : List ℕ
newline = 10 ∷ []
