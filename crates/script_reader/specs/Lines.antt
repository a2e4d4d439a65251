-- The lines of a script.
use Rattle.std.specs.Prelude.{◌≡◌, ◌≢◌, ℕ, List, [], ◌∷◌, ◌++◌, All, ◌⊎◌}
use Rattle.plain_text.specs.Separators.{newline}

-- any bytes but newlines
abbrev pub IsPlain : List ℕ → Type 0
IsPlain bytes = All (λ b. b ≢ 10) bytes

-- the line as it counts: one carriage return at its end is dropped
abbrev pub IsTrimmed : List ℕ → List ℕ → Type 0
IsTrimmed raw line = (raw ≡ line ++ 13 ∷ []) ⊎ ((raw ≡ line) × ((front : List ℕ) → raw ≡ front ++ 13 ∷ [] → ⊥))

-- a line stands at the front of the bytes: it ends at the first newline, or at the end of the bytes where there is none
pub record IsFirstLine (bytes line rest : List ℕ) : Type 0 where
  pub raw : List ℕ
  pub some : bytes ≢ []
  pub plain : IsPlain raw
  pub ended : (bytes ≡ raw ++ newline ++ rest) ⊎ ((bytes ≡ raw) × (rest ≡ []))
  pub trimmed : IsTrimmed raw line

-- the bytes begin with these lines, and then go on with the rest
abbrev pub StartsWithLines : List ℕ → List (List ℕ) → List ℕ → Type 0
StartsWithLines bytes [] rest = bytes ≡ rest
StartsWithLines bytes (line ∷ lines) rest = (more : List ℕ) × IsFirstLine bytes line more × StartsWithLines more lines rest

-- the bytes are these lines
abbrev pub AreLines : List ℕ → List (List ℕ) → Type 0
AreLines bytes lines = StartsWithLines bytes lines []
