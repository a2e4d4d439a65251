-- How the lines of a script are spelled.
use Rattle.std.specs.Prelude.{◌≡◌, ℕ, ◌≤◌, List, [], ◌++◌, length, All, codes, ◌⊎◌}
use Rattle.plain_text.specs.Decimals.{IsNumeralOf}
use Rattle.script_reader.specs.declared.script.Command.{Command}
use Rattle.script_reader.specs.declared.script.Command.TheVariants.{Put, Set, Cut, Show, Export, Bad}
use Rattle.plain_text.specs.Separators.{space}

-- `a` to `z` and `0` to `9`
abbrev pub IsNameByte : ℕ → Type 0
IsNameByte b = ((97 ≤ b) × (b ≤ 122)) ⊎ ((48 ≤ b) × (b ≤ 57))

-- the name of a client: 1 to 16 of these bytes
pub record IsName (name : List ℕ) : Type 0 where
  pub some : 1 ≤ length name
  pub short : length name ≤ 16
  pub bytes : All IsNameByte name

-- what stands behind the number of a `put` or a `set`: a space and the text, or nothing where the text is empty
abbrev pub IsTail : List ℕ → List ℕ → Type 0
IsTail tail text = (tail ≡ space ++ text) ⊎ ((tail ≡ []) × (text ≡ []))

-- `WORD N` with a tail
abbrev pub IsEditWords : List ℕ → List ℕ → ℕ → List ℕ → Type 0
IsEditWords word words line text =
    (digits : List ℕ) × (tail : List ℕ) × (words ≡ word ++ digits ++ tail) × IsNumeralOf digits line × IsTail tail text

-- what stands behind a name and its space, where it is one of the five commands
abbrev pub IsKnownCommand : List ℕ → Command → Type 0
IsKnownCommand words (Put line text) = IsEditWords (codes "put ") words line text
IsKnownCommand words (Set line text) = IsEditWords (codes "set ") words line text
IsKnownCommand words (Cut from upto) =
    (digits : List ℕ) × (digits' : List ℕ)
    × (words ≡ codes "cut " ++ digits ++ space ++ digits') × IsNumeralOf digits from × IsNumeralOf digits' upto
IsKnownCommand words Show = words ≡ codes "show"
IsKnownCommand words Export = words ≡ codes "export"
IsKnownCommand words Bad = ⊥

-- what stands behind a name: a space and one of the commands, or else it is a bad command
abbrev pub IsCommand : List ℕ → Command → Type 0
IsCommand tail command =
    ((words : List ℕ) × (tail ≡ space ++ words) × IsKnownCommand words command)
    ⊎ ((command ≡ Bad) × ((words : List ℕ) (known : Command) → tail ≡ space ++ words → IsKnownCommand words known → ⊥))

-- the line begins with a name, which a space or the line's end follows
pub record BeginsWithName (line name tail : List ℕ) : Type 0 where
  pub spelled : line ≡ name ++ tail
  pub named : IsName name
  pub ended : (tail ≡ []) ⊎ ((words : List ℕ) × (tail ≡ space ++ words))
