-- Decimal numbers as ASCII bytes.
use Rattle.std.specs.Prelude.{◌≡◌, ℕ, zero, suc, ◌+◌, ◌/◌, ◌%◌, ◌^◌, ◌≤◌, Bool, false, List, [], ◌∷◌, ◌++◌, length, ℤ, pos, negsuc}
use Rattle.std.specs.Char.{is_ascii_digit}
use Rattle.std.specs.Str.Parse.{AllDigits, digits_value}

-- the digits of at most the given number of divisions by ten, the highest first, and none for 0
abbrev pub digits_within : ℕ → ℕ → List ℕ
digits_within zero n = []
digits_within (suc divisions) zero = []
digits_within (suc divisions) (suc n) = digits_within divisions (suc n / 10) ++ (48 + suc n % 10) ∷ []

-- a number of any size in decimal digits with no leading zero; 0 is one zero
unfoldable pub numeral : ℕ → List ℕ
numeral zero = 48 ∷ []
numeral (suc n) = digits_within (suc n) (suc n)

-- the same with a minus sign before what is negative
abbrev pub signed_numeral : ℤ → List ℕ
signed_numeral (pos n) = numeral n
signed_numeral (negsuc n) = 45 ∷ numeral (suc n)

-- 1 to 7 decimal digits and nothing else; leading zeros are allowed
pub record IsShortNumeral (bytes : List ℕ) : Type 0 where
  pub some : 1 ≤ length bytes
  pub short : length bytes ≤ 7
  pub digits : AllDigits 10 bytes

-- the first byte is a decimal digit
abbrev pub begins_with_digit : List ℕ → Bool
begins_with_digit [] = false
begins_with_digit (byte ∷ bytes) = is_ascii_digit byte

-- 1 to 7 digits that write this number; leading zeros are allowed
abbrev pub IsNumeralOf : List ℕ → ℕ → Type 0
IsNumeralOf digits n = IsShortNumeral digits × (n ≡ digits_value 10 digits)

-- the least size of a number that is too large
abbrev pub least_too_large : ℕ
least_too_large = 2 ^ 53
