-- The grammar of the words: `run`, and options in any order, each at most once, or `demo` and a number.
use Rattle.std.specs.Prelude.{◌≡◌, ℕ, ◌*◌, ◌≤◌, true, false, List, [], ◌∷◌, ◌++◌, codes, ◌⊎◌, Option, Some, None}
use Rattle.plain_text.specs.Decimals.{IsNumeralOf}
use Rattle.run_words.specs.declared.given.GivenOptions.{GivenOptions}
use Rattle.run_words.specs.declared.settings.Settings.{Settings}
use Rattle.run_words.specs.declared.settings.Settings.TheVariants.{Run, Demo}

-- an option that has a number
pub data OptionKey : Type 0 where
  Workers : OptionKey
  Memo : OptionKey
  Share : OptionKey

-- an option, with its number if it has one
pub data RunOption : Type 0 where
  Number : OptionKey → ℕ → RunOption
  Half : RunOption
  Tally : RunOption

-- the byte of `=`
abbrev pub equals_sign : List ℕ
equals_sign = 61 ∷ []

-- how an option that has a value is written
abbrev pub key_name : OptionKey → List ℕ
key_name Workers = codes "--workers"
key_name Memo = codes "--memo"
key_name Share = codes "--share"

-- the word is this option without a number
abbrev pub IsFlag : List ℕ → RunOption → Type 0
IsFlag word Half = word ≡ codes "--half"
IsFlag word Tally = word ≡ codes "--tally"
IsFlag word (Number key n) = ⊥

-- the words begin with an option and go on with the rest: the option is one word, `--NAME` or `--NAME=N`, or two, `--NAME N`
abbrev pub BeginsWithOption : List (List ℕ) → RunOption → List (List ℕ) → Type 0
BeginsWithOption words (Number key n) rest =
    (digits : List ℕ) × IsNumeralOf digits n
    × ((words ≡ (key_name key ++ equals_sign ++ digits) ∷ rest) ⊎ (words ≡ key_name key ∷ digits ∷ rest))
BeginsWithOption words option rest = (word : List ℕ) × IsFlag word option × (words ≡ word ∷ rest)

-- the words are these options
abbrev pub AreOptions : List (List ℕ) → List RunOption → Type 0
AreOptions words [] = words ≡ []
AreOptions words (option ∷ options) = (rest : List (List ℕ)) × BeginsWithOption words option rest × AreOptions rest options

-- the option was not given yet
abbrev pub IsNotGiven : GivenOptions → RunOption → Type 0
IsNotGiven given (Number Workers n) = given.workers ≡ None
IsNotGiven given (Number Memo n) = given.memo ≡ None
IsNotGiven given (Number Share n) = given.share ≡ None
IsNotGiven given Half = given.half ≡ false
IsNotGiven given Tally = given.tally ≡ false

-- with one option more
abbrev pub with_option : GivenOptions → RunOption → GivenOptions
with_option given (Number Workers n) = record given { workers = Some n }
with_option given (Number Memo n) = record given { memo = Some n }
with_option given (Number Share n) = record given { share = Some n }
with_option given Half = record given { half = true }
with_option given Tally = record given { tally = true }

-- the second is the first with these options added, of which each is given at most once in all
abbrev pub AddOptions : GivenOptions → List RunOption → GivenOptions → Type 0
AddOptions given [] all = all ≡ given
AddOptions given (option ∷ options) all = IsNotGiven given option × AddOptions (with_option given option) options all

-- what is given before any option is read
abbrev pub no_options : GivenOptions
no_options = record { workers = None; memo = None; share = None; half = false; tally = false }

-- what is given, or else this number
abbrev pub or_else : Option ℕ → ℕ → ℕ
or_else None other = other
or_else (Some n) other = n

-- what was given, and the defaults of the rest
abbrev pub chosen_settings : GivenOptions → Settings
chosen_settings given = Run (or_else given.workers 4) (or_else given.memo 500000) (or_else given.share 0) given.half given.tally

-- the numbers are in their ranges
abbrev pub AreSettingsInRange : Settings → Type 0
AreSettingsInRange (Run workers memo share half tally) =
    (1 ≤ workers) × (workers ≤ 64) × (memo ≤ 2000000) × (share ≤ 125000) × (16 * share ≤ memo)
AreSettingsInRange (Demo n) = (1 ≤ n) × (n ≤ 200)

-- the words behind `run` choose these settings
abbrev pub AreRunOptions : List (List ℕ) → Settings → Type 0
AreRunOptions words settings =
    (options : List RunOption) × (given : GivenOptions)
    × AreOptions words options × AddOptions no_options options given × (settings ≡ chosen_settings given)

-- the words behind `demo` choose these settings
abbrev pub AreDemoWords : List (List ℕ) → Settings → Type 0
AreDemoWords words settings = (digits : List ℕ) × (n : ℕ) × (words ≡ digits ∷ []) × IsNumeralOf digits n × (settings ≡ Demo n)

-- the words choose these settings
abbrev pub Chooses : List (List ℕ) → Settings → Type 0
Chooses [] settings = ⊥
Chooses (first ∷ rest) settings =
    AreSettingsInRange settings
    × (((first ≡ codes "run") × AreRunOptions rest settings) ⊎ ((first ≡ codes "demo") × AreDemoWords rest settings))

-- the words are outside the grammar
abbrev pub AreOutsideGrammar : List (List ℕ) → Type 0
AreOutsideGrammar words = (settings : Settings) → Chooses words settings → ⊥
