-- What the settings are of what clap found.
use Rattle.std.specs.Prelude.{◌≡◌, ℕ, Bool, true, false, List, codes, ◌⊎◌, Option, Some, None, bytes_eq}
use Rattle.std.specs.List.{list_any}
use Rattle.clap.specs.Words.{Row, Text, first_of, one_of}
use Rattle.run_words.specs.declared.given.GivenOptions.{GivenOptions}
use Rattle.run_words.specs.declared.settings.Settings.{Settings}
use Rattle.run_words.specs.declared.settings.Settings.TheVariants.{Demo}
use Rattle.run_words.specs.Words.{chosen_settings}
use Rattle.plain_text.specs.Decimals.{IsNumeralOf}

-- no text and no number, or a text that writes the number
abbrev pub WritesNumberIfThere : Option Text → Option ℕ → Type 0
WritesNumberIfThere None None = Unit {0}
WritesNumberIfThere (Some text) (Some n) = IsNumeralOf text n
WritesNumberIfThere _ _ = ⊥

-- what clap reads of an option without a value, as it was given or not
abbrev pub flag_text : Bool → Text
flag_text true = codes "true"
flag_text false = codes "false"

-- the rows have one text for an option without a value: whether it was given
abbrev pub SaysFlag : List Row → Text → Bool → Type 0
SaysFlag rows name given = one_of name rows ≡ Some (flag_text given)

-- the rows have these options
abbrev pub WriteOptions : List Row → GivenOptions → Type 0
WriteOptions rows given =
    WritesNumberIfThere (first_of (codes "workers") rows) given.workers
    × WritesNumberIfThere (first_of (codes "memo") rows) given.memo
    × WritesNumberIfThere (first_of (codes "share") rows) given.share
    × SaysFlag rows (codes "half") given.half
    × SaysFlag rows (codes "tally") given.tally

-- each option without a value was read
abbrev pub HaveFlags : List Row → Type 0
HaveFlags rows = ((half : Bool) × SaysFlag rows (codes "half") half) × ((tally : Bool) × SaysFlag rows (codes "tally") tally)

-- the subcommand that was found and its rows make these settings
abbrev pub MakeSettings : Option (Text × List Row) → Settings → Type 0
MakeSettings None settings = ⊥
MakeSettings (Some found) settings =
    ((found.0 ≡ codes "run") × (given : GivenOptions) × WriteOptions found.1 given × (settings ≡ chosen_settings given))
    ⊎ ((found.0 ≡ codes "demo") × (n : ℕ) × WritesNumberIfThere (first_of (codes "parts") found.1) (Some n) × (settings ≡ Demo n))

-- where `run` was found, each option without a value was read
abbrev pub HasFlags : Option (Text × List Row) → Type 0
HasFlags None = Unit {0}
HasFlags (Some found) = found.0 ≡ codes "run" → HaveFlags found.1

-- a word is `--`
abbrev pub has_separator : List Text → Bool
has_separator words = list_any (λ word. bytes_eq word (codes "--")) words
