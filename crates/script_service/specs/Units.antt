-- How the settings have a script run: the demonstration is run with the defaults.
use Rattle.std.specs.Prelude.{ℕ, if◌then◌else◌}
use Rattle.plane_predicate.specs.declared.unit.Unit.{Unit as LengthUnit}
use Rattle.plane_predicate.specs.declared.unit.Unit.TheVariants.{Whole, Half}
use Rattle.run_words.specs.declared.settings.Settings.{Settings}
use Rattle.run_words.specs.declared.settings.Settings.TheVariants.{Run, Demo}

-- the unit of lengths: with `--half` the grid step is half a unit
abbrev pub unit_of : Settings → LengthUnit
unit_of (Run workers memo share half tally) = if half then Half else Whole
unit_of (Demo n) = Whole

-- the budget of the memo
abbrev pub memo_of : Settings → ℕ
memo_of (Run workers memo share half tally) = memo
memo_of (Demo n) = 500000

-- the share of the memo that is reserved for each client
abbrev pub share_of : Settings → ℕ
share_of (Run workers memo share half tally) = share
share_of (Demo n) = 0
