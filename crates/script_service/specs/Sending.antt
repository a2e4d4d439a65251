-- How far a text was written to a sink.
use Rattle.std.specs.Prelude.{◌≡◌, ℕ, ◌<◌, ◌≤◌, ◌⊎◌, List, ◌++◌, length, IsErrOf, Option, Result}
use Rattle.std.specs.Io.KnownBytes.{Appends}
use Rattle.outside_io.specs.Counts.{CountRose}
use Rattle.outside_io.specs.Moves.{AppendsProperPrefix}
use Rattle.script_service.specs.declared.output.OutputEnd.{OutputEnd}
use Rattle.script_service.specs.declared.output.OutputEnd.TheVariants.{Failed, NoMemory}

-- of a sink that tells what it holds by `held`
module _ {K : Type 0} (held : K → Option (List ℕ)) where
  -- a front of the text was appended, and this is left of it; where that front has no bytes, the sink is as it was
  abbrev pub Sends : K → K → List ℕ → List ℕ → Type 0
  Sends old new left text =
      (front : List ℕ) × (front ++ left ≡ text) × Appends (held old) (held new) front
      × ((new ≡ old) ⊎ (0 < length front))

  -- a prefix of the text was appended, and not the whole: after memory ran out the sink is as it was where the prefix
  -- has no bytes
  abbrev pub IsCutOff : K → K → List ℕ → OutputEnd → Type 0
  IsCutOff old new text Failed = AppendsProperPrefix (held old) (held new) text
  IsCutOff old new text NoMemory = (left : List ℕ) × (0 < length left) × Sends old new left text

-- the count of faults rose where the sink failed, and else it is as before
pub record HasOutputCause {T : Type 0} (before now : ℕ) (result : Result T OutputEnd) : Type 0 where
  pub later : before ≤ now
  pub failed : IsErrOf result Failed → CountRose before now
  pub quiet : IsErrOf result Failed ⊎ (now ≡ before)
