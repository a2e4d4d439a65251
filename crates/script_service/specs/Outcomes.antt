-- How a text was written, and with which status that ended.
use Rattle.std.specs.Prelude.{◌≡◌, ℕ, ◌<◌, ◌≤◌, List, ◌++◌, length, ◌⊎◌, Option}
use Rattle.std.specs.Io.KnownBytes.{Appends}
use Rattle.outside_io.specs.Counts.{CountRose}
use Rattle.outside_io.specs.Moves.{AppendsProperPrefix}
use Rattle.run_words.specs.declared.settings.Settings.{Settings}
use Rattle.run_words.specs.declared.settings.WordsFault.{WordsFault}
use Rattle.run_words.specs.declared.settings.WordsFault.TheVariants as words
use Rattle.script_reader.specs.FaultLines.{script_fault_line}
use Rattle.script_service.specs.declared.input.InputEnd.{InputEnd}
use Rattle.script_service.specs.declared.input.InputEnd.TheVariants as end
use Rattle.script_service.specs.declared.status.Status.{Status}
use Rattle.script_service.specs.declared.status.Status.TheVariants.{Done, BadWords, BadScript, ReadFault, WriteFault, NoMemory}
use Rattle.script_service.specs.Streams.{StreamChange}
use Rattle.script_service.specs.Serving.{usage_line, IsRun}

-- something of the text was appended, and not the whole
abbrev pub AppendsPart : Option (List ℕ) → Option (List ℕ) → List ℕ → Type 0
AppendsPart old new text =
    (front : List ℕ) × (rest : List ℕ) × (front ++ rest ≡ text)
    × (0 < length front) × (0 < length rest) × Appends old new front

-- the whole text was written, or the sink failed on the way
abbrev pub Writes : Status → StreamChange → List ℕ → Status → Type 0
Writes good sink text status =
    ((status ≡ good) × Appends sink.old sink.new text)
    ⊎ ((status ≡ WriteFault) × CountRose sink.before sink.now × AppendsProperPrefix sink.old sink.new text)

-- the same, or memory ran out before anything was written
abbrev pub WritesTextOrNothing : Status → StreamChange → List ℕ → Status → Type 0
WritesTextOrNothing good sink text status =
    ((status ≡ good) × Appends sink.old sink.new text)
    ⊎ ((status ≡ WriteFault) × CountRose sink.before sink.now × AppendsProperPrefix sink.old sink.new text)
    ⊎ ((status ≡ NoMemory) × sink.same)

-- what is printed for replies was written so; of a run memory may also run out on the way, when something of the text was
-- written, and not the whole
abbrev pub PrintsReplies : Settings → StreamChange → List ℕ → Status → Type 0
PrintsReplies settings sink text status =
    WritesTextOrNothing Done sink text status ⊎ (IsRun settings × (status ≡ NoMemory) × AppendsPart sink.old sink.new text)

-- The count of faults never falls, and it stays where the status is not that of a fault: so a source or a sink that failed is
-- never reported as running out of memory.
pub record HasStatusCause (fault : Status) (before now : ℕ) (status : Status) : Type 0 where
  pub later : before ≤ now
  pub quiet : (status ≡ fault) ⊎ (now ≡ before)

-- the message for words that choose nothing: words outside the grammar are reported without memory
abbrev pub RefusesWords : WordsFault → StreamChange → Status → Type 0
RefusesWords words.BadWords sink status = Writes BadWords sink usage_line status
RefusesWords words.NoMemory sink status = (status ≡ NoMemory) × sink.same

-- the message for an input that is not a script
abbrev pub RefusesInput : InputEnd → StreamChange → Status → Type 0
RefusesInput (end.BadScript fault) sink status = WritesTextOrNothing BadScript sink (script_fault_line fault) status
RefusesInput end.Failed sink status = (status ≡ ReadFault) × sink.same
RefusesInput end.NoMemory sink status = (status ≡ NoMemory) × sink.same
