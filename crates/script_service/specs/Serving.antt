-- What is read of a source, and what is written for it. Of a source that doesn't tell its bytes, and of a sink that doesn't,
-- `Consumes`, `IsAtEnd` and `Appends` say nothing.
use Rattle.std.specs.Prelude.{◌≡◌, ℕ, ◌+◌, ◌<◌, ◌≤◌, true, List, ◌++◌, length, codes, ◌⊎◌, Result, IsErrOf}
use Rattle.std.specs.Io.KnownBytes.{Appends, Consumes, IsAtEnd}
use Rattle.outside_io.specs.Counts.{CountRose}
use Rattle.outside_io.specs.Moves.{ConsumesAtMost}
use Rattle.run_words.specs.declared.settings.Settings.{Settings}
use Rattle.run_words.specs.declared.settings.Settings.TheVariants.{Run, Demo}
use Rattle.subtree_memo.specs.declared.tally.Tally.{Tally}
use Rattle.big_input.specs.DemoScript.{demo_script}
use Rattle.script_reader.specs.declared.script.ClientScript.{ClientScript}
use Rattle.script_reader.specs.declared.script.Script.{Script}
use Rattle.script_reader.specs.declared.script.ScriptFault.{ScriptFault}
use Rattle.plain_text.specs.Separators.{newline}
use Rattle.script_reader.specs.Scripts.{IsScript, IsScriptFault}
use Rattle.reply_text.specs.declared.reply.Reply.{Reply}
use Rattle.reply_text.specs.Texts.{output}
use Rattle.script_service.specs.declared.input.InputEnd.{InputEnd}
use Rattle.script_service.specs.declared.input.InputEnd.TheVariants as end
use Rattle.script_service.specs.Streams.{StreamChange}
use Rattle.script_service.specs.Endings.{ending}
use Rattle.script_service.specs.Demos.{demo_text}

-- how the program is called
abbrev pub usage_line : List ℕ
usage_line = codes "usage: scadserve run [--workers N] [--memo W] [--share S] [--half] [--tally] | demo N" ++ newline

-- a script is to be served, and not the demonstration
abbrev pub IsRun : Settings → Type 0
IsRun (Run workers memo share half tally) = Unit {0}
IsRun (Demo n) = ⊥

-- more bytes than a script may have, by at most the 4,096 of one read
pub record AreTooMany (bytes : List ℕ) : Type 0 where
  pub large : 1048576 < length bytes
  pub near : length bytes ≤ 1048576 + 4096

-- the bytes are what is served: of a run those that were read from the source, all of them or more than a script may have;
-- of the demonstration its script
abbrev pub IsInput : Settings → StreamChange → List ℕ → Type 0
IsInput (Run workers memo share half tally) source bytes =
    Consumes source.old source.new bytes × (IsAtEnd source.new ⊎ AreTooMany bytes)
IsInput (Demo n) source bytes = bytes ≡ demo_script n

-- the same, and the source of a run was read to its end
abbrev pub IsWholeInput : Settings → StreamChange → List ℕ → Type 0
IsWholeInput (Run workers memo share half tally) source bytes = Consumes source.old source.new bytes × IsAtEnd source.new
IsWholeInput (Demo n) source bytes = bytes ≡ demo_script n

-- bytes are no script: they have a first fault, unless memory ran out
abbrev pub AreNoScript : List ℕ → InputEnd → Type 0
AreNoScript bytes (end.BadScript fault) = IsScriptFault bytes fault
AreNoScript bytes end.Failed = ⊥
AreNoScript bytes end.NoMemory = Unit {0}

-- the whole input is this script
abbrev pub GivesScript : Settings → StreamChange → Script → Type 0
GivesScript settings source script = (bytes : List ℕ) × IsWholeInput settings source bytes × IsScript bytes script

-- why there is no script: the input has a first fault, or the source failed before more than a script's most bytes were read,
-- or memory ran out. The demonstration's script has no fault and reads no source
abbrev pub LacksScript : Settings → StreamChange → InputEnd → Type 0
LacksScript settings source (end.BadScript fault) =
    IsRun settings × (bytes : List ℕ) × IsInput settings source bytes × IsScriptFault bytes fault
LacksScript settings source end.Failed = IsRun settings × CountRose source.before source.now × ConsumesAtMost source.old source.new 1048576
LacksScript settings source end.NoMemory = Unit {0}

-- no more bytes were read of a source than a script may have, and those of one read more
abbrev pub IsReadInLimit : StreamChange → Type 0
IsReadInLimit source = ConsumesAtMost source.old source.new (1048576 + 4096)

-- the count of a source's faults did not fall, and it is as before where the source is not told to have failed
pub record HasInputCause {T : Type 0} (before now : ℕ) (result : Result T InputEnd) : Type 0 where
  pub later : before ≤ now
  pub quiet : IsErrOf result end.Failed ⊎ (now ≡ before)

-- what each client's entries weigh is printed: with the tally, and a share above 0
abbrev pub PrintsWeights : Settings → Type 0
PrintsWeights (Run workers memo share half tally) = (tally ≡ true) × (0 < share)
PrintsWeights (Demo n) = ⊥

-- what is written for a script whose clients are given these replies, over a memo with this tally and these weights of
-- the clients' entries
abbrev pub printed_text : Settings → List ClientScript → List (List Reply) → Tally → List ℕ → List ℕ
printed_text (Run workers memo share half tally) clients replies counts owned =
    output clients replies ++ ending tally share clients counts owned
printed_text (Demo n) clients replies counts owned = demo_text clients replies
