-- What a call of the server does with its words, its source and its sink: the table of statuses.
use Rattle.std.specs.Prelude.{◌≡◌, ◌<◌, ℕ, true, false, List, ◌⊎◌, length}
use Rattle.std.specs.Io.KnownBytes.{Appends}
use Rattle.outside_io.specs.Counts.{CountRose}
use Rattle.outside_io.specs.Moves.{ConsumesAtMost, AppendsProperPrefix}
use Rattle.run_words.specs.declared.settings.Settings.{Settings}
use Rattle.run_words.specs.declared.settings.Settings.TheVariants.{Run, Demo}
use Rattle.run_words.specs.declared.settings.WordsFault.{WordsFault}
use Rattle.run_words.specs.Words.{Chooses, AreOutsideGrammar}
use Rattle.subtree_memo.specs.declared.tally.Tally.{Tally}
use Rattle.script_reader.specs.declared.script.ClientScript.{ClientScript}
use Rattle.script_reader.specs.declared.script.Script.{Script}
use Rattle.script_reader.specs.declared.script.ScriptFault.{ScriptFault}
use Rattle.script_reader.specs.Scripts.{IsScript, IsScriptFault}
use Rattle.script_reader.specs.FaultLines.{script_fault_line}
use Rattle.reply_text.specs.declared.reply.Reply.{Reply}
use Rattle.reply_text.specs.Answers.{AllFit}
use Rattle.script_service.specs.declared.status.Status.{Status}
use Rattle.script_service.specs.declared.status.Status.TheVariants.{Done, BadWords, BadScript, ReadFault, WriteFault, NoMemory}
use Rattle.script_service.specs.Streams.{StreamChange, StreamChanges}
use Rattle.script_service.specs.Units.{unit_of}
use Rattle.script_service.specs.Serving.{usage_line, IsRun, IsInput, IsWholeInput, IsReadInLimit, printed_text}
use Rattle.script_service.specs.Statuses.{status_number}
use Rattle.script_service.specs.Outcomes.{AppendsPart, PrintsReplies, HasStatusCause, RefusesWords}
use Rattle.script_server.specs.Meaning.Exports.{AnswersExport}
use Rattle.script_server.specs.Books.{HaveLegalJournal}

-- Where the tally is printed, it and what each client's entries weigh are those of a memo of the settings' budget and share
-- which these clients can have asked.
abbrev pub TellsTally : Settings → List ClientScript → List (List Reply) → Tally → List ℕ → Type 0
TellsTally (Run workers memo share half true) clients replies counts owned =
    HaveLegalJournal (unit_of (Run workers memo share half true)) clients replies memo share counts owned
    × (length owned ≡ length clients)
TellsTally (Run workers memo share half false) clients replies counts owned = Unit {0}
TellsTally (Demo n) clients replies counts owned = Unit {0}

-- what is written for the clients of a script: their replies, which their own commands define, and behind these the tally
-- where it is asked for
abbrev pub IsOutputFor : Settings → List ClientScript → List ℕ → Type 0
IsOutputFor settings clients out =
    (replies : List (List Reply)) × (counts : Tally) × (owned : List ℕ)
    × AllFit (AnswersExport (unit_of settings)) clients replies
    × TellsTally settings clients replies counts owned
    × (out ≡ printed_text settings clients replies counts owned)

-- that was written, or memory ran out before anything was written
abbrev pub WritesOutput : Settings → List ClientScript → StreamChange → Status → Type 0
WritesOutput settings clients sink status =
    ((out : List ℕ) × IsOutputFor settings clients out × PrintsReplies settings sink out status) ⊎ ((status ≡ NoMemory) × sink.same)

-- with the tally, two runs were told the same one, and with a share above 0 the same weights of the clients' entries
abbrev pub TellsAlike : Settings → Tally → Tally → List ℕ → List ℕ → Type 0
TellsAlike (Run workers memo share half true) s t v w = (s ≡ t) × (0 < share → v ≡ w)
TellsAlike (Run workers memo share half false) s t v w = Unit {0}
TellsAlike (Demo n) s t v w = Unit {0}

-- what is written for bytes that are a script
abbrev pub IsOutput : Settings → List ℕ → List ℕ → Type 0
IsOutput settings bytes out = (script : Script) × IsScript bytes script × IsOutputFor settings script.clients out

-- what is written for bytes: the output of a script, or the line of the first fault
abbrev pub IsOutputOrFaultLine : Settings → List ℕ → List ℕ → Type 0
IsOutputOrFaultLine settings bytes out =
    IsOutput settings bytes out ⊎ ((fault : ScriptFault) × IsScriptFault bytes fault × (out ≡ script_fault_line fault))

-- the whole input was served, and its output was appended to the sink
abbrev pub Serves : Settings → StreamChanges → Type 0
Serves settings s =
    (bytes : List ℕ) × (out : List ℕ)
    × IsWholeInput settings s.source bytes × IsOutput settings bytes out × Appends s.sink.old s.sink.new out

-- part of what is to be written was appended, and not the whole
abbrev pub BreaksOff : Settings → StreamChanges → Type 0
BreaksOff settings s =
    (bytes : List ℕ) × (out : List ℕ)
    × IsInput settings s.source bytes × IsOutputOrFaultLine settings bytes out × AppendsProperPrefix s.sink.old s.sink.new out

-- the whole input was read, and something of its output was appended, and not the whole
abbrev pub WritesPartOfOutput : Settings → StreamChanges → Type 0
WritesPartOfOutput settings s =
    (bytes : List ℕ) × (out : List ℕ)
    × IsWholeInput settings s.source bytes × IsOutput settings bytes out × AppendsPart s.sink.old s.sink.new out

-- the input is no script, and its first fault was told
abbrev pub RefusesScript : Settings → StreamChanges → Type 0
RefusesScript settings s =
    (bytes : List ℕ) × (fault : ScriptFault)
    × IsInput settings s.source bytes × IsScriptFault bytes fault × Appends s.sink.old s.sink.new (script_fault_line fault)

-- the words choose these settings and no others
abbrev pub ChoosesAlone : List (List ℕ) → Settings → Type 0
ChoosesAlone words settings = Chooses words settings × ((other : Settings) → Chooses words other → other ≡ settings)

-- What a status tells of the words, the source and the sink.
abbrev pub StatusTells : List (List ℕ) → StreamChanges → Status → Type 0
-- The words choose settings, and what they ask for was served whole.
StatusTells words s Done = (settings : Settings) × ChoosesAlone words settings × Serves settings s
-- The words are outside the grammar, and the usage line was written.
StatusTells words s BadWords = AreOutsideGrammar words × Appends s.sink.old s.sink.new usage_line
-- The script of the source has a fault, and its line was written.
StatusTells words s BadScript = (settings : Settings) × ChoosesAlone words settings × IsRun settings × RefusesScript settings s
-- The source failed, of which no more bytes were read than a script may have, and nothing was written.
StatusTells words s ReadFault =
    (settings : Settings) × ChoosesAlone words settings × IsRun settings × CountRose s.source.before s.source.now
    × ConsumesAtMost s.source.old s.source.new 1048576 × s.sink.same
-- The sink failed, and a prefix of what was to be written was written, and not the whole.
StatusTells words s WriteFault =
    CountRose s.sink.before s.sink.now
    × ((AreOutsideGrammar words × AppendsProperPrefix s.sink.old s.sink.new usage_line)
    ⊎ ((settings : Settings) × ChoosesAlone words settings × BreaksOff settings s))
-- Nothing was written, or something of the output of a script, and not the whole.
StatusTells words s NoMemory =
    s.sink.same ⊎ ((settings : Settings) × ChoosesAlone words settings × IsRun settings × WritesPartOfOutput settings s)

-- A source that failed ends a call as a read fault, and a sink that failed as a write fault: at another status no count of
-- faults rose. So running out of memory is never reported for either.
pub record HaveStatusCauses (s : StreamChanges) (status : Status) : Type 0 where
  pub read : HasStatusCause ReadFault s.source.before s.source.now status
  pub written : HasStatusCause WriteFault s.sink.before s.sink.now status

-- What the number tells with which the program ends: it is that of one status, which tells what it does.
abbrev pub ExitTells : List (List ℕ) → StreamChanges → ℕ → Type 0
ExitTells words s code = (status : Status) × (code ≡ status_number status) × StatusTells words s status × HaveStatusCauses s status

-- The same where there were no words to be read. A sink that failed ends it as a write fault.
abbrev pub ExitRefuses : WordsFault → StreamChange → ℕ → Type 0
ExitRefuses fault sink code =
    (status : Status) × (code ≡ status_number status) × RefusesWords fault sink status
    × HasStatusCause WriteFault sink.before sink.now status

-- the words choose to serve a script
abbrev pub AskForRun : List (List ℕ) → Type 0
AskForRun words = (settings : Settings) × Chooses words settings × IsRun settings

-- the words are outside the grammar, or choose the demonstration: nothing is to be read
abbrev pub AskForNoInput : List (List ℕ) → Type 0
AskForNoInput words = AreOutsideGrammar words ⊎ ((settings : Settings) × Chooses words settings × (IsRun settings → ⊥))

-- Words that ask for no input have nothing read; whatever they ask for, no more bytes are read than a script may have, and
-- those of one read more.
pub record ReadsAsAsked (words : List (List ℕ)) (source : StreamChange) : Type 0 where
  pub unread : AskForNoInput words → source.same
  pub limit : IsReadInLimit source

-- the bytes are some script
abbrev pub IsSomeScript : List ℕ → Type 0
IsSomeScript bytes = (script : Script) × IsScript bytes script

-- the bytes have a first fault
abbrev pub IsNoScript : List ℕ → Type 0
IsNoScript bytes = (fault : ScriptFault) × IsScriptFault bytes fault
