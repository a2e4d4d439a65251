-- What a status tells, from what came of the words, the input and the output.
use Rattle.std.proofs.Common.{◌≡◌, ◌≢◌, true, false, ◌⊎◌, ⊎_elim, inl, inr, ℕ, ◌<◌, ◌≤◌, List, [], ◌∷◌, ◌++◌, length, refl, sym, ap, ◌∙◌, subst, arith, append-nil, length-append}
use Rattle.std.specs.Prelude.{Option, Some, None, IfSome}
use Rattle.std.specs.Io.KnownBytes.{Appends, Consumes, IsAtEnd}
use Rattle.outside_io.specs.Counts.{CountRose}
use Rattle.outside_io.specs.Moves.{AppendsProperPrefix}
use Rattle.csg_tree.specs.HalfSpaceTrees.{Tree}
use Rattle.csg_tree.specs.Numberings.{is_same_tree}
use Rattle.csg_tree.specs.TreeKeys.{name_of}
use Rattle.bsp_tree.specs.declared.Solid.{Solid}
use Rattle.memo_core.specs.Memo.{replay, IsLegal}
use Rattle.memo_core.specs.Views.{MemoView, headers_in}
use Rattle.run_words.specs.declared.settings.Settings.{Settings}
use Rattle.run_words.specs.declared.settings.Settings.TheVariants.{Run, Demo}
use Rattle.run_words.specs.declared.settings.WordsFault.{WordsFault}
use Rattle.run_words.specs.declared.settings.WordsFault.TheVariants as words_fault
use Rattle.run_words.specs.Words.{Chooses, AreSettingsInRange, AreOutsideGrammar}
use Rattle.subtree_memo.specs.declared.tally.Tally.{Tally}
use Rattle.script_reader.specs.declared.script.ClientScript.{ClientScript}
use Rattle.script_reader.specs.declared.script.Script.{Script}
use Rattle.script_reader.specs.declared.script.ScriptFault.{ScriptFault}
use Rattle.script_reader.specs.Scripts.{IsScript, IsScriptFault}
use Rattle.script_reader.specs.FaultLines.{script_fault_line}
use Rattle.reply_text.specs.declared.reply.Reply.{Reply}
use Rattle.script_service.specs.declared.input.InputEnd.{InputEnd}
use Rattle.script_service.specs.declared.input.InputEnd.TheVariants as input_end
use Rattle.script_service.specs.declared.status.Status.{Status}
use Rattle.script_service.specs.declared.status.Status.TheVariants.{Done, BadWords, BadScript, ReadFault, WriteFault, NoMemory}
use Rattle.script_service.specs.Statuses.{status_number}
use Rattle.script_service.specs.Streams.{StreamChange, StreamChanges}
use Rattle.script_service.specs.Units.{unit_of, memo_of, share_of}
use Rattle.script_service.specs.Serving.{usage_line, IsRun, AreTooMany, IsInput, IsWholeInput, GivesScript, LacksScript, printed_text}
use Rattle.script_service.specs.Outcomes.{AppendsPart, WritesTextOrNothing, PrintsReplies, HasStatusCause, RefusesWords, RefusesInput}
use Rattle.std.specs.Prelude.{IsErrOf, Result, Ok, Err, IfOk, IfErr}
use Rattle.flight_memo.specs.Claims.{ClaimsView}
use Rattle.script_server.proofs.Books.{sizes_offered, weights_many}
use Rattle.script_server.specs.Books.{IsRunOf, HaveLegalJournal, weights_of}
use Rattle.script_server.specs.Serving.{TellsTally, IsOutputFor, WritesOutput, IsOutput, ChoosesAlone, StatusTells, HaveStatusCauses, ExitTells, ExitRefuses, AskForRun, AskForNoInput, IsSomeScript, IsNoScript}

-- a status tells what an equal one tells
as_told : (words : List (List ℕ)) (s : StreamChanges) (status other : Status) → status ≡ other → StatusTells words s other → StatusTells words s status
as_told words s status other e h = subst (λ (t : Status). StatusTells words s t) (sym e) h

-- ---- the words choose nothing
pub words_refused : (words : List (List ℕ)) (s : StreamChanges) (fault : WordsFault) (status : Status) → (fault ≡ words_fault.BadWords → AreOutsideGrammar words) → RefusesWords fault s.sink status → StatusTells words s status
words_refused words s words_fault.BadWords status outside (inl (e, whole)) = as_told words s status BadWords e (outside refl, whole)
words_refused words s words_fault.BadWords status outside (inr (e, rose, cut)) = as_told words s status WriteFault e (rose, inl (outside refl, cut))
words_refused words s words_fault.NoMemory status outside (e, same) = as_told words s status NoMemory e (inl same)

-- ---- there is no script
pub input_refused : (words : List (List ℕ)) (settings : Settings) (s : StreamChanges) (end : InputEnd) (status : Status) → ChoosesAlone words settings → LacksScript settings s.source end → RefusesInput end s.sink status → StatusTells words s status
input_refused words settings s (input_end.BadScript fault) status alone (run, bytes, input, is) (inl (e, whole)) =
    as_told words s status BadScript e (settings, alone, run, (bytes, fault, input, is, whole))
input_refused words settings s (input_end.BadScript fault) status alone (run, bytes, input, is) (inr (inl (e, rose, cut))) =
    as_told words s status WriteFault e (rose, inr (settings, alone, (bytes, script_fault_line fault, input, inr (fault, is, refl), cut)))
input_refused words settings s (input_end.BadScript fault) status alone lacks (inr (inr (e, same))) = as_told words s status NoMemory e (inl same)
input_refused words settings s input_end.Failed status alone (run, rose, few) (e, same) = as_told words s status ReadFault e (settings, alone, run, rose, few, same)
input_refused words settings s input_end.NoMemory status alone lacks (e, same) = as_told words s status NoMemory e (inl same)

-- ---- a script was served
part_of_input : (settings : Settings) (source : StreamChange) (bytes : List ℕ) → IsWholeInput settings source bytes → IsInput settings source bytes
part_of_input (Run workers memo share half tally) source bytes (read, end) = (read, inl end)
part_of_input (Demo n) source bytes same = same

pub script_served : (words : List (List ℕ)) (settings : Settings) (s : StreamChanges) (script : Script) (status : Status) → ChoosesAlone words settings → GivesScript settings s.source script
    → WritesOutput settings script.clients s.sink status → StatusTells words s status
script_served words settings s script status alone (bytes, input, is) (inl (out, fits, inl (inl (e, whole)))) =
    as_told words s status Done e (settings, alone, (bytes, out, input, (script, is, fits), whole))
script_served words settings s script status alone (bytes, input, is) (inl (out, fits, inl (inr (inl (e, rose, cut))))) =
    as_told words s status WriteFault e (rose, inr (settings, alone, (bytes, out, part_of_input settings s.source bytes input, inl (script, is, fits), cut)))
script_served words settings s script status alone gives (inl (out, fits, inl (inr (inr (e, same))))) = as_told words s status NoMemory e (inl same)
script_served words settings s script status alone (bytes, input, is) (inl (out, fits, inr (run, e, part))) =
    as_told words s status NoMemory e (inr (settings, alone, run, (bytes, out, input, (script, is, fits), part)))
script_served words settings s script status alone gives (inr (e, same)) = as_told words s status NoMemory e (inl same)

-- ---- what is written for a run
told_tally : (settings : Settings) (clients : List ClientScript) (replies : List (List Reply)) (tally : Tally) (owned : List ℕ)
    → HaveLegalJournal (unit_of settings) clients replies (memo_of settings) (share_of settings) tally owned
    → length owned ≡ length clients → TellsTally settings clients replies tally owned
told_tally (Run workers memo share half true) clients replies tally owned legal many = (legal, many)
told_tally (Run workers memo share half false) clients replies tally owned legal many = tt
told_tally (Demo n) clients replies tally owned legal many = tt

pub output_of_run : (settings : Settings) (clients : List ClientScript) (replies : List (List Reply)) (tally : Tally) (core : MemoView Tree Solid) (closed : ClaimsView Tree) (owned : List ℕ) (callers : ℕ) →
    IsRunOf (unit_of settings) clients (memo_of settings) (share_of settings) name_of replies tally core closed → owned ≡ weights_of callers (headers_in core.entries) → length owned ≡ callers → callers ≡ length clients →
    IsOutputFor settings clients (printed_text settings clients replies tally owned)
output_of_run settings clients replies tally core closed owned callers ran weights many same =
    let limits = ran.limits in
    let sound = ran.sound in
    let legal = subst (λ b. IsLegal is_same_tree name_of b (share_of settings) [] core.journal) limits.0 (subst (λ sh. IsLegal is_same_tree name_of core.budget sh [] core.journal) limits.1 sound.legal) in
    let replayed = sound.replayed ∙ ap (λ sh. replay is_same_tree name_of core.budget sh [] core.journal) limits.1 ∙ ap (λ b. replay is_same_tree name_of b (share_of settings) [] core.journal) limits.0 in (
      replies,
      tally,
      owned,
      ran.fits,
      told_tally settings clients replies tally owned (
        core.journal,
        legal,
        ran.counted,
        weights ∙ ap (λ n. weights_of n (headers_in core.entries)) (sym many) ∙ ap (λ ms. weights_of (length owned) ms) replayed,
        ran.sums,
        ran.keys,
        ran.offered,
        sizes_offered core.journal sound.offers,
      ) (many ∙ same),
      refl,
    )

-- what is written for a run whose weights are printed where they are asked for
pub run_written : (settings : Settings) (clients : List ClientScript) (replies : List (List Reply)) (tally : Tally) (core : MemoView Tree Solid) (closed : ClaimsView Tree) (callers : ℕ) (sink : StreamChange) (status : Status) →
    IsRunOf (unit_of settings) clients (memo_of settings) (share_of settings) name_of replies tally core closed → callers ≡ length clients →
    PrintsReplies settings sink (printed_text settings clients replies tally (weights_of callers (headers_in core.entries))) status → WritesOutput settings clients sink status
run_written settings clients replies tally core closed callers sink status ran same prints =
    let weights = weights_of callers (headers_in core.entries) in
    inl (printed_text settings clients replies tally weights, output_of_run settings clients replies tally core closed weights callers ran refl (weights_many callers (headers_in core.entries)) same, prints)

-- ---- what counts of faults say
-- why there is no script is told as what it is
pub input_caused : {T : Type 0} (before now : ℕ) (end : InputEnd) (sink : StreamChange) (status : Status) → IsErrOf {T = T} (Err end) input_end.Failed ⊎ (now ≡ before) → RefusesInput end sink status →
    (status ≡ ReadFault) ⊎ (now ≡ before)
input_caused before now (input_end.BadScript fault) sink status (inl e) refuses = absurd (cc e)
input_caused before now (input_end.BadScript fault) sink status (inr same) refuses = inr same
input_caused before now input_end.Failed sink status quiet (e, same) = inl e
input_caused before now input_end.NoMemory sink status (inl e) refuses = absurd (cc e)
input_caused before now input_end.NoMemory sink status (inr same) refuses = inr same

-- ---- what a status says of words that choose settings
pub in_range : (words : List (List ℕ)) (settings : Settings) → Chooses words settings → AreSettingsInRange settings
in_range [] settings chosen = absurd chosen
in_range (first ∷ rest) settings chosen = chosen.0

pub completes : (words : List (List ℕ)) (s : StreamChanges) (status : Status) → StatusTells words s status → (settings : Settings) → Chooses words settings
    → (CountRose s.source.before s.source.now → ⊥) → (CountRose s.sink.before s.sink.now → ⊥) → (status ≡ Done) ⊎ (status ≡ BadScript) ⊎ (status ≡ NoMemory)
completes words s Done told settings chosen read write = inl refl
completes words s BadWords told settings chosen read write = absurd (told.0 settings chosen)
completes words s BadScript told settings chosen read write = inr (inl refl)
completes words s ReadFault (other, alone, run, rose, few, same) settings chosen read write = absurd (read rose)
completes words s WriteFault told settings chosen read write = absurd (write told.0)
completes words s NoMemory told settings chosen read write = inr (inr refl)

pub reads_nothing : (words : List (List ℕ)) (settings : Settings) (P : Type 0) → ChoosesAlone words settings → ((IsRun settings → ⊥) → P) → AskForNoInput words → P
reads_nothing words settings P alone unread (inl outside) = absurd (outside settings alone.0)
reads_nothing words settings P alone unread (inr (other, chosen, none)) = unread (λ run. none (subst IsRun (sym (alone.1 other chosen)) run))

-- ---- bytes that a source told
-- no bytes are a script and have a fault
abbrev pub NeverBoth : Type 0
NeverBoth = (bytes : List ℕ) (script : Script) (fault : ScriptFault) → IsScript bytes script → IsScriptFault bytes fault → ⊥

all_read : (bytes more front : List ℕ) → bytes ≡ front ++ more → more ≡ [] → bytes ≡ front
all_read bytes more front e none = e ∙ ap (λ (l : List ℕ). front ++ l) none ∙ append-nil front

-- bytes of which a front with a fault was read are no script
no_script_left : NeverBoth → (left left' : Option (List ℕ)) (front : List ℕ) (fault : ScriptFault) → Consumes left left' front → IsAtEnd left' ⊎ AreTooMany front
    → IsScriptFault front fault → IfSome left (λ bytes. IsSomeScript bytes → ⊥)
no_script_left never None left' front fault read end is = tt
no_script_left never (Some all) None front fault read end is = absurd read
no_script_left never (Some all) (Some more) front fault read (inl end) is =
    λ script. never front script.0 fault (subst (λ (l : List ℕ). IsScript l script.0) (all_read all more front read end) script.1) is
no_script_left never (Some all) (Some more) front fault read (inr long) is =
    λ script. (let small = script.1.small in let large = long.large in absurd (omega (arith, large, ap length read, length-append front more)))

-- bytes that were read to their end as a script have no fault
script_left : NeverBoth → (left left' : Option (List ℕ)) (front : List ℕ) (script : Script) → Consumes left left' front → IsAtEnd left' → IsScript front script
    → IfSome left (λ bytes. IsNoScript bytes → ⊥)
script_left never None left' front script read end is = tt
script_left never (Some all) None front script read end is = absurd read
script_left never (Some all) (Some more) front script read end is =
    λ none. never front script none.0 is (subst (λ (l : List ℕ). IsScriptFault l none.0) (all_read all more front read end) none.1)

input_of_run : (settings : Settings) (source : StreamChange) (bytes : List ℕ) → IsRun settings → IsInput settings source bytes → Consumes source.old source.new bytes × (IsAtEnd source.new ⊎ AreTooMany bytes)
input_of_run (Run workers memo share half tally) source bytes run h = h
input_of_run (Demo n) source bytes run h = absurd run

whole_input_of_run : (settings : Settings) (source : StreamChange) (bytes : List ℕ) → IsRun settings → IsWholeInput settings source bytes → Consumes source.old source.new bytes × IsAtEnd source.new
whole_input_of_run (Run workers memo share half tally) source bytes run h = h
whole_input_of_run (Demo n) source bytes run h = absurd run

refuses_no_script : NeverBoth → (words : List (List ℕ)) (s : StreamChanges) → StatusTells words s BadScript → IfSome s.source.old (λ bytes. IsSomeScript bytes → ⊥)
refuses_no_script never words s (settings, alone, run, (bytes, fault, input, is, told)) =
    let read = input_of_run settings s.source bytes run input in
    no_script_left never s.source.old s.source.new bytes fault read.0 read.1 is

serves_a_script : NeverBoth → (words : List (List ℕ)) (s : StreamChanges) → AskForRun words → StatusTells words s Done → IfSome s.source.old (λ bytes. IsNoScript bytes → ⊥)
serves_a_script never words s (other, chosen, run) (settings, alone, (bytes, out, input, (script, is, fits), told)) =
    let read = whole_input_of_run settings s.source bytes (subst IsRun (alone.1 other chosen) run) input in
    script_left never s.source.old s.source.new bytes script read.0 read.1 is

unless : (left : Option (List ℕ)) (P : List ℕ → Type 0) (Q : Type 0) → (Q → IfSome left (λ bytes. P bytes → ⊥)) → IfSome left (λ bytes. P bytes → Q → ⊥)
unless None P Q h = tt
unless (Some bytes) P Q h = λ p q. h q p

pub script_kept : NeverBoth → (words : List (List ℕ)) (s : StreamChanges) (status : Status) → StatusTells words s status → IfSome s.source.old (λ bytes. IsSomeScript bytes → status ≢ BadScript)
script_kept never words s status told =
    unless s.source.old IsSomeScript (status ≡ BadScript) (λ e. refuses_no_script never words s (subst (λ (t : Status). StatusTells words s t) e told))

pub fault_told : NeverBoth → (words : List (List ℕ)) (s : StreamChanges) (status : Status) → StatusTells words s status → AskForRun words → IfSome s.source.old (λ bytes. IsNoScript bytes → status ≢ Done)
fault_told never words s status told run =
    unless s.source.old IsNoScript (status ≡ Done) (λ e. serves_a_script never words s run (subst (λ (t : Status). StatusTells words s t) e told))

-- ---- a failed source and a failed sink
-- what counts of faults say where nothing was read
pub caused_unread : (s : StreamChanges) (status : Status) → s.source.now ≡ s.source.before → HasStatusCause WriteFault s.sink.before s.sink.now status → HaveStatusCauses s status
caused_unread s status same written = record { read = record { later = omega (arith, same); quiet = inr same }; written = written }

-- where nothing was written
pub caused_unwritten : (s : StreamChanges) (status : Status) → HasStatusCause ReadFault s.source.before s.source.now status → s.sink.now ≡ s.sink.before → HaveStatusCauses s status
caused_unwritten s status read same = record { read = read; written = record { later = omega (arith, same); quiet = inr same } }

pub caused : (s : StreamChanges) (status : Status) → HasStatusCause ReadFault s.source.before s.source.now status → HasStatusCause WriteFault s.sink.before s.sink.now status → HaveStatusCauses s status
caused s status read written = record { read = read; written = written }

-- an input that was read
pub read_caused : {T : Type 0} (before now : ℕ) (script : T) (status : Status) → before ≤ now → IsErrOf (Ok script) input_end.Failed ⊎ (now ≡ before) → HasStatusCause ReadFault before now status
read_caused before now script status later (inl never) = absurd (cc never)
read_caused before now script status later (inr same) = record { later = later; quiet = inr same }

-- ---- the number with which the program ends
pub exit_told : {A E : Type 0} (r : Result A E) (words : A → List (List ℕ)) (s : StreamChanges) (status : Status) (code : ℕ) → code ≡ status_number status →
    IfOk r (λ w. StatusTells (words w) s status) → IfOk r (λ w. HaveStatusCauses s status) → IfOk r (λ w. ExitTells (words w) s code)
exit_told (Ok w) words s status code e told causes = (status, e, told, causes)
exit_told (Err fault) words s status code e told causes = tt

pub exit_refused : {A : Type 0} (r : Result A WordsFault) (sink : StreamChange) (status : Status) (code : ℕ) → code ≡ status_number status →
    IfErr r (λ fault. RefusesWords fault sink status) → IfErr r (λ fault. HasStatusCause WriteFault sink.before sink.now status) → IfErr r (λ fault. ExitRefuses fault sink code)
exit_refused (Ok w) sink status code e told cause = tt
exit_refused (Err fault) sink status code e told cause = (status, e, told, cause)
