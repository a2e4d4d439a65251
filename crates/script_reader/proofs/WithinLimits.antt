-- The clients of a script stay within the limits.
use Rattle.std.proofs.Common.{◌≡◌, ◌≢◌, ◌⊎◌, ⊎_elim, ℕ, ◌<◌, List, [], ◌∷◌, ◌++◌, length, get_or, set, sym, ap, subst, arith, length-append, length-set, codes}
use Rattle.std.specs.Prelude.{All}
use Rattle.std.proofs.lemmas.Bool.{cases_lt}
use Rattle.std.proofs.lemmas.List.{length_push}
use Rattle.std.proofs.lemmas.List.Elements.{All-head, All-tail, All-same, All-nil, All-cons, All-push, All-set, All-get_or}
use Rattle.script_reader.specs.declared.script.Command.{Command}
use Rattle.script_reader.specs.declared.script.Command.TheVariants.{Put, Set, Cut, Show, Export, Bad}
use Rattle.script_reader.specs.declared.script.ClientScript.{ClientScript}
use Rattle.script_reader.specs.Lines.{IsFirstLine}
use Rattle.script_reader.specs.Spelling.{IsTail, IsEditWords, IsKnownCommand}
use Rattle.script_reader.specs.Scripts.{ClientLine, IsClientLine}
use Rattle.script_reader.specs.Limits.{IsText, HasText, IsClientWithin, AreClientsWithin}
use Rattle.script_reader.specs.Reading.{with_command, with_client_line, place_in, commands_in, AddsLine}
use Rattle.script_reader.proofs.Places.{known_entry, new_entry, known_commands}
use Rattle.plain_text.specs.Separators.{space}

behind_plain : (a b : List ℕ) → All (λ c. c ≢ 10) (a ++ b) → All (λ c. c ≢ 10) b
behind_plain [] b h = h
behind_plain (x ∷ a) b h = behind_plain a b (All-tail (λ c. c ≢ 10) x (a ++ b) h)

before_plain : (a b : List ℕ) → All (λ c. c ≢ 10) (a ++ b) → All (λ c. c ≢ 10) a
before_plain [] b h = All-nil (λ c. c ≢ 10)
before_plain (x ∷ a) b h = All-cons (λ c. c ≢ 10) x a (All-head (λ c. c ≢ 10) x (a ++ b) h) (before_plain a b (All-tail (λ c. c ≢ 10) x (a ++ b) h))

-- what stands at the end of a text is one
end_text : (bytes front text : List ℕ) → bytes ≡ front ++ text → IsText bytes → IsText text
end_text bytes front text e h = record {
  short = omega (arith, h.short, ap length e, length-append front text);
  plain = behind_plain front text (All-same (λ c. c ≢ 10) (front ++ text) bytes (sym e) h.plain);
}

no_text : IsText []
no_text = record { short = omega arith; plain = All-nil (λ c. c ≢ 10) }

tail_text : (tail text : List ℕ) → IsTail tail text → IsText tail → IsText text
tail_text tail text t h = ⊎_elim (λ a. end_text tail space text a h) (λ a. subst IsText (sym a.1) no_text) t

edit_text : (word words text : List ℕ) (line : ℕ) → IsEditWords word words line text → IsText words → IsText text
edit_text word words text line k h = tail_text k.1 text k.4 (end_text words (word ++ k.0) k.1 k.2 h)

known_text : (words : List ℕ) (c : Command) → IsKnownCommand words c → IsText words → HasText c
known_text words (Put line text) k h = edit_text (codes "put ") words text line k h
known_text words (Set line text) k h = edit_text (codes "set ") words text line k h
known_text words (Cut from upto) k h = tt
known_text words Show k h = tt
known_text words Export k h = tt
known_text words Bad k h = tt

entry_text : (line : List ℕ) (e : ClientLine) → IsClientLine line e → IsText line → HasText e.command
entry_text line e k h =
    let tail : IsText k.0 = end_text line e.name k.0 k.1.spelled h in
    ⊎_elim
    (λ a. known_text a.0 e.command a.2 (end_text k.0 space a.0 a.1 tail))
    (λ a. subst HasText (sym a.0) tt)
    k.2

first_plain : (bytes line rest : List ℕ) → IsFirstLine bytes line rest → All (λ c. c ≢ 10) line
first_plain bytes line rest h =
    ⊎_elim
    (λ a. before_plain line (13 ∷ []) (All-same (λ c. c ≢ 10) (line ++ 13 ∷ []) h.raw (sym a) h.plain))
    (λ a. All-same (λ c. c ≢ 10) line h.raw (sym a.0) h.plain)
    h.trimmed

more_commands : (client : ClientScript) (command : Command) → IsClientWithin client → length client.commands < 8192 → HasText command → IsClientWithin (with_command client command)
more_commands client command h few text = record {
  few = omega (arith, few, length_push client.commands command);
  texts = All-push HasText client.commands command h.texts text;
}

some_client : ClientScript
some_client = record { name = []; commands = [] }

one_line : (name : List ℕ) (command : Command) → HasText command → IsClientWithin (record { name = name; commands = command ∷ [] })
one_line name command text = record { few = omega arith; texts = All-cons HasText command [] text (All-nil HasText) }

entry_within : (old : List ClientScript) (e : ClientLine) → AreClientsWithin old → (place_in e.name old < length old) ⊎ (length old < 16) → length (commands_in e.name old) < 8192 → HasText e.command → AreClientsWithin (with_client_line old e)
entry_within old e h place count text =
    ⊎_elim
    (λ known. (let at : ℕ = place_in e.name old in
    let client : ClientScript = get_or old at some_client in
    let few : length client.commands < 8192 = omega (arith, count, ap length (known_commands old e.name some_client known)) in
    let within : AreClientsWithin (set old at (with_command client e.command)) = record {
      few = omega (arith, h.few, length-set old at (with_command client e.command));
      each = All-set IsClientWithin old at (with_command client e.command) (more_commands client e.command (All-get_or IsClientWithin old at some_client known h.each) few text) h.each;
    } in
    subst AreClientsWithin (sym (known_entry old e some_client known)) within))
    (λ past. (let client : ClientScript = record { name = e.name; commands = e.command ∷ [] } in
    let few : length old < 16 = ⊎_elim (λ known. absurd (omega (arith, known, past))) (λ room. room) place in
    let within : AreClientsWithin (old ++ client ∷ []) = record {
      few = omega (arith, few, length_push old client);
      each = All-push IsClientWithin old client h.each (one_line e.name e.command text);
    } in
    subst AreClientsWithin (sym (new_entry old e past)) within))
    (cases_lt (place_in e.name old) (length old))

-- a line that adds to clients within the limits leaves them there
pub within_more : (bytes line rest : List ℕ) (old new : List ClientScript) → IsFirstLine bytes line rest → AddsLine old line new → AreClientsWithin old → AreClientsWithin new
within_more bytes line rest old new first h within =
    subst AreClientsWithin (sym h.4)
    (entry_within old h.0 within h.3.place h.3.count (entry_text line h.0 h.2 (record { short = h.1; plain = first_plain bytes line rest first })))

pub within_none : AreClientsWithin []
within_none = record { few = omega arith; each = All-nil IsClientWithin }
