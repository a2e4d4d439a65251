-- The parts of a line, as they are cut.
use Rattle.std.specs.Prelude.{◌≡◌, ◌≢◌, ℕ, ◌<◌, ◌≤◌, List, [], ◌∷◌, ◌++◌, length, slice_index_or, slice_set, All, ◌⊎◌, if◌then◌else◌, codes}
use Rattle.std.specs.List.{position_or_len}
use Rattle.std.specs.Str.{bytes_eq}
use Rattle.script_reader.specs.declared.script.ScriptFault.{ScriptFault}
use Rattle.script_reader.specs.declared.script.ScriptFault.TheVariants.{TooLarge, TooLong, NoName, TooManyClients, TooManyCommands, NoMemory}
use Rattle.script_reader.specs.declared.script.Command.{Command}
use Rattle.script_reader.specs.declared.script.Command.TheVariants.{Put, Set, Cut, Show, Export, Bad}
use Rattle.script_reader.specs.declared.script.ClientScript.{ClientScript}
use Rattle.plain_text.specs.Separators.{space}
use Rattle.script_reader.specs.Spelling.{IsTail, IsKnownCommand, BeginsWithName}
use Rattle.script_reader.specs.Scripts.{ClientLine, IsClientLine}
use Rattle.plain_text.specs.Decimals.{IsNumeralOf}

-- the bytes are cut before their first space, or at their end where they have none
pub record IsCutAtSpace (bytes front tail : List ℕ) : Type 0 where
  pub spelled : bytes ≡ front ++ tail
  pub plain : All (λ b. b ≢ 32) front
  pub ended : (tail ≡ []) ⊎ ((words : List ℕ) × (tail ≡ space ++ words))

-- a number and a text
abbrev pub IsEditOf : List ℕ → ℕ → List ℕ → Type 0
IsEditOf bytes line text = (digits : List ℕ) × (tail : List ℕ) × (bytes ≡ digits ++ tail) × IsNumeralOf digits line × IsTail tail text

-- two numbers
abbrev pub IsRange : List ℕ → ℕ → ℕ → Type 0
IsRange bytes from upto = (digits : List ℕ) × (digits' : List ℕ) × (bytes ≡ digits ++ space ++ digits') × IsNumeralOf digits from × IsNumeralOf digits' upto

abbrev pub IsPutOrBad : List ℕ → Command → Type 0
IsPutOrBad bytes command =
    ((line : ℕ) × (text : List ℕ) × IsEditOf bytes line text × (command ≡ Put line text))
    ⊎ (((line : ℕ) (text : List ℕ) → IsEditOf bytes line text → ⊥) × (command ≡ Bad))

abbrev pub IsSetOrBad : List ℕ → Command → Type 0
IsSetOrBad bytes command =
    ((line : ℕ) × (text : List ℕ) × IsEditOf bytes line text × (command ≡ Set line text))
    ⊎ (((line : ℕ) (text : List ℕ) → IsEditOf bytes line text → ⊥) × (command ≡ Bad))

abbrev pub IsCutOrBad : List ℕ → Command → Type 0
IsCutOrBad bytes command =
    ((from : ℕ) × (upto : ℕ) × IsRange bytes from upto × (command ≡ Cut from upto))
    ⊎ (((from upto : ℕ) → IsRange bytes from upto → ⊥) × (command ≡ Bad))

abbrev pub IsWordOrBad : List ℕ → Command → Type 0
IsWordOrBad words command =
    ((words ≡ codes "show") × (command ≡ Show))
    ⊎ ((words ≡ codes "export") × (command ≡ Export))
    ⊎ ((words ≢ codes "show") × (words ≢ codes "export") × (command ≡ Bad))

-- one of the commands, or a bad one where it is none of them
abbrev pub IsKnownOrBad : List ℕ → Command → Type 0
IsKnownOrBad words command = IsKnownCommand words command ⊎ ((command ≡ Bad) × ((known : Command) → IsKnownCommand words known → ⊥))

-- a client with one command more
abbrev pub with_command : ClientScript → Command → ClientScript
with_command client command = record client { commands = client.commands ++ command ∷ [] }

-- the clients once one more line was read
abbrev pub with_client_line : List ClientScript → ClientLine → List ClientScript
with_client_line [] e = record { name = e.name; commands = e.command ∷ [] } ∷ []
with_client_line (client ∷ clients) e =
    if bytes_eq e.name client.name then with_command client e.command ∷ clients else client ∷ with_client_line clients e

-- the place of the client with this name, or how many there are
abbrev pub place_in : List ℕ → List ClientScript → ℕ
place_in name clients = position_or_len (λ client. bytes_eq name client.name) clients

-- the commands of the client with this name, if there is one
abbrev pub commands_in : List ℕ → List ClientScript → List Command
commands_in name [] = []
commands_in name (client ∷ clients) = if bytes_eq name client.name then client.commands else commands_in name clients

-- where the next line of a client with this name has room
pub record HasRoomForLine (name : List ℕ) (clients : List ClientScript) : Type 0 where
  pub place : (place_in name clients < length clients) ⊎ (length clients < 16)
  pub count : length (commands_in name clients) < 8192

-- the fault of a line behind these clients
abbrev pub IsFaultAfter : List ClientScript → List ℕ → ℕ → ScriptFault → Type 0
IsFaultAfter clients line number (TooLong at) = (at ≡ number) × (1024 < length line)
IsFaultAfter clients line number (NoName at) =
    (at ≡ number) × (length line ≤ 1024) × ((name tail : List ℕ) → BeginsWithName line name tail → ⊥)
IsFaultAfter clients line number (TooManyClients at) =
    (at ≡ number) × (length line ≤ 1024)
    × (name : List ℕ) × (tail : List ℕ) × BeginsWithName line name tail
    × (length clients ≤ place_in name clients) × (16 ≤ length clients)
IsFaultAfter clients line number (TooManyCommands at) =
    (at ≡ number) × (length line ≤ 1024)
    × (name : List ℕ) × (tail : List ℕ) × BeginsWithName line name tail × (8192 ≤ length (commands_in name clients))
IsFaultAfter clients line number TooLarge = ⊥
IsFaultAfter clients line number NoMemory = Unit {0}

-- a line without a fault was read, and its client has one command more
abbrev pub AddsLine : List ClientScript → List ℕ → List ClientScript → Type 0
AddsLine old line new =
    (e : ClientLine) × (length line ≤ 1024) × IsClientLine line e × HasRoomForLine e.name old × (new ≡ with_client_line old e)

-- the client at this place has one command more
abbrev pub AddsCommandAtPlace : List ClientScript → ℕ → Command → List ClientScript → Type 0
AddsCommandAtPlace old at command new = (client : ClientScript) × (client ≡ slice_index_or old at client) × (new ≡ slice_set old at (with_command client command))
