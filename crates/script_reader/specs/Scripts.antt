-- The script that bytes spell, or their first fault.
use Rattle.std.specs.Prelude.{◌≡◌, ℕ, ◌+◌, ◌<◌, ◌≤◌, Bool, not, ◌||◌, false, if◌then◌else◌, IsTrue, List, [], ◌∷◌, ◌++◌, length, ◌⊎◌}
use Rattle.std.specs.List.{filter}
use Rattle.std.specs.Str.{bytes_eq}
use Rattle.script_reader.specs.declared.script.Command.{Command}
use Rattle.script_reader.specs.declared.script.ClientScript.{ClientScript}
use Rattle.script_reader.specs.declared.script.Script.{Script}
use Rattle.script_reader.specs.declared.script.ScriptFault.{ScriptFault}
use Rattle.script_reader.specs.declared.script.ScriptFault.TheVariants.{TooLarge, TooLong, NoName, TooManyClients, TooManyCommands, NoMemory}
use Rattle.script_reader.specs.Lines.{IsFirstLine, StartsWithLines, AreLines}
use Rattle.script_reader.specs.Spelling.{BeginsWithName, IsCommand}

-- a line of a client
pub record ClientLine : Type 0 where
  pub name : List ℕ
  pub command : Command

-- the commands of a client in order
abbrev pub commands_of : List ℕ → List ClientLine → List Command
commands_of name [] = []
commands_of name (e ∷ es) = if bytes_eq name e.name then e.command ∷ commands_of name es else commands_of name es

-- the clients by first appearance, each with its commands: the first line's client, and then the other clients
abbrev pub clients_of : List ClientLine → List ClientScript
clients_of [] = []
clients_of (e ∷ es) =
    record { name = e.name; commands = e.command ∷ commands_of e.name es }
    ∷ filter (λ client. not (bytes_eq e.name client.name)) (clients_of es)

-- whether a client has this name
abbrev pub has_client : List ℕ → List ClientScript → Bool
has_client name [] = false
has_client name (client ∷ clients) = bytes_eq name client.name || has_client name clients

-- the line is one of a client
abbrev pub IsClientLine : List ℕ → ClientLine → Type 0
IsClientLine line e = (tail : List ℕ) × BeginsWithName line e.name tail × IsCommand tail e.command

-- a line without a fault behind these lines of clients
pub record IsSoundLine (before : List ClientLine) (line : List ℕ) (e : ClientLine) : Type 0 where
  pub short : length line ≤ 1024
  pub entry : IsClientLine line e
  pub clients : IsTrue (has_client e.name (clients_of before)) ⊎ (length (clients_of before) < 16)
  pub commands : length (commands_of e.name before) < 8192

-- the fault of a line with this number behind these lines of clients: the first one that it has
abbrev pub IsLineFault : List ClientLine → List ℕ → ℕ → ScriptFault → Type 0
IsLineFault before line number (TooLong at) = (at ≡ number) × (1024 < length line)
IsLineFault before line number (NoName at) =
    (at ≡ number) × (length line ≤ 1024) × ((name tail : List ℕ) → BeginsWithName line name tail → ⊥)
IsLineFault before line number (TooManyClients at) =
    (at ≡ number) × (length line ≤ 1024)
    × (name : List ℕ) × (tail : List ℕ) × BeginsWithName line name tail
    × (has_client name (clients_of before) ≡ false) × (16 ≤ length (clients_of before))
IsLineFault before line number (TooManyCommands at) =
    (at ≡ number) × (length line ≤ 1024)
    × (name : List ℕ) × (tail : List ℕ) × BeginsWithName line name tail × (8192 ≤ length (commands_of name before))
IsLineFault before line number TooLarge = ⊥
IsLineFault before line number NoMemory = ⊥

-- behind the lines before, these lines without a fault give all of these lines of clients
abbrev pub AreSound : List ClientLine → List (List ℕ) → List ClientLine → Type 0
AreSound before [] all = all ≡ before
AreSound before (line ∷ lines) all = (e : ClientLine) × IsSoundLine before line e × AreSound (before ++ e ∷ []) lines all

-- the bytes are the rest of this script
abbrev pub EndsScript : List ClientLine → List ℕ → Script → Type 0
EndsScript before bytes script =
    (lines : List (List ℕ)) × (all : List ClientLine)
    × AreLines bytes lines × AreSound before lines all × (script ≡ record { clients = clients_of all })

-- the first line with a fault is among the bytes, and this is its fault
abbrev pub HasFirstLineFault : List ClientLine → ℕ → List ℕ → ScriptFault → Type 0
HasFirstLineFault before number bytes fault =
    (lines : List (List ℕ)) × (all : List ClientLine) × (line : List ℕ) × (at : List ℕ) × (rest : List ℕ)
    × StartsWithLines bytes lines at × AreSound before lines all × IsFirstLine at line rest
    × IsLineFault all line (number + length lines + 1) fault

-- the bytes are this script
pub record IsScript (bytes : List ℕ) (script : Script) : Type 0 where
  pub small : length bytes ≤ 1048576
  pub spelled : EndsScript [] bytes script

-- the bytes have this fault, and none before it: they are too many, or else it is the fault of the first line that has one
abbrev pub IsScriptFault : List ℕ → ScriptFault → Type 0
IsScriptFault bytes fault =
    ((fault ≡ TooLarge) × (1048576 < length bytes)) ⊎ ((length bytes ≤ 1048576) × (HasFirstLineFault [] 0 bytes fault))
