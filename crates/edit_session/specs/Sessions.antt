-- A client's session: its lines of source, and what each command does.
use Rattle.std.specs.Prelude.{ℕ, ◌+◌, ◌-◌, ◌==◌, nat_le, Bool, ◌&&◌, if◌then◌else◌, List, [], ◌++◌, flat_map, length, take, drop, insert, slice_set, is_some, Option, Some, None}
use Rattle.script_reader.specs.declared.script.Command.{Command}
use Rattle.script_reader.specs.declared.script.Command.TheVariants.{Put, Set, Cut, Show, Export, Bad}
use Rattle.plain_text.specs.Separators.{newline}
use Rattle.edit_session.specs.declared.fault.SessionFault.{SessionFault}
use Rattle.edit_session.specs.declared.fault.SessionFault.TheVariants.{NoSuchLine, TooManyLines, TooManyShows, TooManyExports, BadCommand}

-- the lines, how many shows were answered with a text, and how many exports were answered
pub record State : Type 0 where
  pub lines : List (List ℕ)
  pub shows : ℕ
  pub exports : ℕ

-- a session at its beginning: no lines, and nothing answered
abbrev pub start_state : State
start_state = record { lines = []; shows = 0; exports = 0 }

-- the source of a session: its lines, each followed by a newline
abbrev pub source_of : State → List ℕ
source_of s = flat_map (λ line. line ++ newline) s.lines

-- whether a number is between two others, which count
abbrev pub is_between : ℕ → ℕ → ℕ → Bool
is_between low n high = nat_le low n && nat_le n high

-- why a state refuses a command, if it does: the first of its reasons
abbrev pub refusal : State → Command → Option SessionFault
refusal s (Put line text) =
    if is_between 1 line (length s.lines + 1)
    then (if length s.lines == 4096 then Some TooManyLines else None)
    else Some NoSuchLine
refusal s (Set line text) = if is_between 1 line (length s.lines) then None else Some NoSuchLine
refusal s (Cut from upto) =
    if is_between 1 from upto && nat_le upto (length s.lines) then None else Some NoSuchLine
refusal s Show = if s.shows == 16 then Some TooManyShows else None
refusal s Export = if s.exports == 16 then Some TooManyExports else None
refusal s Bad = Some BadCommand

-- the state after a command that is not refused
abbrev pub state_after_accepted : State → Command → State
state_after_accepted s (Put line text) = record s { lines = insert s.lines (line - 1) text }
state_after_accepted s (Set line text) = record s { lines = slice_set s.lines (line - 1) text }
state_after_accepted s (Cut from upto) = record s { lines = take (from - 1) s.lines ++ drop upto s.lines }
state_after_accepted s Show = record s { shows = s.shows + 1 }
state_after_accepted s Export = record s { exports = s.exports + 1 }
state_after_accepted s Bad = s

-- the state after a command: a refused one leaves it as it was
abbrev pub state_after_command : State → Command → State
state_after_command s c = if is_some (refusal s c) then s else state_after_accepted s c
