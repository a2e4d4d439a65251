-- What a call of a session answers and leaves.
use Rattle.std.specs.Prelude.{◌≡◌, ◌≢◌, ℕ, ◌⊎◌, length, Some, None}
use Rattle.script_reader.specs.declared.script.Command.{Command}
use Rattle.script_reader.specs.declared.script.Command.TheVariants.{Put, Set, Cut, Show, Export}
use Rattle.edit_session.specs.declared.fault.SessionFault.{SessionFault}
use Rattle.edit_session.specs.declared.fault.SessionFault.TheVariants.{NoMemory}
use Rattle.edit_session.specs.declared.fault.Asked.{Asked}
use Rattle.edit_session.specs.declared.fault.Asked.TheVariants as asked
use Rattle.edit_session.specs.Sessions.{State, refusal, state_after_accepted}

-- an edit was done, and this is the number of lines afterwards
pub record Edits (old : State) (c : Command) (new : State) (count : ℕ) : Type 0 where
  pub allowed : refusal old c ≡ None
  pub done : new ≡ state_after_accepted old c
  pub lines : count ≡ length new.lines

-- memory may run out at a command: the session does not refuse it, and it is no cut, which takes no memory
abbrev pub MayWantMemory : State → Command → Type 0
MayWantMemory s (Cut from upto) = ⊥
MayWantMemory s c = refusal s c ≡ None

-- a command was refused, for the reason of the table, or because memory ran out, where it may, and nothing changed
pub record RefusesCommand (old : State) (c : Command) (new : State) (why : SessionFault) : Type 0 where
  pub reason : ((refusal old c ≡ Some why) × (why ≢ NoMemory)) ⊎ ((why ≡ NoMemory) × MayWantMemory old c)
  pub same : new ≡ old

-- a command is an edit
abbrev pub IsEditCommand : Command → Type 0
IsEditCommand (Put line text) = Unit {0}
IsEditCommand (Set line text) = Unit {0}
IsEditCommand (Cut from upto) = Unit {0}
IsEditCommand _ = ⊥

-- what is answered to a command that is not refused: an edit is done, a show and an export are left to be booked
abbrev pub Accepts : State → Command → State → Asked → Type 0
Accepts old c new (asked.Lines count) = IsEditCommand c × Edits old c new count
Accepts old c new asked.Show = (c ≡ Show) × (refusal old c ≡ None) × (new ≡ old)
Accepts old c new asked.Export = (c ≡ Export) × (refusal old c ≡ None) × (new ≡ old)
