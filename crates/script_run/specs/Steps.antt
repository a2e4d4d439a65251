-- What one command does to a session, and what it is answered.
use Rattle.std.specs.Prelude.{◌≡◌, ℕ, ◌⊎◌, List, None, Result, Ok, Err}
use Rattle.script_reader.specs.declared.script.Command.{Command}
use Rattle.edit_session.specs.declared.fault.SessionFault.{SessionFault}
use Rattle.edit_session.specs.declared.fault.SessionFault.TheVariants as fault
use Rattle.edit_session.specs.Sessions.{State, refusal, state_after_accepted, state_after_command}
use Rattle.edit_session.specs.Asking.{MayWantMemory}
use Rattle.reply_text.specs.declared.reply.Reply.{Reply}
use Rattle.reply_text.specs.declared.reply.Reply.TheVariants as reply
use Rattle.reply_text.specs.Answers.{AnswersAccepted, Answers}

-- a command that is not refused was done and answered
pub record Obeys (Exports : List ℕ → Reply → Type 0) (old : State) (c : Command) (new : State) (r : Reply) : Type 0 where
  pub allowed : refusal old c ≡ None
  pub answered : AnswersAccepted Exports old c r
  pub done : new ≡ state_after_accepted old c

-- a command was answered, or memory ran out where it may, and nothing changed
abbrev pub StepsSession : (List ℕ → Reply → Type 0) → State → Command → State → Reply → Type 0
StepsSession Exports old c new r =
    ((r ≡ reply.NoMem) × MayWantMemory old c × (new ≡ old)) ⊎ (Answers Exports old c r × (new ≡ state_after_command old c))

-- the reply that tells what came of a command
abbrev pub reply_in : Result Reply SessionFault → Reply
reply_in (Ok r) = r
reply_in (Err fault.NoMemory) = reply.NoMem
reply_in (Err why) = reply.Refused why
