-- What the commands of clients make of their exporters.
use Rattle.std.specs.Prelude.{◌≡◌, ℕ, ◌+◌, ◌≤◌, List, [], ◌∷◌, ◌⊎◌, MatchOption, Result, Ok, Err}
use Rattle.plain_text.specs.declared.memory.NoMemory.{NoMemory}
use Rattle.script_reader.specs.declared.script.Command.{Command}
use Rattle.script_reader.specs.declared.script.Command.TheVariants.{Export}
use Rattle.script_reader.specs.declared.script.ClientScript.{ClientScript}
use Rattle.edit_session.specs.Sessions.{State, start_state, source_of, refusal}
use Rattle.reply_text.specs.declared.reply.Reply.{Reply}
use Rattle.reply_text.specs.declared.reply.Reply.TheVariants as reply
use Rattle.reply_text.specs.Answers.{state_after}

-- an exporter was asked once more at most, and can export what it could before
pub record GoesOn {E : Type 0} (asked : E → ℕ) (can_export : List ℕ → E → Type 0) (old new : E) : Type 0 where
  pub asked_once : asked new ≤ asked old + 1
  pub keeps : (source : List ℕ) → can_export source old → can_export source new

-- the reply that tells what came of an export
abbrev pub reply_or_want : Result Reply NoMemory → Reply
reply_or_want (Ok r) = r
reply_or_want (Err none) = reply.NoMem

-- `Moves` relates a source, the reply to its export, and an exporter before and after it
module _ {E : Type 0} (Moves : List ℕ → Reply → E → E → Type 0) where
  -- One command that is answered so: only an export that the session doesn't refuse asks the exporter, unless memory ran out
  -- before it was asked.
  abbrev pub MovesAt : State → Command → Reply → E → E → Type 0
  MovesAt s Export r old new =
      MatchOption (refusal s Export) (Moves (source_of s) r old new ⊎ ((r ≡ reply.NoMem) × (new ≡ old))) (λ why. new ≡ old)
  MovesAt s _ r old new = new ≡ old

  -- commands that are answered so, one after another
  abbrev pub MovesAlong : State → List Command → List Reply → E → E → Type 0
  MovesAlong s [] [] old new = new ≡ old
  MovesAlong s (c ∷ cs) (r ∷ rs) old new = (next : E) × MovesAt s c r old next × MovesAlong (state_after s c r) cs rs next new
  MovesAlong s (c ∷ cs) [] old new = ⊥
  MovesAlong s [] (r ∷ rs) old new = ⊥

  -- the commands of each client, with the first exporters in order: the others stay as they are
  abbrev pub AllMove : List ClientScript → List (List Reply) → List E → List E → Type 0
  AllMove [] [] olds news = news ≡ olds
  AllMove (client ∷ clients) (replies ∷ more) (old ∷ olds) (new ∷ news) =
      MovesAlong start_state client.commands replies old new × AllMove clients more olds news
  AllMove _ _ _ _ = ⊥
