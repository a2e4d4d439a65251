-- What commands are answered.
use Rattle.std.specs.Prelude.{◌≡◌, ◌≢◌, ◌↔◌, ℕ, List, [], ◌∷◌, ◌⊎◌, length, MatchOption}
use Rattle.script_reader.specs.declared.script.Command.{Command}
use Rattle.script_reader.specs.declared.script.Command.TheVariants.{Put, Set, Cut, Show, Export, Bad}
use Rattle.script_reader.specs.declared.script.ClientScript.{ClientScript}
use Rattle.edit_session.specs.Sessions.{State, start_state, source_of, refusal, state_after_accepted, state_after_command}
use Rattle.edit_session.specs.Asking.{MayWantMemory}
use Rattle.reply_text.specs.declared.reply.Reply.{Reply}
use Rattle.reply_text.specs.declared.reply.Reply.TheVariants as reply

-- `Exports` relates a source to the replies to its export
module _ (Exports : List ℕ → Reply → Type 0) where
  -- what a command that is not refused is answered
  abbrev pub AnswersAccepted : State → Command → Reply → Type 0
  AnswersAccepted s (Put line text) r = r ≡ reply.Lines (length (state_after_accepted s (Put line text)).lines)
  AnswersAccepted s (Set line text) r = r ≡ reply.Lines (length (state_after_accepted s (Set line text)).lines)
  AnswersAccepted s (Cut from upto) r = r ≡ reply.Lines (length (state_after_accepted s (Cut from upto)).lines)
  AnswersAccepted s Show r = r ≡ reply.Text s.lines
  AnswersAccepted s Export r = Exports (source_of s) r
  AnswersAccepted s Bad r = ⊥

  -- what a command is answered in a state
  abbrev pub Answers : State → Command → Reply → Type 0
  Answers s c r = MatchOption (refusal s c) (AnswersAccepted s c r) (λ why. r ≡ reply.Refused why)

  -- The replies are those that the client's own commands define: each is the answer in the state after those before it, or
  -- memory ran out at a command at which it may, which counts as not given.
  abbrev pub Fits : State → List Command → List Reply → Type 0
  Fits s [] [] = Unit {0}
  Fits s (c ∷ cs) (r ∷ rs) = ((r ≡ reply.NoMem) × MayWantMemory s c × Fits s cs rs) ⊎ (Answers s c r × Fits (state_after_command s c) cs rs)
  Fits s (c ∷ cs) [] = ⊥
  Fits s [] (r ∷ rs) = ⊥

  -- the replies of each client fit its own commands
  abbrev pub AllFit : List ClientScript → List (List Reply) → Type 0
  AllFit [] [] = Unit {0}
  AllFit (client ∷ clients) (replies ∷ more) = Fits start_state client.commands replies × AllFit clients more
  AllFit (client ∷ clients) [] = ⊥
  AllFit [] (replies ∷ more) = ⊥

-- memory ran out at the same places
abbrev pub SameWants : List Reply → List Reply → Type 0
SameWants [] [] = Unit {0}
SameWants (r ∷ rs) (q ∷ qs) = ((r ≡ reply.NoMem) ↔ (q ≡ reply.NoMem)) × SameWants rs qs
SameWants (r ∷ rs) [] = ⊥
SameWants [] (q ∷ qs) = ⊥

-- the state after a command that was answered so
abbrev pub state_after : State → Command → Reply → State
state_after s c reply.NoMem = s
state_after s c _ = state_after_command s c

-- a source has at most one reply to its export, and it isn't that of memory that ran out
pub record IsExport (Exports : List ℕ → Reply → Type 0) : Type 0 where
  pub one : (source : List ℕ) (r q : Reply) → Exports source r → Exports source q → r ≡ q
  pub has_memory : (source : List ℕ) (r : Reply) → Exports source r → r ≢ reply.NoMem
