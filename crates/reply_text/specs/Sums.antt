-- What the exports of a script come to in all, where each source has a number of its own, which may depend on its reply.
use Rattle.std.specs.Prelude.{◌≡◌, ℕ, ◌+◌, List, [], ◌∷◌, ◌⊎◌, MatchOption}
use Rattle.script_reader.specs.declared.script.Command.{Command}
use Rattle.script_reader.specs.declared.script.Command.TheVariants.{Export}
use Rattle.script_reader.specs.declared.script.ClientScript.{ClientScript}
use Rattle.edit_session.specs.Sessions.{State, start_state, source_of, refusal}
use Rattle.export_limits.specs.Limits.{IsSizeLimit}
use Rattle.reply_text.specs.declared.reply.Reply.{Reply}
use Rattle.reply_text.specs.declared.reply.Reply.TheVariants as reply
use Rattle.reply_text.specs.Answers.{state_after}

-- an export that is answered so is solved: memory did not run out, and no limit of size was passed
abbrev pub IsSolvedReply : Reply → Type 0
IsSolvedReply reply.NoMem = ⊥
IsSolvedReply (reply.PassedLimit passed) = IsSizeLimit passed → ⊥
IsSolvedReply _ = Unit {0}

-- each export among these commands has a solved reply: memory did not run out, and no limit of size was passed
abbrev pub AreSolvedReplies : List Command → List Reply → Type 0
AreSolvedReplies (Export ∷ cs) (r ∷ rs) = IsSolvedReply r × AreSolvedReplies cs rs
AreSolvedReplies (c ∷ cs) (r ∷ rs) = AreSolvedReplies cs rs
AreSolvedReplies _ _ = Unit {0}

-- each export of each client has a solved reply
abbrev pub AllAreSolved : List ClientScript → List (List Reply) → Type 0
AllAreSolved (client ∷ clients) (replies ∷ more) = AreSolvedReplies client.commands replies × AllAreSolved clients more
AllAreSolved _ _ = Unit {0}

-- a number of a source counts where the reply to its export is a solved one, and else there is none
abbrev pub CountsWhereSolved : (List ℕ → ℕ → Type 0) → List ℕ → Reply → ℕ → Type 0
CountsWhereSolved Counts source r n = (IsSolvedReply r × Counts source n) ⊎ ((IsSolvedReply r → ⊥) × (n ≡ 0))

-- `Counts` relates a source and the reply to its export to a number
module _ (Counts : List ℕ → Reply → ℕ → Type 0) where
  -- what a command that is answered so comes to: an export that the session doesn't refuse to the number of its source and its
  -- reply, also where memory ran out, and any other to nothing
  abbrev pub ComesTo : State → Command → Reply → ℕ → Type 0
  ComesTo s Export r n = MatchOption (refusal s Export) (Counts (source_of s) r n) (λ why. n ≡ 0)
  ComesTo s _ r n = n ≡ 0

  -- what commands that are answered so come to in all
  abbrev pub SumTo : State → List Command → List Reply → ℕ → Type 0
  SumTo s [] [] n = n ≡ 0
  SumTo s (c ∷ cs) (r ∷ rs) n =
      (here : ℕ) × (more : ℕ) × ComesTo s c r here × SumTo (state_after s c r) cs rs more × (n ≡ here + more)
  SumTo s (c ∷ cs) [] n = ⊥
  SumTo s [] (r ∷ rs) n = ⊥

  -- what the commands of all clients come to
  abbrev pub AllSumTo : List ClientScript → List (List Reply) → ℕ → Type 0
  AllSumTo [] [] n = n ≡ 0
  AllSumTo (client ∷ clients) (replies ∷ more) n =
      (here : ℕ) × (others : ℕ)
      × SumTo start_state client.commands replies here × AllSumTo clients more others × (n ≡ here + others)
  AllSumTo (client ∷ clients) [] n = ⊥
  AllSumTo [] (replies ∷ more) n = ⊥
