-- The clients of a script, before and after they are served.
use Rattle.std.specs.Prelude.{◌≡◌, ℕ, ◌≤◌, List, [], ◌∷◌, map, length, All, vec_capacity}
use Rattle.script_reader.specs.declared.script.ClientScript.{ClientScript}
use Rattle.script_reader.specs.Limits.{HasText}
use Rattle.edit_session.specs.Sessions.{start_state}
use Rattle.reply_text.specs.declared.reply.Reply.{Reply}
use Rattle.reply_text.specs.Answers.{Fits}
use Rattle.script_run.specs.declared.served.ServedClient.{ServedClient}
use Rattle.script_run.specs.Moves.{MovesAlong}

-- no reply, and room for one reply a command, which are at most 8,192
pub record HasRoomForReplies (client : ServedClient) : Type 0 where
  pub empty : client.replies.items ≡ []
  pub room : length client.commands.now ≤ vec_capacity client.replies
  pub few : length client.commands.now ≤ 8192
  pub texts : All HasText client.commands.now

-- the replies fit the client's commands, one each, and the exporter is what they make of it
pub record IsServed {E : Type 0} (Exports : List ℕ → Reply → Type 0) (Moves : List ℕ → Reply → E → E → Type 0)
    (old : ServedClient) (before : E) (new : ServedClient) (after : E) : Type 0 where
  pub fits : Fits Exports start_state old.commands.now new.replies.items
  pub count : length new.replies.items ≡ length old.commands.now
  pub moved : MovesAlong Moves start_state old.commands.now new.replies.items before after

-- each client has no reply, and room for one reply a command
abbrev pub AreWaiting : List ClientScript → List ServedClient → Type 0
AreWaiting [] [] = Unit {0}
AreWaiting (client ∷ clients) (served ∷ all) =
    (served.commands.now ≡ client.commands) × (served.replies.items ≡ [])
    × (length client.commands ≤ vec_capacity served.replies) × AreWaiting clients all
AreWaiting [] (served ∷ all) = ⊥
AreWaiting (client ∷ clients) [] = ⊥

abbrev pub replies_of : List ServedClient → List (List Reply)
replies_of all = map (λ served. served.replies.items) all
