use Rattle.std.proofs.Common.{◌≡◌, ◌++◌, ◌+◌, ◌≤◌, List, length, drop, vec_len}
use Rattle.std.specs.Prelude.{vec_capacity}
use Rattle.edit_session.specs.Sessions.{start_state}
use Rattle.reply_text.specs.declared.reply.Reply.{Reply}
use Rattle.reply_text.specs.Answers.{Fits}
use Rattle.script_run.specs.Asking.{MayServe}
use Rattle.script_run.specs.Moves.{MovesAlong}
use Rattle.script_run.proofs.client.serve_client.Given as goal

-- replies that fit what is left fit all commands behind the replies so far, and the exporter may export what those that are
-- left may
abbrev pub invariant-loop-command : goal.invariant-loop-command
invariant-loop-command g l = record {
  room : vec_len l.replies + length (drop l.command-index l.commands) ≤ vec_capacity l.replies;
  count : vec_len l.replies ≡ l.command-index;
  asked : g.E.Exporter.asked l.exporter + length (drop l.command-index l.commands) ≤ 8192;
  can_export : MayServe (λ source. g.E.Exporter.can_export l.unit source l.exporter) l.session (drop l.command-index l.commands);
  fits : (rest : List Reply) → Fits (g.E.Exporting.exports l.unit) l.session (drop l.command-index l.commands) rest → Fits (g.E.Exporting.exports l.unit) start_state l.commands (l.replies.items ++ rest);
  moved : (rest : List Reply) (after : _) → MovesAlong (g.E.Exporter.moves l.unit) l.session (drop l.command-index l.commands) rest l.exporter after →
      MovesAlong (g.E.Exporter.moves l.unit) start_state l.commands (l.replies.items ++ rest) l.fn.exporter after;
}
