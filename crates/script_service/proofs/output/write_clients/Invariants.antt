use Rattle.std.proofs.Common.{◌≡◌, ◌≤◌, ◌++◌, List, length, drop}
use Rattle.std.specs.Prelude.{All}
use Rattle.reply_text.specs.declared.reply.Reply.{Reply}
use Rattle.reply_text.specs.Texts.{output}
use Rattle.script_service.specs.Sending.{Sends}
use Rattle.script_service.proofs.output.write_clients.Given as goal

-- the buffer and the clients that are left are what is left of the text
abbrev pub invariant-loop-client : goal.invariant-loop-client
invariant-loop-client g l = record {
  few : All (λ (rs : List Reply). length rs ≤ 8192) l.left;
  sent : Sends g.K.Sink.held l.fn.sink l.sink (l.buffer.items ++ output (drop l.client-index l.clients) l.left) (l.fn.buffer.items ++ output l.clients l.replies);
  quiet : g.K.Sink.faults l.sink ≡ g.K.Sink.faults l.fn.sink;
}
