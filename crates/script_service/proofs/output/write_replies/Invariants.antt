use Rattle.std.proofs.Common.{◌≡◌, suc, ◌++◌, drop}
use Rattle.reply_text.specs.Texts.{replies_text}
use Rattle.script_service.specs.Sending.{Sends}
use Rattle.script_service.proofs.output.write_replies.Given as goal

-- the buffer and the replies that are left are what is left of the text
abbrev pub invariant-loop-reply : goal.invariant-loop-reply
invariant-loop-reply g l = record {
  number : l.number ≡ l.reply-index;
  sent : Sends g.K.Sink.held l.fn.sink l.sink (l.buffer.items ++ replies_text (suc l.reply-index) (drop l.reply-index l.replies)) (l.fn.buffer.items ++ replies_text 1 l.replies);
  quiet : g.K.Sink.faults l.sink ≡ g.K.Sink.faults l.fn.sink;
}
