use Rattle.std.proofs.Common.{◌++◌, ◌+◌, rules, suc, drop, arith}
use Rattle.std.proofs.lemmas.Result.{err_from_is_err_and}
use Rattle.plain_text.specs.Decimals.{numeral}
use Rattle.reply_text.specs.Texts.{reply_body, replies_text}
use Rattle.script_service.proofs.Sent.{next_reply, sent_piece, cut_piece}
use Rattle.script_service.proofs.output.write_replies.Goals as goal

pub returns-in_err-write_reply-clause-err : goal.returns-in_err-write_reply-clause-err
returns-in_err-write_reply-clause-err g c =
    let p = err_from_is_err_and c.from_residual.result c.from_residual.ensures.1 in
    let i = c.loop-reply.reply-index in
    let piece = numeral (c.loop-reply.number + 1) ++ reply_body c.reply-item.result in
    rw (p.1, p.2)
    (cut_piece g.K.Sink.held _ _ _ c.loop-reply.buffer.items piece (replies_text (suc i) (drop i c.args.replies.now)) (replies_text (suc (i + 1)) (drop (i + 1) c.args.replies.now)) _ _
    (next_reply c.args.replies.now i c.loop-reply.number c.reply-item.result c.loop-reply-test.true c.reply-item.is c.loop-reply.invariant.number)
    c.loop-reply.invariant.sent c.in_err-write_reply.ensures.err)

pub loop-reply-preserved : goal.loop-reply-preserved
loop-reply-preserved g c =
    let i = c.loop-reply.reply-index in
    let piece = numeral (c.loop-reply.number + 1) ++ reply_body c.reply-item.result in
    record {
      number = omega (arith, c.loop-reply.invariant.number);
      sent = sent_piece g.K.Sink.held _ _ _ c.loop-reply.buffer.items _ piece (replies_text (suc i) (drop i c.args.replies.now)) (replies_text (suc (i + 1)) (drop (i + 1) c.args.replies.now)) _
          (next_reply c.args.replies.now i c.loop-reply.number c.reply-item.result c.loop-reply-test.true c.reply-item.is c.loop-reply.invariant.number)
          c.loop-reply.invariant.sent c.in_ok-write_reply.ensures.ok;
      quiet = search rules;
    }
