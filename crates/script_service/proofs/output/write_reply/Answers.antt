use Rattle.std.proofs.Common.{◌++◌}
use Rattle.std.proofs.lemmas.Result.{err_from_is_err_and}
use Rattle.plain_text.specs.Decimals.{numeral}
use Rattle.reply_text.specs.Texts.{reply_body}
use Rattle.script_service.proofs.Sent.{cut_before_all, reply_is_some}
use Rattle.script_service.proofs.output.write_reply.Goals as goal

pub returns-in_err-push_reply-clause-err : goal.returns-in_err-push_reply-clause-err
returns-in_err-push_reply-clause-err g c =
    let p = err_from_is_err_and c.from_residual.result c.from_residual.ensures.1 in
    let buffer = c.args.buffer.now.items in
    rw (p.1, p.2)
    (cut_before_all g.K.Sink.held c.args.sink.now (buffer ++ (numeral c.args.number ++ reply_body c.args.reply.now)) (reply_is_some buffer c.args.number c.args.reply.now))
