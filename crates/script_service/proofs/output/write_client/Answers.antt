use Rattle.std.proofs.Common.{◌++◌}
use Rattle.std.proofs.lemmas.Result.{err_from_is_err_and}
use Rattle.reply_text.specs.Texts.{client_text}
use Rattle.script_service.proofs.Sent.{cut_before_all, client_is_some, cut_result, buffer_named}
use Rattle.script_service.proofs.output.write_client.Goals as goal

pub returns-in_err-put_name-clause-err : goal.returns-in_err-put_name-clause-err
returns-in_err-put_name-clause-err g c =
    let p = err_from_is_err_and c.from_residual.result c.from_residual.ensures.1 in
    let buffer = c.args.buffer.now.items in
    rw (p.1, p.2)
    (cut_before_all g.K.Sink.held c.args.sink.now (buffer ++ client_text c.args.name.now c.args.replies.now) (client_is_some buffer c.args.name.now c.args.replies.now))

pub returns-clause-err : goal.returns-clause-err
returns-clause-err g c =
    cut_result g.K.Sink.held c.write_replies.result c.args.sink.now c.args.sink.now c.write_replies.new.sink _ (c.args.buffer.now.items ++ client_text c.args.name.now c.args.replies.now)
    (buffer_named g.K.Sink.held c.args.sink.now c.args.buffer.now.items c.put_name.new.buffer.items c.args.name.now c.args.replies.now c.in_ok-put_name.ensures.ok)
    c.write_replies.ensures.err
