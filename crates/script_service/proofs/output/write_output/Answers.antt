use Rattle.std.proofs.Common.{◌++◌, arith, length-append}
use Rattle.std.proofs.lemmas.Result.{err_from_is_err_and}
use Rattle.reply_text.specs.Texts.{output}
use Rattle.script_service.proofs.Sent.{cut_result, with_ending, cut_with_ending, ending_put, flush_cut, flushed}
use Rattle.script_service.proofs.output.write_output.Goals as goal

pub returns-in_err-write_clients-clause-err : goal.returns-in_err-write_clients-clause-err
returns-in_err-write_clients-clause-err g c =
    let p = err_from_is_err_and c.from_residual.result c.from_residual.ensures.1 in
    rw (p.1, p.2)
    (cut_with_ending g.K.Sink.held _ _ c.new-buffer.result.items (output c.args.clients.now c.args.replies.now) c.args.ending.now _ c.new-buffer.ensures.items c.in_err-write_clients.ensures.err)

pub returns-in_err-put-clause-err : goal.returns-in_err-put-clause-err
returns-in_err-put-clause-err g c =
    let p = err_from_is_err_and c.from_residual-in_err-put.result c.from_residual-in_err-put.ensures.1 in
    let buffer = c.write_clients.new.buffer.items in
    rw (p.1, p.2) (
      buffer ++ c.args.ending.now,
      omega (arith, length-append buffer c.args.ending.now, c.in_err-put.ensures.err),
      with_ending g.K.Sink.held _ _ buffer c.new-buffer.result.items (output c.args.clients.now c.args.replies.now) c.args.ending.now c.new-buffer.ensures.items c.in_ok-write_clients.ensures.ok,
    )

pub returns-clause-ok : goal.returns-clause-ok
returns-clause-ok g c =
    flushed g.K.Sink.held c.flush.result _ _ c.flush.new.sink c.put.new.buffer.items _ _
    (ending_put g.K.Sink.held _ _ c.write_clients.new.buffer.items c.new-buffer.result.items (output c.args.clients.now c.args.replies.now) c.args.ending.now c.put.new.buffer.items c.new-buffer.ensures.items c.in_ok-write_clients.ensures.ok c.in_ok-put.ensures.ok)
    c.flush.ensures.ok

pub returns-clause-err : goal.returns-clause-err
returns-clause-err g c =
    cut_result g.K.Sink.held c.flush.result _ _ c.flush.new.sink c.put.new.buffer.items _
    (ending_put g.K.Sink.held _ _ c.write_clients.new.buffer.items c.new-buffer.result.items (output c.args.clients.now c.args.replies.now) c.args.ending.now c.put.new.buffer.items c.new-buffer.ensures.items c.in_ok-write_clients.ensures.ok c.in_ok-put.ensures.ok)
    (flush_cut g.K.Sink.held c.flush.result _ _ _ c.flush.ensures.err)
