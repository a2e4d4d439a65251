use Rattle.std.proofs.Common.{arith}
use Rattle.script_service.proofs.Sent.{settled, flush_cut}
use Rattle.script_service.proofs.output.settle.Goals as goal

pub returns-clause-ok : goal.returns-clause-ok
returns-clause-ok g c =
    settled g.K.Sink.held c.flush.result c.args.sink.now c.flush.new.sink c.args.buffer.now.items c.flush.new.buffer.items (omega (arith, c.len.ensures)) c.flush.ensures.ok

pub returns-clause-err : goal.returns-clause-err
returns-clause-err g c = flush_cut g.K.Sink.held c.flush.result _ _ _ c.flush.ensures.err
