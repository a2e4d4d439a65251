use Rattle.std.proofs.Common.{List, ℕ, subst}
use Rattle.script_service.specs.Streams.{stream_change}
use Rattle.script_service.specs.Outcomes.{PrintsReplies}
use Rattle.script_service.proofs.Printed.{same_printed}
use Rattle.script_service.proofs.outcome.write_outcome.Goals as goal

pub returns-clause-told : goal.returns-clause-told
returns-clause-told g c = λ weights same.
    subst (λ (out : List ℕ). PrintsReplies c.args.settings (stream_change g.K.Sink.held g.K.Sink.faults c.args.sink.now c.write_printed.new.sink) out c.write_printed.result)
    (same_printed c.args.settings c.args.clients.now c.args.replies.now c.args.counts c.args.owned.now weights same)
    c.write_printed.ensures.told
