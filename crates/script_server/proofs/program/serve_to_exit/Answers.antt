use Rattle.std.proofs.Common.{map, rules}
use Rattle.std.specs.Prelude.{string_bytes}
use Rattle.script_service.specs.Streams.{stream_change, stream_changes}
use Rattle.script_server.proofs.Told.{exit_told, exit_refused}
use Rattle.script_server.proofs.program.serve_to_exit.Goals as goal

pub returns-clause-told : goal.returns-clause-told
returns-clause-told g c =
    let served = c.serve_words-status in
    exit_told c.args.words (λ ws. map string_bytes ws.items)
    (stream_changes g.S.Source.left g.S.Source.faults g.K.Sink.held g.K.Sink.faults c.args.source.now served.new.source c.args.sink.now served.new.sink)
    served.result _ (search rules) served.ensures.told served.ensures.causes

pub returns-clause-refused : goal.returns-clause-refused
returns-clause-refused g c =
    let served = c.serve_words-status in
    exit_refused c.args.words (stream_change g.K.Sink.held g.K.Sink.faults c.args.sink.now served.new.sink)
    served.result _ (search rules) served.ensures.refused served.ensures.cause
