use Rattle.std.proofs.Common.{map, subst}
use Rattle.std.specs.Prelude.{string_bytes}
use Rattle.script_service.specs.Streams.{stream_changes}
use Rattle.script_server.specs.Serving.{StatusTells}
use Rattle.script_server.proofs.Books.{given_of}
use Rattle.script_server.proofs.program.serve_words.Goals as goal

pub returns-in-Ok-clause-told : goal.returns-in-Ok-clause-told
returns-in-Ok-clause-told g c =
    given_of _ c.args.words c.in-Ok.words c.in-Ok.is
    (subst (λ ws. StatusTells (map string_bytes ws)
    (stream_changes g.S.Source.left g.S.Source.faults g.K.Sink.held g.K.Sink.faults c.args.source.now c.serve.new.source c.args.sink.now c.serve.new.sink) c.serve.result)
    c.as_slice.ensures.value c.serve.ensures.told)
