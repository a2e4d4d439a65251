use Rattle.std.proofs.Common.{List, ℕ, length, refl, subst, ◌∙◌}
use Rattle.reply_text.specs.declared.reply.Reply.{Reply}
use Rattle.memo_core.specs.Views.{headers_in}
use Rattle.script_service.specs.Streams.{stream_change}
use Rattle.script_service.specs.Serving.{printed_text}
use Rattle.script_service.specs.Outcomes.{PrintsReplies}
use Rattle.script_server.specs.Books.{weights_of}
use Rattle.script_server.proofs.Told.{run_written}
use Rattle.script_server.proofs.server.write_ran.Goals as goal

pub returns-in-Ok-clause-told : goal.returns-in-Ok-clause-told
returns-in-Ok-clause-told g c =
    let clients = c.args.clients.now in
    let ran = c.args.ran.now in
    let sink = stream_change g.K.Sink.held g.K.Sink.faults c.args.sink.now c.write_outcome.new.sink in
    let weights = weights_of (length clients) (headers_in ran.core.entries) in
    run_written c.args.settings clients ran.replies.items ran.tally ran.core ran.claims (length clients) sink c.write_outcome.result c.requires.ran refl
    (subst (λ (rs : List (List Reply)). PrintsReplies c.args.settings sink (printed_text c.args.settings clients rs ran.tally weights) c.write_outcome.result) c.deref.ensures.value
    (c.write_outcome.ensures.told weights (λ p. c.as_slice.ensures.value ∙ c.in-Ok.ensures.weights p)))
