use Rattle.std.proofs.Common.{◌+◌, rules, drop}
use Rattle.std.proofs.lemmas.Result.{err_from_is_err_and}
use Rattle.reply_text.specs.Texts.{client_text, output}
use Rattle.script_service.proofs.Sent.{next_client, sent_piece, cut_piece, further_few}
use Rattle.script_service.proofs.output.write_clients.Goals as goal

pub returns-in_err-write_client-clause-err : goal.returns-in_err-write_client-clause-err
returns-in_err-write_client-clause-err g c =
    let p = err_from_is_err_and c.from_residual.result c.from_residual.ensures.1 in
    let i = c.loop-client.client-index in
    let clients = c.args.clients.now in
    let name = c.items.result.now in
    let rs = c.items-in-loop-client.result.now in
    rw (p.1, p.2)
    (cut_piece g.K.Sink.held _ _ _ c.loop-client.buffer.items (client_text name rs) (output (drop i clients) c.loop-client.left.now) (output (drop (i + 1) clients) c.in-Some.more.now) _ _
    (next_client clients c.loop-client.left.now c.in-Some.more.now i c.client-item.result c.in-Some.first.now rs name c.loop-client-test.true c.client-item.is c.in-Some.ensures.cases.0 c.items.ensures c.items-in-loop-client.ensures)
    c.loop-client.invariant.sent c.in_err-write_client.ensures.err)

pub loop-client-preserved : goal.loop-client-preserved
loop-client-preserved g c =
    let i = c.loop-client.client-index in
    let clients = c.args.clients.now in
    let name = c.items.result.now in
    let rs = c.items-in-loop-client.result.now in
    record {
      few = further_few c.loop-client.left.now c.in-Some.more.now c.in-Some.first.now c.in-Some.ensures.cases.0 c.loop-client.invariant.few;
      sent = sent_piece g.K.Sink.held _ _ _ c.loop-client.buffer.items _ (client_text name rs) (output (drop i clients) c.loop-client.left.now) (output (drop (i + 1) clients) c.in-Some.more.now) _
          (next_client clients c.loop-client.left.now c.in-Some.more.now i c.client-item.result c.in-Some.first.now rs name c.loop-client-test.true c.client-item.is c.in-Some.ensures.cases.0 c.items.ensures c.items-in-loop-client.ensures)
          c.loop-client.invariant.sent c.in_ok-write_client.ensures.ok;
      quiet = search rules;
    }
