use Rattle.std.proofs.Common.{List, [], sym, subst, append-nil}
use Rattle.std.proofs.lemmas.List.{drop_all}
use Rattle.script_reader.specs.declared.script.ClientScript.{ClientScript}
use Rattle.script_run.specs.declared.served.ServedClient.{ServedClient}
use Rattle.script_run.specs.Serving.{AreWaiting}
use Rattle.script_run.proofs.script.waiting.Goals as goal

pub returns : goal.returns
returns c =
    let ended = drop_all c.loop-client.client-index c.args.clients.now c.loop-client-test.false in
    subst (λ (all : List ServedClient). AreWaiting c.args.clients.now all) (append-nil c.loop-client.all.items)
    (c.loop-client.invariant [] (subst (λ (cs : List ClientScript). AreWaiting cs []) (sym ended) tt))
