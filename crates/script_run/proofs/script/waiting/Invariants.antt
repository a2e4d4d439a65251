use Rattle.std.proofs.Common.{◌++◌, List, drop}
use Rattle.script_run.specs.declared.served.ServedClient.{ServedClient}
use Rattle.script_run.specs.Serving.{AreWaiting}
use Rattle.script_run.proofs.script.waiting.Given as goal

-- those that wait for the clients that are left are behind those so far the ones of all clients
abbrev pub invariant-loop-client : goal.invariant-loop-client
invariant-loop-client l =
    (more : List ServedClient) → AreWaiting (drop l.client-index l.clients) more → AreWaiting l.clients (l.all.items ++ more)
