use Rattle.std.proofs.Common.{◌≡◌, ◌++◌, drop}
use Rattle.script_service.specs.Endings.{share_lines}
use Rattle.script_service.proofs.ending.push_shares.Given as goal

abbrev pub invariant-loop-client : goal.invariant-loop-client
invariant-loop-client l = l.out.items ++ share_lines (drop l.client-index l.clients) l.left ≡ l.initial.out.items ++ share_lines l.clients l.weights
