use Rattle.std.proofs.Common.{◌≡◌, ◌≤◌, length}
use Rattle.std.specs.Prelude.{vec_capacity}
use Rattle.script_run.specs.Serving.{replies_of}
use Rattle.script_run.proofs.script.taken.Given as goal

abbrev pub invariant-loop-client : goal.invariant-loop-client
invariant-loop-client l =
    (l.all.items ≡ replies_of l.yielded) × (length l.fn.clients.items ≤ vec_capacity l.all)
