use Rattle.std.proofs.Common.{◌≡◌, length}
use Rattle.memo_core.specs.Views.{headers_in}
use Rattle.script_server.specs.Books.{weights_of}
use Rattle.script_server.proofs.running.weights.Given as goal

abbrev pub invariant-loop-caller : goal.invariant-loop-caller
invariant-loop-caller l = (l.weights.items ≡ weights_of l.caller (headers_in l.core.entries)) × (length l.weights.items ≡ l.caller)
