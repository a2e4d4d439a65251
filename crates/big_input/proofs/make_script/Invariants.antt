use Rattle.std.proofs.Common.{◌≡◌, ◌++◌, drop, flat_map}
use Rattle.big_input.specs.DemoScript.{client_lines}
use Rattle.big_input.proofs.make_script.Given as goal

abbrev pub invariant-loop-client : goal.invariant-loop-client
invariant-loop-client l =
    l.script.items ++ flat_map (client_lines l.n) (drop l.client-index l.client-items) ≡ flat_map (client_lines l.n) l.client-items
