use Rattle.std.proofs.Common.{◌≡◌, ◌++◌, drop}
use Rattle.script_service.specs.Demos.{demo_text}
use Rattle.script_service.proofs.demo.demo_lines.Given as goal

abbrev pub invariant-loop-client : goal.invariant-loop-client
invariant-loop-client l = l.lines.items ++ demo_text (drop l.client-index l.clients) l.left ≡ demo_text l.clients l.replies
