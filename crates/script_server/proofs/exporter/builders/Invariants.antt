use Rattle.std.proofs.Common.{◌≡◌, ◌^◌, ◌≤◌, All, length}
use Rattle.script_server.proofs.exporter.builders.Given as goal

abbrev pub invariant-loop-index : goal.invariant-loop-index
invariant-loop-index l = All (λ b. b ≤ 2 ^ 46) l.builders.items × (length l.builders.items ≡ l._index)
