use Rattle.std.proofs.Common.{◌≡◌, length}
use Rattle.memo_cases.proofs.clients.put_steps.Given as goal

abbrev pub invariant-loop-event : goal.invariant-loop-event
invariant-loop-event l = length l.world.1.parts ≡ 2
