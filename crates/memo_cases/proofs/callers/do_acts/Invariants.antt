use Rattle.std.proofs.Common.{◌≡◌}
use Rattle.memo_cases.proofs.callers.do_acts.Given as goal

abbrev pub invariant-loop-act : goal.invariant-loop-act
invariant-loop-act g l = l.share.share.parts ≡ l.fn.share.share.parts
