use Rattle.std.proofs.Common.{take}
use Rattle.flight_memo.specs.Claims.{IsFree}
use Rattle.flight_memo.specs.Fields.{claims_of}
use Rattle.flight_memo.proofs.claims.Claims.end_of.Given as goal

-- no claim so far has the key
abbrev pub invariant-loop-claim : goal.invariant-loop-claim
invariant-loop-claim g l = IsFree l.key (claims_of (take l.claim-index l.claim-items))
