use Rattle.std.proofs.Common.{◌≡◌, take}
use Rattle.memo_core.specs.Fields.{records_of}
use Rattle.memo_shares.proofs.verdict.compare.Given as goal

abbrev pub invariant-loop-number : goal.invariant-loop-number
invariant-loop-number g l = (l.core.journal ≡ records_of (take l.number l.items)) × (l.core.budget ≡ l.fn.core.budget) × (l.core.share ≡ l.fn.core.share)
