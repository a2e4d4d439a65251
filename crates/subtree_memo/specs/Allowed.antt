-- Who asked a memo for which keys.
use Rattle.std.specs.Prelude.{ℕ, List, All}
use Rattle.memo_core.specs.Memo.{JournalRecord}

-- each item of a journal is of a caller who may ask for its key
pub record AreAllowed {K : Type 0} (may_ask : ℕ → K → Type 0) (items : List (JournalRecord K)) : Type 0 where
  pub each : All (λ i. may_ask i.caller i.key) items
