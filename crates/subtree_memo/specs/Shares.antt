-- What contracts see of a caller's share of the books.
use Rattle.std.specs.Prelude.{◌≡◌, ℕ, zero, suc, ◌+◌, ◌^◌, min, Bool, true, false, List, [], ◌∷◌, ◌++◌}
use Rattle.std.specs.declared.sync.ledger.Blank.{Blank}
use Rattle.memo_core.specs.declared.memo.Fill.{Fill}
use Rattle.memo_core.specs.declared.memo.Fill.TheVariants.{Kept, TooHeavy, NoMemory}

-- One caller's share: how many parts of the books it has, and what was booked on it: probes that were
-- hits and misses, and fills that were kept, that were too heavy, and that were dropped where memory
-- ran out.
pub record ShareView : Type 0 where
  pub caller : ℕ
  pub parts : ℕ
  pub hits : ℕ
  pub misses : ℕ
  pub kept : ℕ
  pub heavy : ℕ
  pub dropped : ℕ

-- the parts that a caller gets
abbrev pub parts_each : ℕ
parts_each = 128

-- a fresh ledger is the one of this name and the given number of parts
abbrev pub IsBlankLedger : ℕ → ℕ → Blank → Type 0
IsBlankLedger name parts blank = (blank.name ≡ name) × (blank.parts ≡ parts)

-- where the number of dropped fills stops
abbrev pub dropped_max : ℕ
dropped_max = 2 ^ 48

-- a share on which a probe is booked that was a hit, or not
abbrev pub share_after_probe : Bool → ShareView → ShareView
share_after_probe true v = record v { hits = v.hits + 1 }
share_after_probe false v = record v { misses = v.misses + 1 }

-- a share on which a fill is booked that was answered so
abbrev pub share_after_fill : Fill → ShareView → ShareView
share_after_fill Kept v = record v { kept = v.kept + 1 }
share_after_fill TooHeavy v = record v { heavy = v.heavy + 1 }
share_after_fill NoMemory v = record v { dropped = min (v.dropped + 1) dropped_max }

-- a share with nothing booked
abbrev pub fresh_share : ℕ → ℕ → ShareView
fresh_share caller parts = record { caller = caller; parts = parts; hits = 0; misses = 0; kept = 0; heavy = 0; dropped = 0 }

-- two shares of one caller put together
abbrev pub joined_share : ShareView → ShareView → ShareView
joined_share a b = record {
  caller = a.caller;
  parts = a.parts + b.parts;
  hits = a.hits + b.hits;
  misses = a.misses + b.misses;
  kept = a.kept + b.kept;
  heavy = a.heavy + b.heavy;
  dropped = min (a.dropped + b.dropped) dropped_max;
}

-- the shares of the given number of callers, by their numbers
abbrev pub opened_shares : ℕ → List ShareView
opened_shares zero = []
opened_shares (suc n) = opened_shares n ++ fresh_share n parts_each ∷ []

-- the probes of a share
abbrev pub probes_of : ShareView → ℕ
probes_of v = v.hits + v.misses

-- the fills that were offered on a share
abbrev pub offers_of : ShareView → ℕ
offers_of v = v.kept + v.heavy + v.dropped
