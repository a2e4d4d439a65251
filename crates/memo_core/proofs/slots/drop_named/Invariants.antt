use Rattle.std.proofs.Common.{◌≡◌, ◌+◌, ◌≤◌, take, length, vec_len, vec_capacity}
use Rattle.memo_core.specs.Memo.{DropsFrom}
use Rattle.memo_core.specs.Plans.{pairs_without}
use Rattle.memo_core.proofs.slots.drop_named.Given as goal

abbrev pub invariant-loop-name : goal.invariant-loop-name
invariant-loop-name g l =
    (l.cache.entries ≡ pairs_without (take l.name-index l.names) l.fn.cache.entries) × (l.cache.cap ≡ l.fn.cache.cap)
    × (vec_len l.gone + length l.names ≤ vec_capacity l.gone + l.name-index)
    × DropsFrom l.fn.cache.entries l.fn.gone.items l.gone.items l.cache.entries
