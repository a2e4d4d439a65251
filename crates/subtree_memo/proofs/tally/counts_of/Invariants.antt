use Rattle.std.proofs.Common.{◌≡◌, ◌+◌, take}
use Rattle.memo_core.specs.Fields.{records_of}
use Rattle.subtree_memo.specs.Tallies.{AreCounts}
use Rattle.subtree_memo.proofs.tally.counts_of.Given as goal

abbrev pub invariant-loop-item : goal.invariant-loop-item
invariant-loop-item g l =
    AreCounts (records_of (take l.item-index l.items)) l.counts
    × (l.counts.hits + l.counts.misses + l.counts.kept + l.counts.heavy ≡ l.item-index)
