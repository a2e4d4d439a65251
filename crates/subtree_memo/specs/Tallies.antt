-- The counts of a journal.
use Rattle.std.specs.Prelude.{◌≡◌, ℕ, ◌+◌, min, sum_by, List}
use Rattle.memo_core.specs.Memo.{JournalRecord, count_in, hit_count_of, miss_count_of, kept_count_of, not_kept_count_of, evicted_count}
use Rattle.subtree_memo.specs.Shares.{ShareView, dropped_max}
use Rattle.subtree_memo.specs.declared.tally.Counts.{Counts}
use Rattle.subtree_memo.specs.declared.tally.Tally.{Tally}

module _ {K : Type 0} where
  -- these are a journal's numbers of hits, misses, fills that were kept and fills that were not
  pub record AreCounts (items : List (JournalRecord K)) (counts : Counts) : Type 0 where
    pub hits : counts.hits ≡ count_in hit_count_of items
    pub misses : counts.misses ≡ count_in miss_count_of items
    pub kept : counts.kept ≡ count_in kept_count_of items
    pub heavy : counts.heavy ≡ count_in not_kept_count_of items

  -- The tally of a journal, and of the given number of fills for which memory ran out and which stand in no journal. Kept or
  -- not, or out of memory, each fill was offered.
  abbrev pub tally_of : List (JournalRecord K) → ℕ → Tally
  tally_of items dropped = record {
    probes = count_in hit_count_of items + count_in miss_count_of items;
    hits = count_in hit_count_of items;
    misses = count_in miss_count_of items;
    offered = count_in kept_count_of items + count_in not_kept_count_of items + dropped;
    kept = count_in kept_count_of items;
    heavy = count_in not_kept_count_of items;
    dropped = dropped;
    evicted = evicted_count items;
  }

-- a tally has what was booked on all shares, where the number of dropped fills stops at its most
pub record AreSums (shares : List ShareView) (tally : Tally) : Type 0 where
  pub hits : tally.hits ≡ sum_by (λ s. s.hits) shares
  pub misses : tally.misses ≡ sum_by (λ s. s.misses) shares
  pub kept : tally.kept ≡ sum_by (λ s. s.kept) shares
  pub heavy : tally.heavy ≡ sum_by (λ s. s.heavy) shares
  pub dropped : tally.dropped ≡ min (sum_by (λ s. s.dropped) shares) dropped_max
