use Rattle.std.proofs.Common.{◌≡◌, ◌+◌, min, sum_by}
use Rattle.subtree_memo.specs.Shares.{dropped_max}
use Rattle.flight_memo.proofs.flight_share.all_flights.Given as goal

-- those put together so far and those that are left are all
abbrev pub invariant-loop-flight : goal.invariant-loop-flight
invariant-loop-flight g l = record {
  parts : l.all.share.parts + sum_by (λ s. s.share.parts) l.flights.items ≡ sum_by (λ s. s.share.parts) l.fn.flights.items;
  hits : l.all.share.hits + sum_by (λ s. s.share.hits) l.flights.items ≡ sum_by (λ s. s.share.hits) l.fn.flights.items;
  misses : l.all.share.misses + sum_by (λ s. s.share.misses) l.flights.items ≡ sum_by (λ s. s.share.misses) l.fn.flights.items;
  kept : l.all.share.kept + sum_by (λ s. s.share.kept) l.flights.items ≡ sum_by (λ s. s.share.kept) l.fn.flights.items;
  heavy : l.all.share.heavy + sum_by (λ s. s.share.heavy) l.flights.items ≡ sum_by (λ s. s.share.heavy) l.fn.flights.items;
  dropped : min (l.all.share.dropped + sum_by (λ s. s.share.dropped) l.flights.items) dropped_max ≡ min (sum_by (λ s. s.share.dropped) l.fn.flights.items) dropped_max;
}

abbrev pub decreases-loop-flight : goal.decreases-loop-flight
decreases-loop-flight g l = goal.left-loop-flight g l
