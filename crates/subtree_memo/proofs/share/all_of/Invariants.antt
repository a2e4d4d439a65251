use Rattle.std.proofs.Common.{◌≡◌, ◌+◌, min, sum_by}
use Rattle.subtree_memo.specs.Shares.{dropped_max}
use Rattle.subtree_memo.proofs.share.all_of.Given as goal

abbrev pub invariant-loop-share : goal.invariant-loop-share
invariant-loop-share g l =
    (l.all.parts + sum_by (λ x. x.parts) l.shares.items ≡ sum_by (λ x. x.parts) l.fn.shares.items)
    × (l.all.hits + sum_by (λ x. x.hits) l.shares.items ≡ sum_by (λ x. x.hits) l.fn.shares.items)
    × (l.all.misses + sum_by (λ x. x.misses) l.shares.items ≡ sum_by (λ x. x.misses) l.fn.shares.items)
    × (l.all.kept + sum_by (λ x. x.kept) l.shares.items ≡ sum_by (λ x. x.kept) l.fn.shares.items)
    × (l.all.heavy + sum_by (λ x. x.heavy) l.shares.items ≡ sum_by (λ x. x.heavy) l.fn.shares.items)
    × (min (l.all.dropped + sum_by (λ x. x.dropped) l.shares.items) dropped_max ≡ min (sum_by (λ x. x.dropped) l.fn.shares.items) dropped_max)

abbrev pub decreases-loop-share : goal.decreases-loop-share
decreases-loop-share g l = goal.left-loop-share g l
