use Rattle.std.proofs.Common.{◌≡◌, ◌+◌, ◌*◌}
use Rattle.subtree_memo.specs.Shares.{opened_shares, parts_each}
use Rattle.subtree_memo.proofs.share.shares_of.Given as goal

abbrev pub invariant-loop-caller : goal.invariant-loop-caller
invariant-loop-caller g l =
    (l.all.hits.parts + parts_each * l.caller ≡ parts_each * l.callers) × (l.all.hits.amount ≡ 0)
    × (l.all.misses.parts + parts_each * l.caller ≡ parts_each * l.callers) × (l.all.misses.amount ≡ 0)
    × (l.all.kept.parts + parts_each * l.caller ≡ parts_each * l.callers) × (l.all.kept.amount ≡ 0)
    × (l.all.heavy.parts + parts_each * l.caller ≡ parts_each * l.callers) × (l.all.heavy.amount ≡ 0)
    × (l.shares.items ≡ opened_shares l.caller)
