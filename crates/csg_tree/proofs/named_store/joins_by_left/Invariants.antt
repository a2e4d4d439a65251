use Rattle.std.proofs.Common.{◌≡◌, ◌≤◌, length, All}
use Rattle.csg_tree.proofs.named_store.joins_by_left.Given as goal

abbrev pub invariant-loop-before : goal.invariant-loop-before
invariant-loop-before l = record {
  many : length l.joins.items ≡ length l.store;
  within : All (λ n. n ≤ length l.store) l.joins.items;
}
