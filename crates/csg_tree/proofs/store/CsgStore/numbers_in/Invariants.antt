use Rattle.std.proofs.Common.{◌≡◌, length}
use Rattle.csg_tree.specs.Earlier.{AreNumbersIn}
use Rattle.csg_tree.proofs.store.CsgStore.numbers_in.Given as goal

abbrev pub invariant-loop-before : goal.invariant-loop-before
invariant-loop-before l = record {
  count : length l.numbers.items ≡ l.before;
  same : AreNumbersIn l.earlier l.self l.numbers.items;
}
