use Rattle.std.proofs.Common.{◌≡◌, ◌+◌, length}
use Rattle.std.specs.Arc.{arc_value}
use Rattle.parallel_eval.specs.Known.{AreKnown, known_sizes, most_known}
use Rattle.parallel_eval.proofs.known_store.KnownStore.over.Given as goal

abbrev pub invariant-loop-before : goal.invariant-loop-before
invariant-loop-before l = record {
  count : length l.leaves.items ≡ l.before;
  known : AreKnown (arc_value l.store) l.leaves.items;
  room : known_sizes l.leaves.items + l.room ≡ most_known;
}
