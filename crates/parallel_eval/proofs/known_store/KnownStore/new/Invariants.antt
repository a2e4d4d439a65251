use Rattle.std.proofs.Common.{◌≡◌, length}
use Rattle.std.specs.Arc.{arc_value}
use Rattle.parallel_eval.specs.Known.{AreKnown, known_sizes}
use Rattle.parallel_eval.proofs.known_store.KnownStore.new.Given as goal

abbrev pub invariant-loop-number : goal.invariant-loop-number
invariant-loop-number l = record {
  count : length l.leaves.items ≡ l._number;
  known : AreKnown (arc_value l.store) l.leaves.items;
  none : known_sizes l.leaves.items ≡ 0;
}
