use Rattle.std.proofs.Common.{◌≡◌, length, map, take}
use Rattle.std.specs.Arc.{arc_value}
use Rattle.csg_tree.specs.Fronts.{HoldFronts}
use Rattle.csg_tree.specs.JoinNames.{name_of_join}
use Rattle.csg_tree.proofs.named_store.NamedStore.new.Given as goal

abbrev pub invariant-loop-before : goal.invariant-loop-before
invariant-loop-before l = record {
  names : l.names.items ≡ map name_of_join (take l.before (arc_value l.store));
  count : length l.fronts.items ≡ l.before;
  fronts : HoldFronts (arc_value l.store) l.fronts.items;
}
