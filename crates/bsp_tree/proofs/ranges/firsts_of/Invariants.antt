use Rattle.std.proofs.Common.{◌≡◌, ◌≤◌, length, vec_capacity}
use Rattle.bsp_tree.specs.Ranges.{AreFirsts}
use Rattle.bsp_tree.proofs.ranges.firsts_of.Given as goal

abbrev pub invariant-loop-index : goal.invariant-loop-index
invariant-loop-index l = record {
  count : length l.firsts.items ≡ l.index;
  room : length l.forest.nodes ≤ vec_capacity l.firsts;
  known : AreFirsts l.forest.nodes l.firsts.items;
}
