use Rattle.std.proofs.Common.{◌≡◌, ◌+◌, ◌≤◌, length, take}
use Rattle.bsp_tree.proofs.solid.forest_copy.Given as goal

abbrev pub invariant-loop-index : goal.invariant-loop-index
invariant-loop-index l = record {
  nodes : l.nodes.nodes ≡ take l.index l.forest.nodes;
  spare : length l.forest.nodes ≤ l.nodes.spare + l.index;
}
