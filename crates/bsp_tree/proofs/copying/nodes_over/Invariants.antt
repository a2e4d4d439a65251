use Rattle.std.proofs.Common.{◌≡◌}
use Rattle.bsp_tree.specs.Copies.{AreCopied}
use Rattle.bsp_tree.proofs.copying.nodes_over.Given as goal

abbrev pub invariant-loop-index : goal.invariant-loop-index
invariant-loop-index l = record {
  planes : l.nodes.planes ≡ l.table;
  copied : AreCopied l.planes l.forest.nodes l.index l.nodes;
}
