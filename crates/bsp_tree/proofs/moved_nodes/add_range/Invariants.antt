use Rattle.std.proofs.Common.{◌≡◌, length}
use Rattle.bsp_tree.proofs.PassedRanges.{HasPassed}
use Rattle.bsp_tree.proofs.moved_nodes.add_range.Given as goal

abbrev pub invariant-loop-index : goal.invariant-loop-index
invariant-loop-index l = record {
  table : l.growing.sheet.planes ≡ l.from.planes;
  passed : HasPassed l.from.own l.first (length l.fn.growing.sheet.nodes) l.fn.growing l.growing l.index;
}
