use Rattle.std.proofs.Common.{◌≡◌, ℕ, ◌<◌, length, slice_get, Some}
use Rattle.link_forest.specs.declared.forest.Entry.{Entry}
use Rattle.plane_table.specs.declared.faces.Face.{Face}
use Rattle.plane_table.specs.Joins.{AreMarkedUsed}
use Rattle.bsp_tree.proofs.finishing.mark_nodes.Given as goal

abbrev pub invariant-loop-index : goal.invariant-loop-index
invariant-loop-index l = record {
  same : length l.used ≡ length l.nodes.planes;
  marked : (at : ℕ) (entry : Entry Face) → at < l.index → slice_get l.nodes.nodes at ≡ Some entry → AreMarkedUsed l.used entry.payload;
}
