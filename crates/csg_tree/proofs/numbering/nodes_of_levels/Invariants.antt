use Rattle.std.proofs.Common.{◌≡◌, ℕ, ◌<◌, length}
use Rattle.csg_tree.specs.Numberings.{by_height, distinct_trees, height, tree_numbered, IsNumberIn}
use Rattle.csg_tree.specs.Nodes.{trees_of_nodes, trees_of_lent_nodes}
use Rattle.csg_tree.specs.Interned.{AreInterned, IsPartNumbered}
use Rattle.csg_tree.proofs.numbering.nodes_of_levels.Given as goal

abbrev pub invariant-loop-level : goal.invariant-loop-level
invariant-loop-level l = record {
  room : length l.numbers.items ≡ length l.parts;
  interned : AreInterned l.interner.found l.interner.nodes.items;
  trees : trees_of_nodes l.interner.nodes.items ≡ distinct_trees (by_height l.level-index (trees_of_lent_nodes l.parts));
  placed : (m : ℕ) → IsNumberIn (trees_of_lent_nodes l.parts) m → height (tree_numbered (trees_of_lent_nodes l.parts) m) < l.level-index →
      IsPartNumbered (trees_of_lent_nodes l.parts) (trees_of_nodes l.interner.nodes.items) l.numbers.items m;
}
