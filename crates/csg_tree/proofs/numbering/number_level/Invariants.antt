use Rattle.std.proofs.Common.{◌≡◌, ℕ, ◌+◌, ◌<◌, ◌≤◌, ◌++◌, List, length, get_or, take, map}
use Rattle.csg_tree.specs.HalfSpaceTrees.{Tree}
use Rattle.csg_tree.specs.Numberings.{distinct_trees, tree_numbered}
use Rattle.csg_tree.specs.Nodes.{trees_of_nodes, trees_of_lent_nodes}
use Rattle.csg_tree.specs.Interned.{AreInterned, IsPartNumbered, StayPlaced}
use Rattle.csg_tree.proofs.numbering.number_level.Given as goal

abbrev pub invariant-loop-number : goal.invariant-loop-number
invariant-loop-number l = record {
  room : length l.numbers.items ≡ length l.parts;
  interned : AreInterned l.interner.found l.interner.nodes.items;
  few : length l.interner.nodes.items ≤ length l.fn.interner.nodes.items + l.number-index;
  placed : (j : ℕ) → j < l.number-index → IsPartNumbered (trees_of_lent_nodes l.parts) (trees_of_nodes l.interner.nodes.items) l.numbers.items (get_or l.level j 0);
  stay : StayPlaced (trees_of_lent_nodes l.parts) (trees_of_nodes l.fn.interner.nodes.items) l.fn.numbers.items (trees_of_nodes l.interner.nodes.items) l.numbers.items;
  distinct : (trees : List Tree) → trees_of_nodes l.fn.interner.nodes.items ≡ distinct_trees trees →
      trees_of_nodes l.interner.nodes.items ≡ distinct_trees (trees ++ map (tree_numbered (trees_of_lent_nodes l.parts)) (take l.number-index l.level));
}
