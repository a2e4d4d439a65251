use Rattle.std.proofs.Common.{◌≡◌, ℕ, ◌<◌, length, get_or, take, map}
use Rattle.csg_tree.specs.Numberings.{height}
use Rattle.csg_tree.specs.Nodes.{trees_of_lent_nodes}
use Rattle.csg_tree.specs.Levels.{level_at, numbers_of_height}
use Rattle.csg_tree.proofs.levels.levels_of.Given as goal

abbrev pub invariant-loop-part : goal.invariant-loop-part
invariant-loop-part l = record {
  count : length l.heights.items ≡ l.part-index;
  heights : l.heights.items ≡ map height (trees_of_lent_nodes (take l.part-index l.parts));
  levels : (h : ℕ) → level_at l.levels.items h ≡ numbers_of_height h (trees_of_lent_nodes (take l.part-index l.parts));
  low : (k : ℕ) → k < length l.heights.items → get_or l.heights.items k 0 < length l.levels.items;
}
