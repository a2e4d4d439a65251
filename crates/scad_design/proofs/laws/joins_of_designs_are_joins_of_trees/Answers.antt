use Rattle.scad_design.proofs.DesignTrees.{placed_tree, join_trees, halves_trees, moved_balanced}
use Rattle.scad_design.proofs.laws.joins_of_designs_are_joins_of_trees.Goals as goal

pub returns : goal.returns
returns c = record { tree = placed_tree; joins = join_trees; halves = halves_trees; moves = moved_balanced }
