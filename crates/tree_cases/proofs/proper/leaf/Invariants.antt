use Rattle.std.specs.List.{All}
use Rattle.csg_tree.specs.ProperTrees.{IsLeafPlane}
use Rattle.tree_cases.proofs.proper.leaf.Given as goal

abbrev pub invariant-loop-plane : goal.invariant-loop-plane
invariant-loop-plane l = All IsLeafPlane l.planes.items
