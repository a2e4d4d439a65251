use Rattle.scad_design.proofs.ProperTrees.{proper_placed}
use Rattle.scad_design.proofs.laws.placed_trees_are_proper.Goals as goal

pub returns : goal.returns
returns c = proper_placed (λ op left right h g few. c.joins_are_proper.ensures op left right h g few)
