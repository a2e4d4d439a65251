use Rattle.std.proofs.Common.{refl}
use Rattle.bsp_tree.specs.Shapes.{tree_of}
use Rattle.bsp_tree.proofs.solid.Solid.parts.Goals as goal

pub returns-clause-tree : goal.returns-clause-tree
unfolding tree_of
returns-clause-tree c = rw (← c.self.view_is, c.deref.ensures.value) refl
