use Rattle.bsp_boolean.proofs.lemmas.Solids.{tree_is_solid}
use Rattle.bsp_boolean.proofs.laws.solids_are_their_trees.Goals as goal

pub returns : goal.returns
returns c = λ f h. tree_is_solid f h.leaves
