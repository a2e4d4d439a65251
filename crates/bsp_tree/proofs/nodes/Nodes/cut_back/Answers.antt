use Rattle.bsp_tree.proofs.lemmas.SheetFaces.{faces_kept}
use Rattle.bsp_tree.proofs.nodes.Nodes.cut_back.Goals as goal

pub invariant_of-self : goal.invariant_of-self
invariant_of-self c = faces_kept _ _ _ c.cut_back.ensures.kept c.self.invariant
