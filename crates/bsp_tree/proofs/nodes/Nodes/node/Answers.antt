use Rattle.bsp_tree.proofs.lemmas.SheetFaces.{face_is}
use Rattle.bsp_tree.proofs.nodes.Nodes.node.Goals as goal

pub returns-clause-face : goal.returns-clause-face
returns-clause-face c = rw (← c.self.view_is) (face_is _ _ _ _ _ _ c.self.invariant c.at.ensures)
