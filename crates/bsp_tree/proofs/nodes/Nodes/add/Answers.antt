use Rattle.bsp_tree.proofs.lemmas.SheetFaces.{faces_more}
use Rattle.bsp_tree.proofs.nodes.Nodes.add.Goals as goal

pub invariant_of-self : goal.invariant_of-self
invariant_of-self c = rw c.reserve.ensures.nodes c.self.invariant

pub invariant_of-self-2 : goal.invariant_of-self-2
invariant_of-self-2 c =
    let h = rw (← c.self.view_is) at c.requires.face in
    faces_more _ _ _ _ _ _ _ (rw c.reserve.ensures.nodes c.self.invariant) h c.add_reserved.ensures.adds
