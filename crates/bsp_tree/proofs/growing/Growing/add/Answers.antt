use Rattle.std.proofs.Common.{arith, refl}
use Rattle.bsp_tree.proofs.lemmas.Growths.{node_grows}
use Rattle.bsp_tree.proofs.growing.Growing.add.Goals as goal

pub returns-clause-grows : goal.returns-clause-grows
returns-clause-grows c = λ start middle b a hb ha.
    let ha2 = rw (← c.self.view_is) at ha in
    rw (← c.self.view_is) (node_grows start middle _ _ _ _ _ b a _ hb ha2 c.in_ok-id.ensures.adds c.in_ok-id.ensures.planes (omega (arith, c.len-edges.ensures)) refl)
