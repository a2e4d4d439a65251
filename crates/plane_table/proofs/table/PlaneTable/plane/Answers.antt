use Rattle.plane_table.proofs.Oriented.{entry_at}
use Rattle.plane_table.proofs.table.PlaneTable.plane.Goals as goal

pub returns : goal.returns
returns c =
    rw (← c.self.view_is)
    ((entry_at c.self.inside.planes.items c.self.inside.oriented.items c.args.number c.index.result.now c.self.invariant.oriented
    (rw (← c.self.view_is) at c.requires) c.index.ensures).plane)
