use Rattle.plane_table.proofs.Oriented.{own_number}
use Rattle.plane_table.proofs.directions.direction_of.Goals as goal

pub returns : goal.returns
returns c = own_number c.args.planes.now c.args.i
