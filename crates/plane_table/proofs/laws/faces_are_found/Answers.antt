use Rattle.plane_table.proofs.Joins.{all_found, used_found}
use Rattle.plane_table.proofs.laws.faces_are_found.Goals as goal

pub returns : goal.returns
returns c = record { all = all_found; used = used_found }
