use Rattle.bsp_tree.proofs.lemmas.Worlds.{open_world, closed_world}
use Rattle.bsp_tree.proofs.laws.world_box_is_a_cell.Goals as goal

pub returns-clause-points : goal.returns-clause-points
returns-clause-points c = open_world

pub returns-clause-closed : goal.returns-clause-closed
returns-clause-closed c = closed_world
