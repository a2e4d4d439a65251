use Rattle.bsp_tree.proofs.lemmas.Wholes.{end_walk}
use Rattle.bsp_tree.proofs.walking.+holds_at.Goals as goal

pub plane_named-requires : goal.plane_named-requires
plane_named-requires t c = (c.requires.faces.each _ _ c.at-behind.ensures.node).plane

pub returns-in-End : goal.returns-in-End
returns-in-End t c = rw c.in-End.is (end_walk c.args.planes.now c.args.forest.now.nodes c.in-End.is_inside c.args.point.now)
