use Rattle.bsp_tree.proofs.lemmas.Wholes.{one_node_whole}
use Rattle.geometry_cases.proofs.solids.node.Goals as goal

pub of_parts-requires : goal.of_parts-requires
of_parts-requires c = one_node_whole _ _ _ _ _ c.in_ok-own.ensures c.new-forest.ensures c.in_ok-id.ensures.ok
