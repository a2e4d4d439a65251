use Rattle.bsp_tree.proofs.lemmas.Wholes.{one_node_whole, one_node_tree}
use Rattle.bsp_tree.proofs.half_spaces.half_of.Goals as goal

pub of_parts-requires : goal.of_parts-requires
of_parts-requires c = one_node_whole _ _ _ _ _ c.in_ok-own.ensures c.new-forest.ensures c.in_ok-id.ensures.ok

pub returns : goal.returns
returns c = one_node_tree _ _ _ _ _ _ c.in_ok-own.ensures c.new-forest.ensures c.in_ok-id.ensures.ok c.of_parts.ensures
