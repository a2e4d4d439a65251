use Rattle.link_forest.proofs.lemmas.Reaching.{reached_same, reached_by_node, reached_is_node, reached_by_added}
use Rattle.link_forest.proofs.laws.links_reach_nodes.Goals as goal

pub returns-clause-kept : goal.returns-clause-kept
returns-clause-kept g c = reached_same

pub returns-clause-by_node : goal.returns-clause-by_node
returns-clause-by_node g c = reached_by_node

pub returns-clause-is_node : goal.returns-clause-is_node
returns-clause-is_node g c = reached_is_node

pub returns-clause-added : goal.returns-clause-added
returns-clause-added g c = reached_by_added
