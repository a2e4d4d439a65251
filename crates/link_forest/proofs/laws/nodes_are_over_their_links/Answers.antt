use Rattle.link_forest.proofs.lemmas.Longer.{linked_none, added, is_node}
use Rattle.link_forest.proofs.laws.nodes_are_over_their_links.Goals as goal

pub returns-clause-none : goal.returns-clause-none
returns-clause-none g c = linked_none

pub returns-clause-added : goal.returns-clause-added
returns-clause-added g c = added

pub returns-clause-node : goal.returns-clause-node
returns-clause-node g c = is_node
