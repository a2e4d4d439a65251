use Rattle.link_forest.proofs.lemmas.Longer.{tree_of_end}
use Rattle.link_forest.proofs.lemmas.Reaching.{ends_reach_none}
use Rattle.link_forest.proofs.laws.ends_have_no_nodes.Goals as goal

pub returns-clause-tree : goal.returns-clause-tree
returns-clause-tree g c = tree_of_end

pub returns-clause-reach : goal.returns-clause-reach
returns-clause-reach g c = ends_reach_none
