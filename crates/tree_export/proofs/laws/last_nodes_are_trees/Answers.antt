use Rattle.tree_export.proofs.Solids.{no_solid, nothing_within, last_tree, last_solid}
use Rattle.tree_export.proofs.laws.last_nodes_are_trees.Goals as goal

pub returns-clause-same : goal.returns-clause-same
returns-clause-same c = last_tree

pub returns-clause-last : goal.returns-clause-last
returns-clause-last c = last_solid

pub returns-clause-none : goal.returns-clause-none
returns-clause-none c = no_solid

pub returns-clause-within : goal.returns-clause-within
returns-clause-within c = nothing_within
