use Rattle.csg_tree.proofs.tree_key.+are_same.Given as goal

abbrev pub decreases-are_same : goal.decreases-are_same
decreases-are_same l = l.number
