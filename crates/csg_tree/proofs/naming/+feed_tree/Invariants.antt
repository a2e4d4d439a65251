use Rattle.csg_tree.proofs.naming.+feed_tree.Given as goal

abbrev pub decreases-feed_tree : goal.decreases-feed_tree
decreases-feed_tree g l = l.number
