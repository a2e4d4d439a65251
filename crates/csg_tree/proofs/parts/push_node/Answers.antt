use Rattle.csg_tree.proofs.Linked.{lent_more, lent_linked}
use Rattle.csg_tree.proofs.parts.push_node.Goals as goal

pub returns-clause-trees : goal.returns-clause-trees
returns-clause-trees c = rw c.in_ok-push.ensures.items (lent_more c.args.parts.now.items c.args.node)

pub returns-clause-linked : goal.returns-clause-linked
returns-clause-linked c =
    rw c.in_ok-push.ensures.items (lent_linked c.args.parts.now.items c.args.node c.requires.linked c.requires.over)
