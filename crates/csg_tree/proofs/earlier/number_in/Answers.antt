use Rattle.csg_tree.specs.Nodes.{node_of, tree_of_node}
use Rattle.csg_tree.proofs.EarlierNumbers.{number_found}
use Rattle.csg_tree.proofs.earlier.number_in.Goals as goal

pub returns-in_ok-key-in-Some : goal.returns-in_ok-key-in-Some
returns-in_ok-key-in-Some c = λ earlier trees found among.
    number_found earlier (tree_of_node trees (node_of c.args.node)) c.args.found.now c.in_ok-key-in-Some.key c.in-Some.other c.look_up.result found
    (c.in-Some.ensures earlier trees found.numbered among) c.in_ok-key-in-Some.ensures c.look_up.ensures
