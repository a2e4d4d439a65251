use Rattle.std.proofs.Common.{ap, arith, length, subst}
use Rattle.csg_tree.specs.Numberings.{AreNumberedTrees}
use Rattle.csg_tree.proofs.EarlierNumbers.{numbered}
use Rattle.csg_tree.proofs.Linked.{length_trees}
use Rattle.csg_tree.proofs.store.CsgStore.len.Goals as goal

pub returns-clause-is : goal.returns-clause-is
returns-clause-is c =
    omega (arith, length_trees c.self.inside.nodes.items, ap length c.self.view_is, c.len.ensures)

pub returns-clause-numbered : goal.returns-clause-numbered
returns-clause-numbered c =
    subst AreNumberedTrees c.self.view_is (numbered c.self.inside.nodes.items c.self.invariant.linked c.self.invariant.once)
