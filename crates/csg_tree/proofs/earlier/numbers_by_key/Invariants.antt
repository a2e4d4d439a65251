use Rattle.csg_tree.specs.Earlier.{AreFoundByKey}
use Rattle.csg_tree.proofs.earlier.numbers_by_key.Given as goal

abbrev pub invariant-loop-before : goal.invariant-loop-before
invariant-loop-before l = AreFoundByKey l.store l.before l.found
