use Rattle.link_forest.proofs.lemmas.Longer.{extended, extends_itself, extends_twice, taken_back, linked_before}
use Rattle.link_forest.proofs.laws.longer_forests_keep_trees.Goals as goal

pub returns-clause-append : goal.returns-clause-append
returns-clause-append g c = extended

pub returns-clause-same : goal.returns-clause-same
returns-clause-same g c = extends_itself

pub returns-clause-twice : goal.returns-clause-twice
returns-clause-twice g c = extends_twice

pub returns-clause-back : goal.returns-clause-back
returns-clause-back g c = taken_back

pub returns-clause-linked : goal.returns-clause-linked
returns-clause-linked g c = linked_before
