use Rattle.bsp_tree.specs.Ranges.{none}
use Rattle.bsp_tree.proofs.ranges.first_before.Goals as goal

pub returns-in-End : goal.returns-in-End
returns-in-End c = λ nodes known. rw c.in-End.is (none _ _)
