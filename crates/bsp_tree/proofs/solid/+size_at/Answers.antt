use Rattle.std.proofs.Common.{arith}
use Rattle.bsp_tree.proofs.lemmas.Wholes.{end_size}
use Rattle.bsp_tree.proofs.solid.+size_at.Goals as goal

pub returns-in-End : goal.returns-in-End
returns-in-End t c = λ planes. rw c.in-End.is (omega (arith, end_size planes c.args.forest.now.nodes c.in-End.field-0))
