use Rattle.source_laws.proofs.Examples.{depth_needed}
use Rattle.source_laws.proofs.evaluations.calls_in_one_another_take_more.Goals as goal

pub returns : goal.returns
returns c = depth_needed
