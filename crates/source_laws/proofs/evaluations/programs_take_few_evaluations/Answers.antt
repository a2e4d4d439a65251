use Rattle.source_laws.proofs.Bounds.{tokens_bounded}
use Rattle.source_laws.proofs.WrittenSizes.{written_size}
use Rattle.source_laws.proofs.evaluations.programs_take_few_evaluations.Goals as goal

pub returns-clause-size : goal.returns-clause-size
returns-clause-size c = written_size

pub returns-clause-evaluations : goal.returns-clause-evaluations
returns-clause-evaluations c = tokens_bounded
