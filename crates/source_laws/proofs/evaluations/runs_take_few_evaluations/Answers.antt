use Rattle.source_laws.proofs.Bounds.{run_is_design, cost_counted, counted_bounded, cost_bounded}
use Rattle.source_laws.proofs.evaluations.runs_take_few_evaluations.Goals as goal

pub returns-clause-run : goal.returns-clause-run
returns-clause-run c = run_is_design

pub returns-clause-counted : goal.returns-clause-counted
returns-clause-counted c = cost_counted

pub returns-clause-most : goal.returns-clause-most
returns-clause-most c = counted_bounded

pub returns-clause-evaluations : goal.returns-clause-evaluations
returns-clause-evaluations c = cost_bounded
