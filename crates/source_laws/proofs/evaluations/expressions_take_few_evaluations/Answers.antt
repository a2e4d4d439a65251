use Rattle.source_laws.proofs.Bounds.{expression_bounded, expression_counted}
use Rattle.source_laws.proofs.evaluations.expressions_take_few_evaluations.Goals as goal

pub returns-clause-evaluations : goal.returns-clause-evaluations
returns-clause-evaluations c = λ size evaluations calls env bindings counts expression turns held below.
    expression_bounded size evaluations calls env bindings counts expression turns held below

pub returns-clause-counted : goal.returns-clause-counted
returns-clause-counted c = λ size evaluations calls env bindings counts expression turns held below.
    expression_counted size evaluations calls env bindings counts expression turns held below
