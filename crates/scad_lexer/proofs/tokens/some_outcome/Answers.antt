use Rattle.scad_lexer.proofs.SomeOutcome.{some_outcome}
use Rattle.scad_lexer.proofs.tokens.some_outcome.Goals as goal

pub returns : goal.returns
returns c = some_outcome
