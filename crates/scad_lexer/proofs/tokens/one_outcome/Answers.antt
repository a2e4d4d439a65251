use Rattle.scad_lexer.proofs.Lexing.{one_outcome}
use Rattle.scad_lexer.proofs.tokens.one_outcome.Goals as goal

pub returns : goal.returns
returns c = one_outcome
