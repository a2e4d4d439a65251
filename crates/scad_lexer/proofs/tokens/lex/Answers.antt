use Rattle.scad_lexer.proofs.EndsOnce.{end_once}
use Rattle.scad_lexer.proofs.FaultPlaces.{stands_at_byte}
use Rattle.scad_lexer.proofs.Lengths.{few_tokens}
use Rattle.scad_lexer.proofs.Lexing.{agrees}
use Rattle.scad_lexer.proofs.tokens.lex.Goals as goal

pub returns-clause-place : goal.returns-clause-place
returns-clause-place c = stands_at_byte c.args.text.now c.read_tokens.result c.read_tokens.ensures.fault

pub returns-clause-only : goal.returns-clause-only
returns-clause-only c = agrees c.args.text.now c.read_tokens.result c.read_tokens.ensures.found c.read_tokens.ensures.fault

pub returns-clause-ends : goal.returns-clause-ends
returns-clause-ends c = end_once (record { line = 1; column = 1 }) c.args.text.now c.read_tokens.result c.read_tokens.ensures.found

pub returns-clause-few : goal.returns-clause-few
returns-clause-few c = few_tokens (record { line = 1; column = 1 }) c.args.text.now c.read_tokens.result c.read_tokens.ensures.found
