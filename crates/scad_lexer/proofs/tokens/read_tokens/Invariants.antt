use Rattle.std.proofs.Common.{◌+◌, ◌≤◌, length}
use Rattle.scad_lexer.proofs.Lexing.{GoesOn}
use Rattle.scad_lexer.proofs.tokens.read_tokens.Given as goal

abbrev pub invariant-words : goal.invariant-words
invariant-words l = record { told : GoesOn l.text l.tokens.items l.place l.rest; line : l.place.line + length l.rest ≤ 1 + length l.text; column : l.place.column + length l.rest ≤ 1 + length l.text }

abbrev pub decreases-words : goal.decreases-words
decreases-words l = length l.rest
