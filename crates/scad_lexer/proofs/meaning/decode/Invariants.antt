use Rattle.std.proofs.Common.{◌≡◌, ◌-◌, ◌≤◌, length, drop}
use Rattle.scad_lexer.specs.Tokens.{bytes_written}
use Rattle.scad_lexer.proofs.Meanings.{joined}
use Rattle.scad_lexer.proofs.meaning.decode.Given as goal

abbrev pub invariant-loop-count : goal.invariant-loop-count
invariant-loop-count l = record { within : l.count ≤ length l.without_quotes; told : bytes_written l.without_quotes ≡ joined l.bytes.items l.count (bytes_written (drop l.count l.without_quotes)) }

abbrev pub decreases-loop-count : goal.decreases-loop-count
decreases-loop-count l = length l.initial.without_quotes - l.count
