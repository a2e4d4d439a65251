use Rattle.std.proofs.Common.{◌≡◌, ◌+◌, ◌≤◌, drop}
use Rattle.scad_lexer.specs.Tokens.{place_after}
use Rattle.scad_lexer.proofs.tokens.advance.Given as goal

abbrev pub invariant-loop-byte : goal.invariant-loop-byte
invariant-loop-byte l = record {
  told : place_after l.fn.place l.bytes ≡ place_after (record { line = l.line; column = l.column }) (drop l.byte-index l.bytes);
  line : l.line ≤ l.fn.place.line + l.byte-index;
  column : l.column ≤ l.fn.place.column + l.byte-index;
}
