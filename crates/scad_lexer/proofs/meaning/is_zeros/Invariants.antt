use Rattle.std.proofs.Common.{◌≡◌, drop, nat_eq}
use Rattle.scad_lexer.specs.Scanning.{all_bytes}
use Rattle.scad_lexer.proofs.meaning.is_zeros.Given as goal

abbrev pub invariant-loop-byte : goal.invariant-loop-byte
invariant-loop-byte l = all_bytes (λ c. nat_eq c 48) l.bytes ≡ all_bytes (λ c. nat_eq c 48) (drop l.byte-index l.bytes)
