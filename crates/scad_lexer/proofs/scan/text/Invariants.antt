use Rattle.std.proofs.Common.{◌≡◌, ◌-◌, ◌≤◌, length, drop}
use Rattle.scad_lexer.specs.Scanning.{longest_front, in_text, more_bytes}
use Rattle.scad_lexer.proofs.Scanned.{text_state}
use Rattle.scad_lexer.proofs.scan.text.Given as goal

abbrev pub invariant-loop-count : goal.invariant-loop-count
invariant-loop-count l = record { within : l.count ≤ length l.text; told : longest_front in_text l.text ≡ more_bytes l.count (longest_front (text_state l.escaped) (drop l.count l.text)) }

abbrev pub decreases-loop-count : goal.decreases-loop-count
decreases-loop-count l = length l.initial.text - l.count
