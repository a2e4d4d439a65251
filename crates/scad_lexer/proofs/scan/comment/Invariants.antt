use Rattle.std.proofs.Common.{◌≡◌, ◌-◌, ◌≤◌, length, drop}
use Rattle.scad_lexer.specs.Scanning.{longest_front, in_comment, more_bytes}
use Rattle.scad_lexer.proofs.Scanned.{comment_state}
use Rattle.scad_lexer.proofs.scan.comment.Given as goal

abbrev pub invariant-loop-count : goal.invariant-loop-count
invariant-loop-count l = record { within : l.count ≤ length l.text; told : longest_front in_comment l.text ≡ more_bytes l.count (longest_front (comment_state l.star) (drop l.count l.text)) }

abbrev pub decreases-loop-count : goal.decreases-loop-count
decreases-loop-count l = length l.initial.text - l.count
