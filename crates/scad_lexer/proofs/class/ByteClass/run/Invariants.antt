use Rattle.std.proofs.Common.{◌≡◌, ◌+◌, ◌-◌, ◌≤◌, length, drop}
use Rattle.scad_lexer.specs.Words.{run_of}
use Rattle.scad_lexer.specs.Scanning.{is_of_class}
use Rattle.scad_lexer.proofs.class.ByteClass.run.Given as goal

abbrev pub invariant-loop-n : goal.invariant-loop-n
invariant-loop-n l = record { within : l.n ≤ length l.text; run : run_of (is_of_class l.self) l.text ≡ l.n + run_of (is_of_class l.self) (drop l.n l.text) }

abbrev pub decreases-loop-n : goal.decreases-loop-n
decreases-loop-n l = length l.initial.text - l.n
