use Rattle.std.proofs.Common.{◌≡◌, ◌++◌, drop, flat_map}
use Rattle.off_text.specs.Numbering.{number_word}
use Rattle.off_text.proofs.writing.push_line.Given as goal

abbrev pub invariant-loop-number : goal.invariant-loop-number
invariant-loop-number l = l.out.items ++ flat_map number_word (drop l.number-index l.face) ≡ l.initial.out.items ++ flat_map number_word l.face
