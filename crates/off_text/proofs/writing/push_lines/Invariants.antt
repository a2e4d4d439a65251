use Rattle.std.proofs.Common.{◌≡◌, ◌++◌, drop}
use Rattle.off_text.specs.FaceNumbers.{lines_from, lines_of}
use Rattle.off_text.proofs.writing.push_lines.Given as goal

abbrev pub invariant-loop-count : goal.invariant-loop-count
invariant-loop-count l = l.out.items ++ lines_from (drop l.count-index l.count-items) l.left ≡ l.initial.out.items ++ lines_of l.faces
