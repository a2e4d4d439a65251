use Rattle.std.proofs.Common.{◌≡◌, ◌++◌, drop}
use Rattle.plain_text.proofs.lists.Lines.copy_of.Given as goal

abbrev pub invariant-loop-line : goal.invariant-loop-line
invariant-loop-line l = l.copy.items ++ drop l.line-index l.lines ≡ l.lines
