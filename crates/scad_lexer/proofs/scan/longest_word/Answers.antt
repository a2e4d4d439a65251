use Rattle.std.proofs.Common.{arith}
use Rattle.scad_lexer.proofs.Scanned.{found_some, found_none, no_word}
use Rattle.scad_lexer.proofs.scan.longest_word.Goals as goal

pub returns-in-empty-clause-none : goal.returns-in-empty-clause-none
returns-in-empty-clause-none c = no_word c.args.text.now (omega arith)

pub returns-in_default-clause-some : goal.returns-in_default-clause-some
returns-in_default-clause-some c = rw c.longer.ensures (found_some c.args.text.now _ (omega arith) c.after_byte.ensures.found)

pub returns-in_default-clause-none : goal.returns-in_default-clause-none
returns-in_default-clause-none c = rw c.longer.ensures (found_none c.args.text.now _ (omega arith) c.after_byte.ensures.found)
