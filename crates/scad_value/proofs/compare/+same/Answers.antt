use Rattle.std.proofs.Common.{arith}
use Rattle.scad_value.proofs.lemmas.Lists.{apart_out}
use Rattle.scad_value.proofs.compare.+same.Goals as goal

pub all_same-returns-then-len : goal.all_same-returns-then-len
all_same-returns-then-len t c =
    apart_out c.args.left.now c.args.right.now (λ e. absurd (c.if-len.true (omega
    (arith, e, c.args.left.now.items.ok.0, c.args.right.now.items.ok.0, c.len.ensures, c.len-2.ensures))))
