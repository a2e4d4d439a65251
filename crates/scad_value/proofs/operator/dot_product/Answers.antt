use Rattle.std.proofs.Common.{◌∙◌, sym, ap, subst, arith}
use Rattle.scad_value.specs.Operators.{number_answer}
use Rattle.scad_value.specs.View.{MeetsAnswer}
use Rattle.scad_value.proofs.lemmas.Lists.{dot_row_is, dot_row_apart}
use Rattle.scad_value.proofs.operator.dot_product.Goals as goal

pub returns-then-len : goal.returns-then-len
returns-then-len c = dot_row_apart c.args.left.now c.args.right.now (λ e. absurd (c.if-len.true (omega
    (arith, e, c.args.left.now.items.ok.0, c.args.right.now.items.ok.0, c.len-2.ensures, c.len-3.ensures))))

pub returns : goal.returns
returns c = subst (λ a. MeetsAnswer c.number.result a)
    (ap number_answer c.sized_dot.ensures
    ∙ sym (dot_row_is c.args.left.now c.args.right.now (λ e. absurd (c.if-len-eq0.false (omega
    (arith, e, c.args.left.now.items.ok.0, c.len.ensures))))
    (omega (arith, c.if-len.false, c.args.left.now.items.ok.0, c.args.right.now.items.ok.0, c.len-2.ensures, c.len-3.ensures))))
    c.number.ensures
