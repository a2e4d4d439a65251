use Rattle.std.proofs.Common.{◌≡◌, ◌∙◌, sym, ap, subst, arith}
use Rattle.std.specs.Prelude.{IfOk}
use Rattle.scad_value.specs.Values.{vals_from}
use Rattle.scad_value.specs.Operators.{item_at}
use Rattle.scad_value.specs.View.{val_of}
use Rattle.scad_value.proofs.lemmas.Lists.{item_here, item_past}
use Rattle.scad_value.proofs.operator.item_from_start.Goals as goal

pub returns-then-n-items : goal.returns-then-n-items
returns-then-n-items c = c.undef.ensures
    ∙ sym (ap (λ xs. item_at (vals_from xs) c.args.n) (sym c.items-items.ensures)
    ∙ item_past c.items-items.result.now c.args.n (omega arith))

pub returns : goal.returns
returns c = subst (λ x. IfOk c.copy.result (λ v. val_of v ≡ x))
    (sym (item_here c.items-items.result.now c.args.n c.index-items-n.result
    (omega arith) c.index-items-n.is)
    ∙ ap (λ xs. item_at (vals_from xs) c.args.n) c.items-items.ensures)
    c.copy.ensures
