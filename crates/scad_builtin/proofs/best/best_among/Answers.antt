use Rattle.std.proofs.Common.{◌∙◌, ap, sym, subst}
use Rattle.scad_value.specs.Values.{vals_from}
use Rattle.scad_value.specs.View.{vals_of, MeetsAnswer}
use Rattle.scad_builtin.specs.Rows.{is_before}
use Rattle.scad_builtin.specs.Builtins.{best_number}
use Rattle.scad_builtin.proofs.ArgumentLists.{length_in, not_alone}
use Rattle.scad_builtin.proofs.best.best_among.Goals as goal

pub returns-in-None : goal.returns-in-None
returns-in-None c = subst (λ a. MeetsAnswer c.best.result a)
    (ap (λ l. best_number (is_before c.args.wanted) (vals_from l)) c.items-in-None.ensures
    ∙ sym (not_alone (is_before c.args.wanted) (vals_of c.args.values.now)
    (λ h. c.in-None.ensures
    (sym (length_in c.items.result.now (vals_of c.args.values.now) c.items.ensures) ∙ h))))
    c.best.ensures
