use Rattle.std.proofs.Common.{sym, subst}
use Rattle.scad_value.specs.View.{vals_of, MeetsAnswer}
use Rattle.scad_builtin.proofs.ArgumentLists.{by_row}
use Rattle.scad_builtin.proofs.function.Builtin.value_of.Goals as goal

pub returns-in_default : goal.returns-in_default
returns-in_default c = subst (λ a. MeetsAnswer c.of_only.result a)
    (sym (by_row c.args.self (vals_of c.args.values) c.in_default.not-Min c.in_default.not-Max
    c.in_default.not-Concat c.in_default.not-Pow))
    c.of_only.ensures
