use Rattle.std.proofs.Common.{◌∙◌, sym}
use Rattle.scad_value.specs.View.{vals_of}
use Rattle.scad_builtin.specs.Rows.{value_row}
use Rattle.scad_builtin.proofs.ArgumentLists.{length_in, not_one}
use Rattle.scad_builtin.proofs.function.Builtin.of_only.Goals as goal

pub returns-in-None : goal.returns-in-None
returns-in-None c = not_one (value_row c.args.self) (vals_of c.args.values.now)
    (λ h. c.in-None.ensures
    (sym (length_in c.items.result.now (vals_of c.args.values.now) c.items.ensures) ∙ h))
