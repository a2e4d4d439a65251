use Rattle.std.proofs.Common.{◌∙◌, sym}
use Rattle.scad_value.specs.View.{vals_of}
use Rattle.scad_builtin.specs.Builtins.{power_of_values}
use Rattle.scad_builtin.proofs.ArgumentLists.{length_in, not_two}
use Rattle.scad_builtin.proofs.number.power.Goals as goal

pub returns-in-None : goal.returns-in-None
returns-in-None c = not_two power_of_values (vals_of c.args.values.now)
    (λ h. c.in-None.ensures
    (sym (length_in c.items.result.now (vals_of c.args.values.now) c.items.ensures) ∙ h))
