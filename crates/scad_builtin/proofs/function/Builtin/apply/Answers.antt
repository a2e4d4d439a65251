use Rattle.scad_value.specs.View.{vals_of}
use Rattle.scad_builtin.proofs.Bounds.{gives_bounded}
use Rattle.scad_builtin.proofs.function.Builtin.apply.Goals as goal

pub returns-clause-bounded : goal.returns-clause-bounded
returns-clause-bounded c =
    gives_bounded c.args.self (vals_of c.args.values) c.value_of.result c.value_of.ensures c.requires
