use Rattle.scad_value.specs.View.{val_of}
use Rattle.scad_value.proofs.Bounded.{bounded_told, unary_bounded}
use Rattle.scad_value.proofs.operator.unary.Goals as goal

pub returns-clause-bounded : goal.returns-clause-bounded
returns-clause-bounded c =
    bounded_told c.operate_on.result _ c.operate_on.ensures (unary_bounded c.args.op (val_of c.args.of.now))
