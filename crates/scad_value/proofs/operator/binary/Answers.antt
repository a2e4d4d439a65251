use Rattle.scad_value.specs.View.{val_of}
use Rattle.scad_value.proofs.Bounded.{bounded_told, binary_bounded}
use Rattle.scad_value.proofs.operator.binary.Goals as goal

pub returns-clause-bounded : goal.returns-clause-bounded
returns-clause-bounded c =
    bounded_told c.operate.result _ c.operate.ensures (binary_bounded c.args.op (val_of c.args.left.now)
    (val_of c.args.right.now))
