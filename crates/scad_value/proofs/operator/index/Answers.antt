use Rattle.scad_value.specs.View.{val_of}
use Rattle.scad_value.proofs.Bounded.{bounded_told, index_bounded}
use Rattle.scad_value.proofs.operator.index.Goals as goal

pub returns-clause-bounded : goal.returns-clause-bounded
returns-clause-bounded c =
    bounded_told c.part.result _ c.part.ensures (index_bounded (val_of c.args.of.now)
    (val_of c.args.at.now) c.requires.of)
