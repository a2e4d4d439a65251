use Rattle.scad_func.proofs.Holding.{alone_meets, alone_bounded}
use Rattle.scad_func.proofs.value.value_in.Goals as goal

pub returns-clause-value : goal.returns-clause-value
returns-clause-value c = record {
  value = alone_meets c.evaluate.result c.value_alone-value.result _ _ c.value_alone-value.ensures c.evaluate.ensures.value;
  bounded = alone_bounded c.evaluate.result c.value_alone-value.result c.value_alone-value.ensures;
}
