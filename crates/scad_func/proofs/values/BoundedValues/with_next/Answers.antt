use Rattle.scad_func.proofs.Again.{bounded_more}
use Rattle.scad_func.proofs.values.BoundedValues.with_next.Goals as goal

pub invariant_of-result : goal.invariant_of-result
invariant_of-result c = record {
  bounded = bounded_more c.args.self.items.items c.args.next c.value_alone-next.result c.in-Ok.items
      c.args.self.bounded c.value_alone-next.ensures c.in-Ok.ensures;
}
