use Rattle.std.proofs.Common.{List, ℤ, sym, subst}
use Rattle.std.specs.Prelude.{IsTrue}
use Rattle.std.proofs.lemmas.Int.{to_z-of_z}
use mir.Syntax.{w64}
use Rattle.scad_meaning.specs.Loops.{number_vals}
use Rattle.scad_instance_rules.specs.BoundedItems.{all_bounded}
use Rattle.scad_instance_rules.proofs.BoundedItems.{bounded_range}
use Rattle.scad_instance_rules.proofs.items.Items.counted.Goals as goal

pub invariant_of-result : goal.invariant_of-result
invariant_of-result c =
    let told = simp (to_z-of_z w64 c.args.from c.ranges.from, to_z-of_z w64 c.args.by c.ranges.by, to_z-of_z w64 c.args.upto c.ranges.upto) at c.of_range.ensures in
    record {
      bounded = subst (λ (ns : List ℤ). IsTrue (all_bounded (number_vals ns))) (sym told) (bounded_range c.args.from c.args.by c.args.upto c.requires);
    }
