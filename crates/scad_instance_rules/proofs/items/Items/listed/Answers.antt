use Rattle.std.proofs.Common.{List, sym, ap, subst, ◌∙◌}
use Rattle.std.specs.Prelude.{IsTrue}
use Rattle.scad_value.specs.declared.value.Value.{Value}
use Rattle.scad_value.specs.Values.{Val, vals_from}
use Rattle.scad_value.specs.View.{vals_of, vals_in}
use Rattle.scad_instance_rules.specs.BoundedItems.{all_bounded}
use Rattle.scad_instance_rules.proofs.BoundedItems.{list_bounded}
use Rattle.scad_instance_rules.proofs.items.Items.listed.Goals as goal

pub invariant_of-result : goal.invariant_of-result
invariant_of-result c =
    let moved = ap (λ (vs : List Value). vals_in vs) c.into_iter.ensures.rest ∙ c.into_items.ensures in
    record {
      bounded = subst (λ (vs : List Val). IsTrue (all_bounded (vals_from vs))) (sym moved) (list_bounded (vals_from (vals_of c.args.values)) c.requires);
    }
