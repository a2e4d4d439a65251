use Rattle.std.proofs.Common.{◌≡◌, ◌+◌, ◌-◌, ◌^◌, ◌≤◌, min, drop}
use Rattle.scad_value.specs.Values.{element_count_in, vals_from}
use Rattle.scad_value.specs.View.{vals_of, vals_in}
use Rattle.scad_value.proofs.value.+parts.Given as goal

abbrev pub invariant-Values::parts-loop-value : goal.invariant-Values::parts-loop-value
invariant-Values::parts-loop-value l = record {
  limit : l.count ≤ 2 ^ 64 - 1;
  count : min (l.count + element_count_in (vals_from (vals_in (drop l.value-index l.self.items.items))))
      (2 ^ 64 - 1)
      ≡ min (element_count_in (vals_from (vals_of l.self))) (2 ^ 64 - 1);
}
