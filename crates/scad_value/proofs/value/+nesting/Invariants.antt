use Rattle.std.proofs.Common.{◌≡◌, ◌-◌, ◌^◌, ◌≤◌, min, max, drop}
use Rattle.scad_value.specs.Values.{nesting_in, vals_from}
use Rattle.scad_value.specs.View.{vals_of, vals_in}
use Rattle.scad_value.proofs.value.+nesting.Given as goal

abbrev pub invariant-Values::nesting-loop-value : goal.invariant-Values::nesting-loop-value
invariant-Values::nesting-loop-value l = record {
  limit : l.deepest ≤ 2 ^ 64 - 1;
  deepest : min (max l.deepest (nesting_in (vals_from (vals_in (drop l.value-index l.self.items.items)))))
      (2 ^ 64 - 1)
      ≡ min (nesting_in (vals_from (vals_of l.self))) (2 ^ 64 - 1);
}
