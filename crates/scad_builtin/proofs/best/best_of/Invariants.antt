use Rattle.std.proofs.Common.{◌≡◌, drop}
use Rattle.scad_value.specs.Values.{vals_from}
use Rattle.scad_value.specs.View.{vals_in}
use Rattle.scad_builtin.specs.Builtins.{best_of}
use Rattle.scad_builtin.specs.Rows.{is_before}
use Rattle.scad_builtin.proofs.best.best_of.Given as goal

abbrev pub invariant-loop-value : goal.invariant-loop-value
invariant-loop-value l = best_of (is_before l.wanted) l.best (vals_from (vals_in (drop l.value-index l.rest)))
    ≡ best_of (is_before l.wanted) l.first (vals_from (vals_in l.rest))
