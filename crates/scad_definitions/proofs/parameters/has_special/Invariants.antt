use Rattle.std.proofs.Common.{◌≡◌, ◌≤◌, length, take}
use Rattle.scad_definitions.specs.Newest.{find_in}
use Rattle.scad_definitions.specs.ArgumentsView.{special_pairs}
use Rattle.scad_definitions.proofs.parameters.has_special.Given as goal

abbrev pub invariant-newest : goal.invariant-newest
invariant-newest g l = record {
  within : l.n ≤ length l.dynamic;
  same : find_in (special_pairs l.dynamic) l.name ≡ find_in (special_pairs (take l.n l.dynamic)) l.name;
}

abbrev pub decreases-newest : goal.decreases-newest
decreases-newest g l = l.n
