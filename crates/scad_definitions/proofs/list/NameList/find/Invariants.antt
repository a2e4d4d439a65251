use Rattle.std.proofs.Common.{◌≡◌, ◌≤◌, length, take}
use Rattle.scad_definitions.specs.Newest.{find_in}
use Rattle.scad_definitions.specs.View.{pairs_in}
use Rattle.scad_definitions.proofs.list.NameList.find.Given as goal

abbrev pub invariant-newest : goal.invariant-newest
invariant-newest g l = record {
  within : l.n ≤ length l.self.items.items;
  covered : l.covered ≡ length l.self.hidden.items;
  above : l.covered ≤ l.n;
  same : find_in (pairs_in l.self.items.items) l.name ≡ find_in (pairs_in (take l.n l.self.items.items)) l.name;
}

abbrev pub decreases-newest : goal.decreases-newest
decreases-newest g l = l.n
